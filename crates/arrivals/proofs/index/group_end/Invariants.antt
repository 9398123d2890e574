-- `arrivals::index::group_end`. The loop's invariant: the rows from k to i are of one place and step.
use Rattle.std.proofs.Common.{◌≤◌, ◌<◌}
use Rattle.arrivals.specs.Inner.Renoting.{Same}
use Rattle.arrivals.proofs.index.group_end.Given as goal

abbrev pub invariant-loop-i : goal.invariant-loop-i
invariant-loop-i l = (l.k < l.i) × (l.i ≤ l.n) × Same l.table l.k l.i
