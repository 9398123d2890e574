-- `arrivals::lists::append`. The loop's invariant: the first i rows are added.
use Rattle.std.proofs.Common.{◌≤◌}
use Rattle.arrivals.specs.Inner.Lists.{Appended}
use Rattle.arrivals.proofs.lists.append.Given as goal

abbrev pub invariant-loop-i : goal.invariant-loop-i
invariant-loop-i l = (l.i ≤ l.d) × Appended l.table l.from l.i l.initial.live l.live l.at l.rest
