-- `arrivals::index::note_step`. The loop's invariant: the rows from k to i are noted, and a group begins at i.
use Rattle.std.proofs.Common.{◌-◌}
use Rattle.arrivals.specs.Inner.Renoting.{Noting}
use Rattle.arrivals.proofs.index.note_step.Given as goal

abbrev pub invariant-loop-i : goal.invariant-loop-i
invariant-loop-i l = Noting l.table l.k l.n l.initial.ix l.ix l.i

abbrev pub decreases-loop-i : goal.decreases-loop-i
decreases-loop-i l = l.n - l.i
