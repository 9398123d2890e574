-- `arrivals::offers::place_of`. The loop's invariant: the rows from k on come after g.
use Prim.Native.Nat.{◌≤◌}
use Rattle.arrivals.specs.Inner.Offering.{After}
use Rattle.arrivals.proofs.offers.place_of.Given as goal

abbrev pub invariant-loop-g : goal.invariant-loop-g
invariant-loop-g l = (l.k ≤ l.d) × After l.g l.a l.k l.d l.table

abbrev pub decreases-loop-g : goal.decreases-loop-g
decreases-loop-g l = l.k
