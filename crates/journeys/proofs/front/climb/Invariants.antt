-- `journeys::front::climb`. The loop's invariant: no row before the gap is nowhere above row k, and each has a lower third figure. The measure is the count
-- of rows after the gap.
use Rattle.journeys.proofs.Climbing.{Climbing}
use Rattle.journeys.specs.Inner.Chain.{chain}
use Rattle.journeys.proofs.front.climb.Given as goal

abbrev pub invariant-loop-gap : goal.invariant-loop-gap
invariant-loop-gap l = Climbing l.table (chain l.table l.size l.top) l.k l.gap

abbrev pub decreases-loop-gap : goal.decreases-loop-gap
decreases-loop-gap l = l.gap.rest
