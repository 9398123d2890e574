-- `journeys::chain::release`. The loop's invariant: the rows taken out have gone, and those after the gap are rows of the table. The measure is the count of
-- rows after the gap.
use Rattle.journeys.specs.Inner.Chain.{Releasable, Gone}
use Rattle.journeys.proofs.chain.release.Given as goal

abbrev pub invariant-loop-at : goal.invariant-loop-at
invariant-loop-at l = Releasable l.table l.at × Gone l.v.0 l.bound l.initial.table l.table l.initial.at l.at

abbrev pub decreases-loop-at : goal.decreases-loop-at
decreases-loop-at l = l.at.rest
