-- `journeys::goal::seek`. The loop's invariant: the gap is one of the same chain, and g is not before the row before it. The measure is the count of rows
-- after the gap.
use Rattle.journeys.specs.Inner.Chain.{Seekable, SoughtFrom}
use Rattle.journeys.proofs.goal.seek.Given as goal

abbrev pub invariant-loop-gap : goal.invariant-loop-gap
invariant-loop-gap l = Seekable l.table l.gap × SoughtFrom l.table l.initial.gap l.g l.gap

abbrev pub decreases-loop-gap : goal.decreases-loop-gap
decreases-loop-gap l = l.gap.rest
