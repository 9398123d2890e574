-- `journeys::compare::same_costs`. The loop's invariant: the first k costs are equal.
use Rattle.journeys.specs.Inner.{SameRows}
use Rattle.journeys.proofs.compare.same_costs.Given as goal

abbrev pub invariant-loop-k : goal.invariant-loop-k
invariant-loop-k l = SameRows l.k l.a l.b
