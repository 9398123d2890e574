-- `journeys::goal::order_rows`. The loop's invariant: the goal's rows before row k are ordered.
use Rattle.journeys.specs.Inner.Chain.{Ordering}
use Rattle.journeys.proofs.goal.order_rows.Given as goal

abbrev pub invariant-loop-k : goal.invariant-loop-k
invariant-loop-k l = Ordering l.v.0 l.counting l.k l.initial.table l.table l.at
