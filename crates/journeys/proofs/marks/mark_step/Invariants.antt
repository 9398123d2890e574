-- `journeys::marks::mark_step`. The loop's invariant: the rows from which a cart can cross to where a row below number k stands are marked. The measure is
-- what is left of the rows.
use Prim.Native.Nat.{◌-◌, ◌≤◌}
use Rattle.journeys.specs.Inner.Marks.{Raised, Onto}
use Rattle.journeys.proofs.Marking.{Below}
use Rattle.journeys.proofs.marks.mark_step.Given as goal

abbrev pub invariant-loop-k : goal.invariant-loop-k
invariant-loop-k l = (l.k ≤ l.n) × Raised l.n l.initial.table l.table l.t.0 (Below (Onto l.sheet l.initial.table l.t.0) l.k)

abbrev pub decreases-loop-k : goal.decreases-loop-k
decreases-loop-k l = l.n - l.k
