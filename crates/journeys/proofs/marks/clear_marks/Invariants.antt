-- `journeys::marks::clear_marks`. The loop's invariant: the rows below number k have no mark any more, and all else is kept. The measure is what is left of
-- the rows.
use Prim.Native.Nat.{◌-◌, ◌≤◌}
use Rattle.journeys.specs.Inner.Marks.{Bared}
use Rattle.journeys.proofs.marks.clear_marks.Given as goal

abbrev pub invariant-loop-k : goal.invariant-loop-k
invariant-loop-k l = (l.k ≤ l.n) × Bared l.k l.initial.table l.table

abbrev pub decreases-loop-k : goal.decreases-loop-k
decreases-loop-k l = l.n - l.k
