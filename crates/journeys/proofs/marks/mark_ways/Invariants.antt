-- `journeys::marks::mark_ways`. The loop's invariant: the table is as it was but for the marks, and the marks of a front cost that were right at the arrival
-- are right from step t - 1 on.
use Prim.Native.Nat.{◌-◌}
use Rattle.costs.specs.Costs.{Cost}
use Rattle.journeys.specs.Front.{OnFront}
use Rattle.journeys.specs.Inner.Marks.{SameButMarks, Passed, Marks}
use Rattle.journeys.proofs.marks.mark_ways.Given as goal

abbrev pub invariant-loop-t : goal.invariant-loop-t
invariant-loop-t l = SameButMarks l.n l.initial.table l.table × Passed l.sheet l.n l.table l.t
    × ((f : Cost) → OnFront l.sheet f → Marks l.sheet f l.fn.arrival.0 l.n l.initial.table l.fn.arrival.0 → Marks l.sheet f l.fn.arrival.0 l.n l.table (l.t - 1))
