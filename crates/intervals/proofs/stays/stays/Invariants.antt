-- `intervals::stays::stays`. The loop's invariant: the first t steps are told. The measure is what is left of the steps.
use Prim.Native.Nat.{◌-◌, ◌≤◌}
use Rattle.costs.specs.Laws.Figures.{Stored}
use Rattle.intervals.specs.Inner.{stay_by}
use Rattle.intervals.proofs.stays.stays.Given as goal

abbrev pub invariant-loop-t : goal.invariant-loop-t
invariant-loop-t l = (l.t ≤ 256) × Stored 256 (stay_by l.since l.v.0 l.last.0 l.n) l.t l.told

abbrev pub decreases-loop-t : goal.decreases-loop-t
decreases-loop-t l = 256 - l.t
