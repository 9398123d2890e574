-- `costs::at_most`. The loop's invariant: what is joined is below 2^32 and the first i figures are at most b's, or it is 2^32 or more and a figure is
-- greater. The measure is what is left of the three figures.
use mathlib.Core.Logic.{◌⊎◌}
use Prim.Native.Nat.{ℕ, ◌-◌, ◌≤◌, ◌<◌}
use Rattle.costs.specs.Costs.{fig}
use Rattle.costs.specs.Laws.Figures.{Greater}
use Rattle.costs.proofs.at_most.Given as goal

abbrev pub invariant-loop-i : goal.invariant-loop-i
invariant-loop-i l =
    (l.i ≤ 3) × (((l.over < 4294967296) × ((k : ℕ) → k < l.i → fig l.a k ≤ fig l.b k)) ⊎ ((4294967296 ≤ l.over) × Greater l.a l.b))

abbrev pub decreases-loop-i : goal.decreases-loop-i
decreases-loop-i l = 3 - l.i
