-- `costs::before`. The loop's invariant: the first i figures of a are those of b. The measure is what is left of the three figures.
use mathlib.Core.Path.{◌≡◌}
use Prim.Native.Nat.{ℕ, ◌-◌, ◌≤◌, ◌<◌}
use Rattle.costs.specs.Costs.{fig}
use Rattle.costs.proofs.before.Given as goal

abbrev pub invariant-loop-i : goal.invariant-loop-i
invariant-loop-i l = (l.i ≤ 3) × ((k : ℕ) → k < l.i → fig l.a k ≡ fig l.b k)

abbrev pub decreases-loop-i : goal.decreases-loop-i
decreases-loop-i l = 3 - l.i
