-- `journeys::slow::count_rows`. The loop's invariant: the count is that of the first k rows. The measure is what is left of the rows.
use mathlib.Core.Path.{◌≡◌}
use Prim.Native.Nat.{◌-◌, ◌≤◌}
use Rattle.journeys.specs.Inner.Slow.{count_to}
use Rattle.journeys.proofs.slow.count_rows.Given as goal

abbrev pub invariant-loop-k : goal.invariant-loop-k
invariant-loop-k l = (l.k ≤ l.n) × (l.count ≤ l.k) × (l.count ≡ count_to l.v.0 l.counting l.n l.table l.every l.g l.k)

abbrev pub decreases-loop-k : goal.decreases-loop-k
decreases-loop-k l = l.n - l.k
