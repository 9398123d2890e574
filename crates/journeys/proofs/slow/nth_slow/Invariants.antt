-- `journeys::slow::nth_slow`. The loop's invariant: none of the first k rows is the one. The measure is what is left of the rows.
use mathlib.Core.Path.{◌≡◌}
use mathlib.Core.Bool.{true}
use Prim.Native.Nat.{◌-◌, ◌≤◌}
use Rattle.journeys.specs.Inner.Slow.{none_below, has_number}
use Rattle.journeys.proofs.slow.nth_slow.Given as goal

abbrev pub invariant-loop-k : goal.invariant-loop-k
invariant-loop-k l = (l.k ≤ l.n) × (none_below (has_number l.v.0 l.counting l.n l.table l.number) l.k ≡ true)

abbrev pub decreases-loop-k : goal.decreases-loop-k
decreases-loop-k l = l.n - l.k
