-- `journeys::slow::is_front_row`. The loop's invariant: none of the first j rows keeps row k off. The measure is what is left of the rows.
use mathlib.Core.Path.{◌≡◌}
use mathlib.Core.Bool.{true}
use Prim.Native.Nat.{◌-◌, ◌≤◌}
use Rattle.journeys.specs.Inner.Slow.{none_below, kept_off}
use Rattle.journeys.proofs.slow.is_front_row.Given as goal

abbrev pub invariant-loop-j : goal.invariant-loop-j
invariant-loop-j l = (l.j ≤ l.n) × (none_below (kept_off l.v.0 l.counting l.table l.k) l.j ≡ true)

abbrev pub decreases-loop-j : goal.decreases-loop-j
decreases-loop-j l = l.n - l.j
