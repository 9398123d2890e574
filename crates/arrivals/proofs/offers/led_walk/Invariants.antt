-- `arrivals::offers::led_walk`. The loop's invariant: no row of it at step s or later leads g.
use mathlib.Core.Path.{◌≡◌}
use Prim.Native.Nat.{◌+◌, ◌<◌, ◌≤◌, ℕ}
use lib.ListN.{length}
use Rattle.arrivals.specs.Inner.Entering.{RowLeadsAt}
use Rattle.arrivals.specs.Inner.Index.{Listed, room_of}
use Rattle.arrivals.specs.Rows.{row_at}
use Rattle.arrivals.proofs.offers.led_walk.Given as goal

abbrev pub invariant-loop-s : goal.invariant-loop-s
invariant-loop-s l = (l.s ≤ l.here.step.0 + 1) × (l.here.step.0 ≤ 255) × (room_of l.here.step.0 ≤ length l.ix) × ((i : ℕ) → i < l.n → Listed l.ix l.table i → (row_at l.table i).place ≡ l.here.place.0 → l.s ≤ (row_at l.table i).step → RowLeadsAt l.here l.g (row_at l.table i) → ⊥)

abbrev pub decreases-loop-s : goal.decreases-loop-s
decreases-loop-s l = l.s
