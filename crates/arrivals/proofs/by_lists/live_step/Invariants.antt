-- `arrivals::by_lists::live_step`. The loop's invariant: all is filled in before the place `at` at step t, which is free, or of all places; what corridors
-- lead to from the rows of this step is in `onward`; and the lists stand for the rows before the step, the new rows of the places in `grown` beside.
use mathlib.Core.Path.{◌≡◌}
use Prim.Native.Nat.{ℕ, ◌+◌, ◌*◌, ◌-◌, ◌<◌}
use lib.ListN.{length, get_or}
use Rattle.arrivals.specs.Inner.Due.{Lookout, Onward}
use Rattle.arrivals.specs.Inner.Network.{places_of}
use Rattle.arrivals.specs.Inner.Standing.{Gathering}
use Rattle.arrivals.specs.Inner.Walking.{Due, Walking, place_or}
use Rattle.arrivals.proofs.by_lists.live_step.Given as goal

abbrev pub invariant-loop-at : goal.invariant-loop-at
invariant-loop-at l = (length l.table ≡ length l.initial.table) × (length l.live ≡ length l.initial.live) × Walking l.runs l.net l.table l.n (place_or (places_of l.net) l.at) l.t.0 × Due l.runs l.net l.t.0 l.at × Lookout l.runs l.net l.table l.n l.t.0 l.set × Onward l.net l.table l.n (l.t.0 + 1) l.onward × Gathering l.runs l.net l.table l.rows l.n l.live l.t.0 (place_or (places_of l.net) l.at) l.grown × ((j : ℕ) → j < l.rows * 5 → get_or l.table j 0 ≡ get_or l.initial.table j 0)

abbrev pub decreases-loop-at : goal.decreases-loop-at
decreases-loop-at l = places_of l.net - place_or (places_of l.net) l.at
