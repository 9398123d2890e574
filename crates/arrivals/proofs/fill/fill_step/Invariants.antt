-- `arrivals::fill::fill_step`. The loop's invariant: all is filled in before the place `at` at step t, which is free, or of all places; and what corridors
-- lead to from the rows of this step is in `onward`.
use mathlib.Core.Path.{◌≡◌}
use Prim.Native.Nat.{◌+◌, ◌-◌}
use lib.ListN.{length}
use Rattle.arrivals.specs.Inner.Due.{IndexedShort, Lookout, Onward}
use Rattle.arrivals.specs.Inner.Network.{places_of}
use Rattle.arrivals.specs.Inner.Walking.{Due, Walking, place_or}
use Rattle.arrivals.proofs.fill.fill_step.Given as goal

abbrev pub invariant-loop-at : goal.invariant-loop-at
invariant-loop-at l = (length l.table ≡ length l.initial.table) × (length l.ix ≡ length l.initial.ix) × Walking l.runs l.net l.table l.n (place_or (places_of l.net) l.at) l.t.0 × IndexedShort l.table l.n l.ix l.t.0 l.t.0 l.net × Due l.runs l.net l.t.0 l.at × Lookout l.runs l.net l.table l.n l.t.0 l.set × Onward l.net l.table l.n (l.t.0 + 1) l.onward

abbrev pub decreases-loop-at : goal.decreases-loop-at
decreases-loop-at l = places_of l.net - place_or (places_of l.net) l.at
