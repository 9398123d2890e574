-- `arrivals::fill::next_place`. The loop's invariant: the places from v to u are passed over.
use mathlib.Core.List.{List}
use Prim.Native.Nat.{ℕ, ◌-◌, ◌≤◌}
use Rattle.arrivals.specs.Inner.Due.{Lookout}
use Rattle.arrivals.specs.Inner.Network.{places_of}
use Rattle.arrivals.specs.Inner.Walking.{Walking}
use Rattle.arrivals.proofs.fill.next_place.Given as goal

abbrev pub invariant-loop-u : goal.invariant-loop-u
invariant-loop-u l = (l.v ≤ l.u) × ((xs : List ℕ) (n : ℕ) → Lookout l.runs l.net xs n l.t.0 l.set → Walking l.runs l.net xs n l.v l.t.0 → Walking l.runs l.net xs n l.u l.t.0)

abbrev pub decreases-loop-u : goal.decreases-loop-u
decreases-loop-u l = places_of l.net - l.u
