-- `arrivals::select::fill_place`. The loop's invariant: the place is being filled in, with the rows below n.
use mathlib.Core.Path.{◌≡◌}
use Prim.Native.Nat.{◌*◌, ◌-◌, ◌≤◌}
use lib.ListN.{length}
use Rattle.arrivals.specs.Inner.Filling.{Filling, Grown}
use Rattle.arrivals.specs.Inner.Network.{case_of}
use Rattle.arrivals.specs.Inner.Rows.{rows_of}
use Rattle.arrivals.proofs.select.fill_place.Given as goal

abbrev pub invariant-loop-cost : goal.invariant-loop-cost
invariant-loop-cost l = (l.n * 5 ≤ length l.table) × (length l.table ≡ length l.initial.table) × Filling (case_of l.runs l.net) (rows_of l.table l.n) l.here.step.0 l.here.place.0 × Grown l.initial.table l.table l.rows l.n l.here.place.0 l.here.step.0

abbrev pub decreases-loop-cost : goal.decreases-loop-cost
decreases-loop-cost l = length l.initial.table - l.n * 5
