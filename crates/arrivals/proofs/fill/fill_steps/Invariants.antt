-- `arrivals::fill::fill_steps`. The loop's invariant: all is filled in before step t, and what corridors lead to from the rows of the step before is in
-- `next`.
use mathlib.Core.Path.{◌≡◌}
use Prim.Native.Nat.{◌*◌, ◌-◌, ◌≤◌}
use lib.ListN.{length}
use Rattle.arrivals.specs.Inner.Due.{IndexedShort, Onward}
use Rattle.arrivals.specs.Inner.Filling.{Filled}
use Rattle.arrivals.specs.Inner.Network.{case_of}
use Rattle.arrivals.specs.Inner.Rows.{rows_of}
use Rattle.arrivals.proofs.fill.fill_steps.Given as goal

abbrev pub invariant-loop-t : goal.invariant-loop-t
invariant-loop-t l = (1 ≤ l.t) × (l.t ≤ l.t-end) × (l.n * 5 ≤ length l.table) × (length l.table ≡ length l.initial.table) × (length l.ix ≡ length l.initial.ix) × Filled (case_of l.runs l.net) (rows_of l.table l.n) l.t 0 × IndexedShort l.table l.n l.ix (l.t - 1) l.t l.net × Onward l.net l.table l.n l.t l.next
