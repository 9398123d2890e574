-- `arrivals::offers::thin`. The loop's invariant: k of the first i rows are kept, and the rows past them are as they were.
use mathlib.Core.Path.{◌≡◌}
use Prim.Native.Nat.{◌*◌, ◌+◌, ◌-◌, ◌<◌, ◌≤◌, ℕ}
use lib.ListN.{get_or, length}
use Rattle.arrivals.specs.Inner.Offering.{Thin}
use Rattle.arrivals.specs.Inner.Rows.{tail_of}
use Rattle.arrivals.proofs.offers.thin.Given as goal

abbrev pub invariant-loop-i : goal.invariant-loop-i
invariant-loop-i l = (l.k ≤ l.i) × (l.i ≤ l.d) × (length l.table ≡ length l.initial.table) × ((j : ℕ) → j < l.a * 5 → get_or l.table j 0 ≡ get_or l.initial.table j 0) × ((j : ℕ) → (l.a + l.i) * 5 ≤ j → get_or l.table j 0 ≡ get_or l.initial.table j 0) × Thin l.g (tail_of l.initial.table l.a l.i) (tail_of l.table l.a l.k)

abbrev pub decreases-loop-i : goal.decreases-loop-i
decreases-loop-i l = l.d - l.i
