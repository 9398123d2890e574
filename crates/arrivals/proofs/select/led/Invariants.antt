-- `arrivals::select::led`. The loop's invariant: no row from k on leads.
use Prim.Native.Nat.{◌<◌, ◌≤◌, ℕ}
use Rattle.arrivals.specs.Inner.Entering.{RowLeadsAt}
use Rattle.arrivals.specs.Rows.{row_at}
use Rattle.arrivals.proofs.select.led.Given as goal

abbrev pub invariant-loop-k : goal.invariant-loop-k
invariant-loop-k l = (l.k ≤ l.n) × ((j : ℕ) → l.k ≤ j → j < l.n → RowLeadsAt l.here l.g (row_at l.table j) → ⊥)
