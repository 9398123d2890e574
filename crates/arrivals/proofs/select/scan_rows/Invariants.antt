-- `arrivals::select::scan_rows`. The loop's invariant: b is the best of best and of the rows below k.
use Prim.Native.Nat.{◌-◌, ◌≤◌}
use Rattle.arrivals.specs.Inner.Entering.{LedAt}
use Rattle.arrivals.specs.Inner.Pruning.{Tried}
use Rattle.arrivals.specs.Inner.Rows.{rows_of}
use Rattle.arrivals.specs.Inner.Selecting.{Improved, Scan, next_of}
use Rattle.arrivals.specs.Rows.{row_at}
use Rattle.arrivals.proofs.select.scan_rows.Given as goal

abbrev pub invariant-loop-k : goal.invariant-loop-k
invariant-loop-k l = (l.k ≤ l.n) × Improved (Scan (Tried l.from l.here.step.0) (λ g. LedAt (rows_of l.table l.n) l.here g → ⊥) (row_at l.table) (rows_of l.table) l.k) (next_of l.initial.b) (next_of l.b)

abbrev pub decreases-loop-k : goal.decreases-loop-k
decreases-loop-k l = l.n - l.k
