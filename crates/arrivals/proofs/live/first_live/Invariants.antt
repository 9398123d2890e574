-- `arrivals::live::first_live`. The loop's invariant: the rows of the span below k are undercut.
use Rattle.std.proofs.Common.{ℕ, ◌≤◌, ◌<◌}
use Rattle.arrivals.specs.Inner.Settling.{Undercut}
use Rattle.arrivals.proofs.live.first_live.Given as goal

abbrev pub invariant-loop-k : goal.invariant-loop-k
invariant-loop-k l = (l.span.lo ≤ l.k) × (l.k ≤ l.span.hi) × ((i : ℕ) → l.span.lo ≤ i → i < l.k → Undercut l.table l.lag l.by i)
