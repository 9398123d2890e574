-- `arrivals::live::last_live`. The loop's invariant: the rows of the span from i on are undercut.
use Rattle.std.proofs.Common.{ℕ, ◌≤◌, ◌<◌}
use Rattle.arrivals.specs.Inner.Settling.{Undercut}
use Rattle.arrivals.proofs.live.last_live.Given as goal

abbrev pub invariant-loop-i : goal.invariant-loop-i
invariant-loop-i l = (l.span.lo ≤ l.i) × (l.i ≤ l.span.hi) × ((k : ℕ) → l.i ≤ k → k < l.span.hi → Undercut l.table l.lag l.by k)
