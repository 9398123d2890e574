-- `arrivals::lists::shift`. The loop's invariant: the costs below i are moved, and all numbers besides them are the old ones.
use Prim.Native.Nat.{◌-◌, ◌≤◌}
use Rattle.arrivals.proofs.Steps.{Moved}
use Rattle.arrivals.proofs.lists.shift.Given as goal

abbrev pub invariant-loop-i : goal.invariant-loop-i
invariant-loop-i l = (l.i ≤ l.n) × Moved l.initial.live l.live l.from l.to l.i

abbrev pub decreases-loop-i : goal.decreases-loop-i
decreases-loop-i l = l.n - l.i
