-- `arrivals::offers::beaten`. The loop's invariant: none of the first i rows is.
use Prim.Native.Nat.{◌-◌, ◌≤◌}
use Rattle.arrivals.specs.Inner.Offering.{Beaten}
use Rattle.arrivals.specs.Inner.Rows.{tail_of}
use Rattle.arrivals.proofs.offers.beaten.Given as goal

abbrev pub invariant-loop-i : goal.invariant-loop-i
invariant-loop-i l = (l.i ≤ l.d) × (Beaten (tail_of l.table l.a l.i) l.g → ⊥)

abbrev pub decreases-loop-i : goal.decreases-loop-i
decreases-loop-i l = l.d - l.i
