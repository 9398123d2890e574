-- `arrivals::offers::insert`. The loop's invariant: those from k on have, and the rest is as it was.
use mathlib.Core.Path.{◌≡◌}
use Prim.Native.Nat.{◌≤◌}
use lib.ListN.{length}
use Rattle.arrivals.specs.Inner.Offering.{Moved}
use Rattle.arrivals.proofs.offers.insert.Given as goal

abbrev pub invariant-loop-k : goal.invariant-loop-k
invariant-loop-k l = (l.k ≤ l.d) × (length l.table ≡ length l.initial.table) × Moved l.a l.k l.d l.initial.table l.table

abbrev pub decreases-loop-k : goal.decreases-loop-k
decreases-loop-k l = l.k
