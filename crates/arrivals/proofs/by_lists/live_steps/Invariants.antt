-- `arrivals::by_lists::live_steps`. The loop's invariant: all is filled in before step t, the lists stand for the rows, and what corridors lead to from the
-- rows of the step before is in `next`.
use mathlib.Core.Path.{◌≡◌}
use Prim.Native.Nat.{◌*◌, ◌≤◌}
use lib.ListN.{length}
use Rattle.arrivals.specs.Inner.Due.{Onward}
use Rattle.arrivals.specs.Inner.Filling.{Filled}
use Rattle.arrivals.specs.Inner.Lists.{Sourcing}
use Rattle.arrivals.specs.Inner.Network.{case_of}
use Rattle.arrivals.specs.Inner.Rows.{rows_of}
use Rattle.arrivals.proofs.by_lists.live_steps.Given as goal

abbrev pub invariant-loop-t : goal.invariant-loop-t
invariant-loop-t l = (1 ≤ l.t) × (l.t ≤ l.t-end) × (l.n * 5 ≤ length l.table) × (length l.table ≡ length l.initial.table) × (length l.live ≡ length l.initial.live) × Filled (case_of l.runs l.net) (rows_of l.table l.n) l.t 0 × Sourcing l.runs l.net l.table l.n l.n l.live l.t × Onward l.net l.table l.n l.t l.next
