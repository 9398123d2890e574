-- `journeys::slow::list_slow`. The loop's invariant: the first i costs are listed. The measure is what is left of them.
use mathlib.Core.Path.{◌≡◌}
use Prim.Native.Nat.{◌-◌, ◌≤◌}
use lib.ListN.{length}
use Rattle.journeys.specs.Inner.Sweep.{Listed}
use Rattle.journeys.proofs.Comparing.{front_list}
use Rattle.journeys.proofs.slow.list_slow.Given as goal

abbrev pub invariant-loop-i : goal.invariant-loop-i
invariant-loop-i l =
    (l.i ≤ l.count) × (length l.list ≡ length l.initial.list) × (l.count ≡ length (front_list l.v.0 l.counting l.n l.table)) × Listed l.table (front_list l.v.0 l.counting l.n l.table) l.i l.list

abbrev pub decreases-loop-i : goal.decreases-loop-i
decreases-loop-i l = l.count - l.i
