-- `arrivals::by_lists::from_part`. The loop's invariant: what the first i of them come to is offered.
use mathlib.Core.Bool.{true}
use mathlib.Core.Path.{◌≡◌}
use Prim.Native.Nat.{◌-◌, ◌≤◌}
use lib.ListN.{length}
use Rattle.arrivals.specs.Inner.Lists.{Brought}
use Rattle.arrivals.specs.Inner.Sweeps.{SweptAt}
use Rattle.arrivals.proofs.by_lists.from_part.Given as goal

abbrev pub invariant-loop-i : goal.invariant-loop-i
invariant-loop-i l =
    (l.i ≤ l.part.n) × (length l.table ≡ length l.initial.table)
    × SweptAt (Brought l.live (record { at = l.part.at; n = l.i }) l.turn) l.site.here l.a l.initial.table l.table l.d true l.e

abbrev pub decreases-loop-i : goal.decreases-loop-i
decreases-loop-i l = l.i-end - l.i
