-- `journeys::marks::mark_into`. The loop's invariant: the rows from which a cart can cross by a corridor below number l are marked. The measure is what is
-- left of the corridors.
use mathlib.Core.Path.{◌≡◌}
use Prim.Native.Nat.{◌-◌, ◌≤◌}
use Rattle.journeys.specs.Inner.Lookup.{standing}
use Rattle.journeys.specs.Inner.Marks.{Raised}
use Rattle.journeys.proofs.Marking.{Below}
use Rattle.journeys.proofs.Crossings.{ByCorridor}
use lib.ListN.{length}
use Rattle.journeys.proofs.marks.mark_into.Given as goal

abbrev pub invariant-loop-l : goal.invariant-loop-l
invariant-loop-l l = (l.l ≤ l.count) × (l.count ≡ length l.sheet.corridors) × Raised l.n l.initial.table l.table l.b.step.0 (Below (ByCorridor l.sheet l.initial.table (standing l.b)) l.l)

abbrev pub decreases-loop-l : goal.decreases-loop-l
decreases-loop-l l = l.count - l.l
