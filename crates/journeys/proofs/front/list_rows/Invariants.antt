-- `journeys::front::list_rows`. The loop's invariant: the rows taken so far are listed. The measure is the count of rows ahead.
use Rattle.journeys.specs.Inner.Sweep.{Listable, ListedOn}
use lib.ListN.{length}
use mathlib.Core.Path.{◌≡◌}
use Rattle.journeys.proofs.front.list_rows.Given as goal

abbrev pub invariant-loop-s : goal.invariant-loop-s
invariant-loop-s l = (length l.table ≡ length l.initial.table) × (length l.list ≡ length l.initial.list) × Listable l.v.0 l.table l.s l.list × ListedOn l.v.0 l.initial.table l.table l.initial.s l.s l.initial.list l.list

abbrev pub decreases-loop-s : goal.decreases-loop-s
decreases-loop-s l = l.s.rest
