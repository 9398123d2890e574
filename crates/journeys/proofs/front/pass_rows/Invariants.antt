-- `journeys::front::pass_rows`. The loop's invariant: the table is being swept, and no more rows than asked for are taken. The measure is the count of rows
-- ahead.
use Rattle.journeys.specs.Inner.Sweep.{Sweepable, SweptOn}
use lib.ListN.{length}
use Prim.Native.Nat.{◌≤◌}
use mathlib.Core.Path.{◌≡◌}
use Rattle.journeys.proofs.front.pass_rows.Given as goal

abbrev pub invariant-loop-s : goal.invariant-loop-s
invariant-loop-s l = (l.s.count ≤ l.most) × (length l.table ≡ length l.initial.table) × Sweepable l.v.0 l.table l.s × SweptOn l.v.0 l.initial.table l.table l.initial.s l.s

abbrev pub decreases-loop-s : goal.decreases-loop-s
decreases-loop-s l = l.s.rest
