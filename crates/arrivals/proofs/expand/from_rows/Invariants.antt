-- `arrivals::expand::from_rows`. The loop's invariant: what those below i arrive with is offered.
use mathlib.Core.Bool.{true}
use mathlib.Core.Path.{◌≡◌}
use Prim.Native.Nat.{◌-◌, ◌≤◌}
use lib.ListN.{length}
use Rattle.arrivals.specs.Inner.Sweeps.{From, SweptAt}
use Rattle.arrivals.proofs.expand.from_rows.Given as goal

abbrev pub invariant-loop-i : goal.invariant-loop-i
invariant-loop-i l = (l.initial.i ≤ l.i) × (l.i ≤ l.i-end) × (length l.table ≡ length l.initial.table) × SweptAt (From l.initial.table l.initial.i l.i l.from l.here.step.0) l.here l.a l.initial.table l.table l.d true l.e

abbrev pub decreases-loop-i : goal.decreases-loop-i
decreases-loop-i l = l.i-end - l.i
