-- `arrivals::expand::from_place`. The loop's invariant: those at step s or later have been.
use mathlib.Core.Bool.{true}
use mathlib.Core.Path.{◌≡◌}
use Prim.Native.Nat.{◌≤◌}
use lib.ListN.{length}
use Rattle.arrivals.specs.Inner.Index.{room_of}
use Rattle.arrivals.specs.Inner.Sweeps.{SweptAt, Via}
use Rattle.arrivals.proofs.expand.from_place.Given as goal

abbrev pub invariant-loop-s : goal.invariant-loop-s
invariant-loop-s l = (l.s ≤ l.here.step.0) × (l.here.step.0 ≤ 255) × (room_of l.here.step.0 ≤ length l.ix) × (length l.table ≡ length l.initial.table) × SweptAt (Via l.initial.table l.ix l.a l.from l.s l.here.step.0) l.here l.a l.initial.table l.table l.d true l.e

abbrev pub decreases-loop-s : goal.decreases-loop-s
decreases-loop-s l = l.s
