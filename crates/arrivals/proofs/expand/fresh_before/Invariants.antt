-- `arrivals::expand::fresh_before`. The loop's invariant: a is before step t.
use Prim.Native.Nat.{◌<◌}
use Rattle.arrivals.proofs.expand.fresh_before.Given as goal

abbrev pub invariant-loop-a : goal.invariant-loop-a
invariant-loop-a l = l.a < l.here.step.0
