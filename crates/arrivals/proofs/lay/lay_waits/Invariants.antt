-- `arrivals::lay::lay_waits`. The loop's invariant: those of the places below v are, and all else is kept.
use Prim.Native.Nat.{◌≤◌}
use Rattle.arrivals.specs.Inner.Laying.{WaitsTo}
use Rattle.arrivals.specs.Rows.{Besides}
use Rattle.arrivals.proofs.lay.lay_waits.Given as goal

abbrev pub invariant-loop-v : goal.invariant-loop-v
invariant-loop-v l = (l.v-end ≤ 64) × WaitsTo l.sheet l.net l.v × Besides 0 192 l.initial.net l.net
