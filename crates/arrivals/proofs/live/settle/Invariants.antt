-- `arrivals::live::settle`. The loop's invariant: the index has what it promises.
use Rattle.std.proofs.Common.{◌≤◌}
use Rattle.arrivals.specs.Inner.Settling.{Settles}
use Rattle.arrivals.proofs.live.settle.Given as goal

abbrev pub invariant-loop-v : goal.invariant-loop-v
invariant-loop-v l = (l.v ≤ l.v-end) × Settles l.net l.table l.t.0 l.initial.ix l.ix
