-- `arrivals::lists::settle_all`. The loop's invariant: those below v are settled, and all other places are as they were.
use Rattle.std.proofs.Common.{◌-◌, ◌≤◌}
use Rattle.arrivals.specs.Inner.Lists.{SettledTo}
use Rattle.arrivals.proofs.lists.settle_all.Given as goal

abbrev pub invariant-loop-v : goal.invariant-loop-v
invariant-loop-v l = (l.v ≤ l.places) × SettledTo l.runs l.initial.live l.live l.set l.v l.t.0

abbrev pub decreases-loop-v : goal.decreases-loop-v
decreases-loop-v l = l.places - l.v
