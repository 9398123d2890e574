-- `arrivals::lists::retain`. The loop's invariant: k of the first i costs are kept, and the others are led.
use Rattle.std.proofs.Common.{◌≤◌}
use Rattle.arrivals.specs.Inner.Lists.{RetainedTo}
use Rattle.arrivals.proofs.lists.retain.Given as goal

abbrev pub invariant-loop-i : goal.invariant-loop-i
invariant-loop-i l = (l.i ≤ l.n) × RetainedTo l.initial.live l.live l.at l.n l.m l.i l.k
