-- `arrivals::watch::watch_closures`. The loop's invariant: the places of the first x closures are added.
use Rattle.std.proofs.Common.{◌≡◌, ◌≤◌, length}
use Rattle.arrivals.specs.Inner.Network.{closures_of}
use Rattle.arrivals.specs.Inner.Due.{ClosuresWatched}
use Rattle.arrivals.proofs.watch.watch_closures.Given as goal

abbrev pub invariant-loop-x : goal.invariant-loop-x
invariant-loop-x l = (l.x ≤ closures_of l.net) × (length l.sets ≡ length l.initial.sets) × ClosuresWatched l.net l.x l.initial.sets l.sets
