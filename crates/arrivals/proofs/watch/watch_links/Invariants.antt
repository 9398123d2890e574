-- `arrivals::watch::watch_links`. The loop's invariant: the places of the first j corridors are added.
use Rattle.std.proofs.Common.{◌≡◌, ◌≤◌, length}
use Rattle.arrivals.specs.Inner.Network.{count_of}
use Rattle.arrivals.specs.Inner.Due.{LinksWatched}
use Rattle.arrivals.proofs.watch.watch_links.Given as goal

abbrev pub invariant-loop-j : goal.invariant-loop-j
invariant-loop-j l = (l.j ≤ count_of l.net) × (length l.sets ≡ length l.initial.sets) × LinksWatched l.net l.j l.initial.sets l.sets
