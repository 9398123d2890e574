-- `arrivals::lay::note_closures`. The loop's invariant: the places of those below x are noted, and all else is kept.
use Rattle.std.proofs.Common.{◌≡◌, ◌≤◌}
use Rattle.arrivals.specs.Inner.Laying.{Celled, NotedTo}
use Rattle.arrivals.specs.Rows.{Besides}
use Rattle.arrivals.specs.Inner.Network.{closures_of}
use Rattle.arrivals.proofs.lay.note_closures.Given as goal

abbrev pub invariant-loop-x : goal.invariant-loop-x
invariant-loop-x l = (l.x ≤ closures_of l.initial.net) × Celled l.net × (closures_of l.net ≡ closures_of l.initial.net) × NotedTo l.net l.x × Besides 2116 2180 l.initial.net l.net
