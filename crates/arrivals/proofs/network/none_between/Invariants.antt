-- `arrivals::network::none_between`. The loop's invariant: none of those from x on is of the corridor at step s.
use Rattle.std.proofs.Common.{◌≡◌}
use Rattle.arrivals.specs.Inner.Chains.{by_cell, cell, Passed}
use Rattle.arrivals.specs.Inner.Network.{closures_of, Closes}
use Rattle.arrivals.proofs.network.none_between.Given as goal

abbrev pub invariant-loop-x : goal.invariant-loop-x
invariant-loop-x l = (l.at ≡ cell l.v.0 l.s.0) × Passed by_cell l.net (closures_of l.net) (cell l.v.0 l.s.0) (Closes l.net l.u.0 l.v.0 l.s.0) l.x

abbrev pub decreases-loop-x : goal.decreases-loop-x
decreases-loop-x l = l.x
