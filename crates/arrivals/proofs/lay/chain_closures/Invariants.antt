-- `arrivals::lay::chain_closures`. The loop's invariant: those below x are, and all else is kept.
use Rattle.std.proofs.Common.{◌≡◌, ◌≤◌}
use Rattle.arrivals.specs.Inner.Chains.{by_cell, Chained}
use Rattle.arrivals.specs.Inner.Laying.{Celled}
use Rattle.arrivals.specs.Rows.{Besides}
use Rattle.arrivals.specs.Inner.Network.{closures_of}
use Rattle.arrivals.proofs.lay.chain_closures.Given as goal

abbrev pub invariant-loop-x : goal.invariant-loop-x
invariant-loop-x l = (l.x ≤ closures_of l.initial.net) × Celled l.net × (closures_of l.net ≡ closures_of l.initial.net) × Chained by_cell l.net l.x × Besides 2436 3716 l.initial.net l.net
