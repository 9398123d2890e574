-- `arrivals::lay::chain`. The loop's invariant: those below j are, and all else is kept.
use Rattle.std.proofs.Common.{◌≡◌, ◌*◌, ◌+◌, ◌≤◌}
use Rattle.arrivals.specs.Inner.Chains.{by_place, past_of, Chained}
use Rattle.arrivals.specs.Inner.Lent.{Linked}
use Rattle.arrivals.specs.Rows.{Besides}
use Rattle.arrivals.specs.Inner.Network.{count_of}
use Rattle.arrivals.proofs.lay.chain.Given as goal

abbrev pub invariant-loop-j : goal.invariant-loop-j
invariant-loop-j l = (l.j ≤ count_of l.initial.net) × Linked l.net × (count_of l.net ≡ count_of l.initial.net) × Chained (by_place l.q) l.net l.j × Besides (192 + l.q * 320) (past_of (by_place l.q)) l.initial.net l.net
