-- `arrivals::lay::weigh`. The loop's invariant: those below j are, and all else is kept.
use Rattle.std.proofs.Common.{◌≡◌, ◌≤◌}
use Rattle.arrivals.specs.Inner.Laying.{WeighedTo}
use Rattle.arrivals.specs.Inner.Lent.{Linked}
use Rattle.arrivals.specs.Rows.{Besides}
use Rattle.arrivals.specs.Inner.Network.{count_of}
use Rattle.arrivals.proofs.lay.weigh.Given as goal

abbrev pub invariant-loop-j : goal.invariant-loop-j
invariant-loop-j l = (l.j ≤ count_of l.initial.net) × Linked l.net × (count_of l.net ≡ count_of l.initial.net) × WeighedTo l.net l.j × Besides 2180 2436 l.initial.net l.net
