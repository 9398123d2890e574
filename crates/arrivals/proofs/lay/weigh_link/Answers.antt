-- `arrivals::lay::weigh_link` meets its contract: where waiting is nowhere dearer nothing is noted, and else the corridor.
-- Assumes nothing.
use Rattle.arrivals.specs.Inner.Laying.{weighed-at}
use Rattle.arrivals.proofs.lay.weigh_link.Goals as goal

pub returns : goal.returns
returns c = let p = c.requires in weighed-at _ _ p.0 p.1 p.2
