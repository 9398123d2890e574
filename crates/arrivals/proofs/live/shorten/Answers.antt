-- `arrivals::live::shorten` meets its contract: the rows at both ends of the group that a row of step t undercuts are left out.
-- Assumes nothing.
use Rattle.std.proofs.Common.{refl}
use Rattle.arrivals.specs.Inner.Settling.{spans, spans-rest, shortened}
use Rattle.arrivals.proofs.live.shorten.Goals as goal

pub first_live-lo-requires : goal.first_live-lo-requires
first_live-lo-requires c = spans c.requires c.group-by.ensures.0 c.group-by.ensures.1 c.group-span.ensures.0 c.group-span.ensures.1 c.multiple-lag.ensures

pub last_live-hi-requires : goal.last_live-hi-requires
last_live-hi-requires c = spans-rest c.requires c.group-by.ensures.0 c.group-by.ensures.1 c.group-span.ensures.0 c.group-span.ensures.1 c.multiple-lag.ensures _ c.first_live-lo.ensures.from c.first_live-lo.ensures.upto

pub returns : goal.returns
returns c = shortened c.requires c.group-by.ensures.0 c.group-by.ensures.1 c.group-span.ensures.0 c.group-span.ensures.1 c.multiple-lag.ensures c.first_live-lo.ensures c.last_live-hi.ensures c.regroup.ensures refl
