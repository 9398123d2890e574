-- `arrivals::lay::lay_links` meets its contract: the numbers of the corridors are copied.
-- Assumes nothing.
use Rattle.std.proofs.Common.{ap, arith}
use Rattle.std.proofs.Math.ListN.{length}
use Rattle.arrivals.specs.Inner.OfSheet.{links-copied, links-long}
use Rattle.arrivals.proofs.lay.lay_links.Goals as goal

pub copy-requires : goal.copy-requires
copy-requires c = let g = c.group-group.ensures in (omega arith, omega (arith, ap length g.numbers, links-long g.valid, c.requires))

pub returns : goal.returns
returns c = let g = c.group-group.ensures in links-copied g.valid g.numbers c.copy.ensures
