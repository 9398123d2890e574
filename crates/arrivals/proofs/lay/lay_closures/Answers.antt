-- `arrivals::lay::lay_closures` meets its contract: the numbers of the closures are copied.
-- Assumes nothing.
use Rattle.std.proofs.Common.{ap, arith}
use Rattle.std.proofs.Math.ListN.{length}
use Rattle.arrivals.specs.Inner.OfSheet.{closures-copied, closures-long}
use Rattle.arrivals.proofs.lay.lay_closures.Goals as goal

pub copy-requires : goal.copy-requires
copy-requires c = let g = c.group-group.ensures in (omega arith, omega (arith, ap length g.numbers, closures-long g.valid, c.requires))

pub returns : goal.returns
returns c = let g = c.group-group.ensures in closures-copied g.valid g.numbers c.copy.ensures
