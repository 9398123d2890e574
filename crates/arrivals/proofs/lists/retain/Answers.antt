-- `arrivals::lists::retain` meets its contract: cost after cost is kept or dropped. Assumes nothing.
use Rattle.std.proofs.Common.{arith}
use Rattle.arrivals.specs.Inner.Keeping.{retained-more}
use Rattle.arrivals.proofs.lists.retain.Goals as goal

pub loop-i-preserved : goal.loop-i-preserved
loop-i-preserved c = (omega arith, retained-more _ _ _ _ _ _ _ _ _ c.loop-i-test.true c.loop-i.invariant.1 c.retain_one-k.ensures)
