-- `journeys::front::begin` meets its contract: all rows of the chain are ahead, and the stair is empty.
-- Assumes nothing.
use Rattle.journeys.proofs.FrontRows.{sweep-begins}
use Rattle.journeys.proofs.front.begin.Goals as goal

pub returns : goal.returns
returns c = sweep-begins _ _ _ _ _ _ c.requires.0 c.requires.1 c.order_rows-all.ensures
