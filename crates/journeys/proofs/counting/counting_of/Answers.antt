-- `journeys::counting::counting_of` meets its contract: the goal, the last step and the time to unload are numbers of the S line.
-- Assumes nothing.
use Rattle.journeys.proofs.Unloading.{counting-in}
use Rattle.journeys.proofs.counting.counting_of.Goals as goal

pub returns : goal.returns
returns c = counting-in {all = c.args.all.now} c.stays.ensures
