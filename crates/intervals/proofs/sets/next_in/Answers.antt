-- `intervals::sets::next_in` meets its contract: the digits below the lowest that is set are passed over. Assumes nothing.
use Rattle.intervals.specs.Laws.Sets.{next-in}
use Rattle.intervals.proofs.sets.next_in.Goals as goal

pub returns : goal.returns
returns c = next-in c.args.set c.args.v
