-- `arrivals::index::note_step` meets its contract: the groups of the step are noted one after another. Assumes nothing.
use Rattle.std.proofs.Common.{arith}
use Rattle.arrivals.specs.Inner.Renoting.{noting-more}
use Rattle.arrivals.proofs.index.note_step.Goals as goal

pub loop-i-preserved : goal.loop-i-preserved
loop-i-preserved c = noting-more c.requires.1 c.loop-i.invariant (omega arith) c.if-table-i.false c.group_end-m.ensures c.note.ensures
