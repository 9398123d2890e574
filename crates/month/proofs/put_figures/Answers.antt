-- `month::put_figures` meets its contract. Assumes nothing.
use Rattle.month.proofs.Printing.{more-put, all-put}
use Rattle.month.proofs.put_figures.Goals as goal

pub loop-i-preserved : goal.loop-i-preserved
loop-i-preserved c = more-put c.requires.1 c.loop-i-test.true c.loop-i.invariant c.put_figure-next.ensures

pub returns : goal.returns
returns c = all-put c.loop-i-test.false c.loop-i.invariant
