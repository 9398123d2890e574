-- `month::sums::mean_of` meets its contract: by twice the rest of the division, which is below twice the count.
-- Assumes nothing.
use mathlib.Core.Path.{sym}
use native.Mathlib.Omega.{arith}
use Rattle.month.specs.Laws.Mean.{mean-stays, mean-up}
use Rattle.month.proofs.Mean.{mean-half}
use Rattle.month.proofs.sums.mean_of.Goals as goal

pub returns-then-twice-count : goal.returns-then-twice-count
returns-then-twice-count c = omega (arith, mean-half c.args.total c.args.n c.requires.1 c.if-twice-count.true)

pub returns-then-twice-count-2 : goal.returns-then-twice-count-2
returns-then-twice-count-2 c = sym (mean-stays c.args.total c.args.n c.requires.1 c.if-twice-count-2.true)

pub returns : goal.returns
returns c = omega (arith, mean-up c.args.total c.args.n c.requires.1 (omega (arith, c.if-twice-count-2.false)))
