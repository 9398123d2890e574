-- `intervals::mark` meets its contract. Assumes nothing.
use Rattle.std.proofs.Common.{rules, arith}
use Rattle.intervals.proofs.Tables.{steps-none, steps-more, steps-marked}
use Rattle.intervals.proofs.mark.Goals as goal

pub loop-t-init : goal.loop-t-init
loop-t-init c = (omega arith, steps-none _ _ _ _ (search rules))

pub loop-t-preserved : goal.loop-t-preserved
loop-t-preserved c = (omega arith, steps-more _ _ _ c.loop-t.t c.args.since.now c.loop-t.since (omega arith) (omega arith) c.loop-t.invariant.1)

pub returns : goal.returns
returns c =
    let a = c.args in
    steps-marked a.v.0 a.first.0 a.last.0 c.loop-t.t a.since.now c.loop-t.since (omega arith) (omega arith) c.loop-t.invariant.0 c.loop-t.invariant.1
