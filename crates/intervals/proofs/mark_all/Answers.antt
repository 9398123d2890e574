-- `intervals::mark_all` meets its contract. Assumes nothing.
use Rattle.std.proofs.Common.{rules, arith}
use Rattle.intervals.proofs.Tables.{line_is, markable, marked-none, marked_more}
use Rattle.intervals.proofs.mark_all.Goals as goal

pub loop-place-init : goal.loop-place-init
loop-place-init c = (search rules, marked-none _ _ c.requires.2)

pub mark-requires : goal.mark-requires
mark-requires c =
    let o = c.args.occupancies.now in
    let k = c.loop-place.place-index in
    let i = line_is o _ c.as_chunks.ensures.front k (omega arith) in
    let m = markable o k c.requires.0 (omega arith) in
    (search rules, omega (arith, i.place, m.place), omega (arith, i.last, m.step))

pub loop-place-preserved : goal.loop-place-preserved
loop-place-preserved c =
    let w = c.loop-place in
    let i = line_is c.args.occupancies.now _ c.as_chunks.ensures.front w.place-index (omega arith) in
    (search rules, marked_more _ _ w.since _ i w.invariant.1 c.mark.ensures)
