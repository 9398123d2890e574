-- `intervals::sets::add_ends` meets its contract. Assumes nothing.
use Rattle.std.specs.Prelude.{ℕ, ◌+◌}
use Rattle.std.proofs.Common.{arith, ap}
use Rattle.intervals.specs.Laws.Sets.{added}
use Rattle.intervals.proofs.Tables.{line_is, markable}
use Rattle.intervals.proofs.Begins.{followed-none, followed-more}
use Rattle.intervals.proofs.sets.add_ends.Goals as goal

pub loop-place-init : goal.loop-place-init
loop-place-init c = followed-none _ _

pub add-requires : goal.add-requires
add-requires c =
    let o = c.args.occupancies.now in
    let k = c.loop-place.place-index in
    let i = line_is o _ c.as_chunks.ensures.front k (omega arith) in
    let m = markable o k c.requires.0 (omega arith) in
    (omega (arith, i.last, m.step), omega (arith, i.place, m.place))

pub loop-place-preserved : goal.loop-place-preserved
loop-place-preserved c =
    let o = c.args.occupancies.now in
    let w = c.loop-place in
    let i = line_is o _ c.as_chunks.ensures.front w.place-index (omega arith) in
    let m = markable o w.place-index c.requires.0 (omega arith) in
    followed-more o w.place-index _ w.sets _ w.invariant (added c.add.ensures (ap (λ (b : ℕ). b + 1) i.last) i.place (omega (arith, m.step, c.requires.1)))
