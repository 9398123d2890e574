-- `intervals::turn` meets its contract. Assumes nothing.
use Rattle.std.specs.Prelude.{◌≡◌, ℕ, ◌/◌, length}
use Rattle.std.proofs.Common.{rules, arith, subst}
use Rattle.intervals.proofs.Tables.{line_is, markable}
use Rattle.intervals.proofs.Fill.{Filled, filled_none, line_run, filled_more, filled-all}
use Rattle.intervals.proofs.turn.Goals as goal

pub loop-place-init : goal.loop-place-init
loop-place-init c = (search rules, filled_none _ _ c.requires.2)

pub fill_run-requires : goal.fill_run-requires
fill_run-requires c =
    let o = c.args.occupancies.now in
    let k = c.loop-place.place-index in
    let i = line_is o _ c.as_chunks.ensures.front k (omega arith) in
    let m = markable o k c.requires.0 (omega arith) in
    (search rules, omega (arith, i.place, m.place), omega (arith, i.last, m.step))

pub loop-place-preserved : goal.loop-place-preserved
loop-place-preserved c =
    let o = c.args.occupancies.now in
    let w = c.loop-place in
    let i = line_is o _ c.as_chunks.ensures.front w.place-index (omega arith) in
    let m = markable o w.place-index c.requires.0 (omega arith) in
    (search rules, filled_more o w.place-index w.since _ m w.invariant.1 (line_run i c.fill_run.ensures))

pub returns : goal.returns
returns c =
    let w = c.loop-place in
    let o = c.args.occupancies.now in
    let e : w.place-index ≡ length o / 3 = omega arith in
    filled-all o w.since w.invariant.0 (subst (λ (n : ℕ). Filled o n w.since) e w.invariant.1)
