-- `intervals::fill_run` meets its contract. Assumes nothing.
use mathlib.Core.Logic.{inl, inr}
use native.Mathlib.Omega.{arith}
use borrow.Author.Rules.{rules}
use Rattle.intervals.proofs.Fill.{filling-none, filling-more, run-filled, run_none}
use Rattle.intervals.proofs.fill_run.Goals as goal
use Rattle.intervals.proofs.fill_run.Goals.{Else-since-row-ne256}

pub returns-then-since-row-ne256 : goal.returns-then-since-row-ne256
returns-then-since-row-ne256 c =
    let a = c.args in
    run_none a.place.0 a.last.0 a.since.now c.if-since-row-ne256.true

pub loop-t-init : goal.loop-t-init
loop-t-init c = filling-none _ _ _ (search rules)

pub returns-then-since-row-eq256 : goal.returns-then-since-row-eq256
returns-then-since-row-eq256 c =
    let w = c.loop-t in
    let b = (goal.at.returns-then-since-row-eq256 c).Else-since-row-ne256 in
    let a = b.args in
    run-filled a.place.0 a.last.0 w.t a.since.now w.since (omega arith) (omega arith) b.if-since-row-ne256.false (inr c.if-since-row-eq256.true) w.invariant

pub loop-t-preserved : goal.loop-t-preserved
loop-t-preserved c =
    let w = c.loop-t in
    let a = c.args in
    filling-more _ _ w.t a.since.now w.since (omega arith) (omega arith) c.if-since-row-eq256.false w.invariant

pub returns : goal.returns
returns c =
    let w = c.loop-t in
    let b = (goal.at.returns c).Else-since-row-ne256 in
    let a = b.args in
    run-filled a.place.0 a.last.0 w.t a.since.now w.since (omega arith) (omega arith) b.if-since-row-ne256.false (inl c.loop-t-test.false) w.invariant
