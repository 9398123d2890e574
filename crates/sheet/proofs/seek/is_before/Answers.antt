-- `sheet::seek::is_before` meets its contract. Assumes nothing.
use mathlib.Core.Path.{refl, sym, ◌∙◌}
use native.Mathlib.Omega.{arith}
use borrow.Author.Rules.{rules}
use Rattle.sheet.proofs.Passing.{lex-below, lex-above, lex-same, lex-none}
use Rattle.sheet.proofs.seek.is_before.Goals as goal
use Rattle.sheet.proofs.seek.is_before.Goals.{At-loop-i}

pub loop-i-init : goal.loop-i-init
loop-i-init c = (omega arith, search rules, refl)

pub returns-then-a-at : goal.returns-then-a-at
returns-then-a-at c =
    let x = (goal.at.returns-then-a-at c).At-loop-i in
    let a = x.args in
    sym (lex-below a.n a.a.now a.at a.b (omega arith) (omega arith) x.loop-i.i (omega arith) c.if-a-at.true) ∙ x.loop-i.invariant.2

pub returns-then-b-i : goal.returns-then-b-i
returns-then-b-i c =
    let x = (goal.at.returns-then-b-i c).At-loop-i in
    let a = x.args in
    sym (lex-above a.n a.a.now a.at a.b (omega arith) (omega arith) x.loop-i.i (omega arith) c.if-b-i.true) ∙ x.loop-i.invariant.2

pub loop-i-preserved : goal.loop-i-preserved
loop-i-preserved c =
    let x = (goal.at.loop-i-preserved c).At-loop-i in
    let a = x.args in
    let e = lex-same a.n a.a.now a.at a.b (omega arith) (omega arith) x.loop-i.i (omega arith) c.if-a-at.false c.if-b-i.false in
    (omega arith, x.loop-i.invariant.1, sym e ∙ x.loop-i.invariant.2)

pub returns : goal.returns
returns c =
    let x = (goal.at.returns c).At-loop-i in
    let a = x.args in
    sym (lex-none a.n a.a.now a.at a.b (omega arith) (omega arith) x.loop-i.i (omega arith)) ∙ x.loop-i.invariant.2
