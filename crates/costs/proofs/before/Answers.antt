-- `costs::before` meets its contract. Assumes nothing.
use mathlib.Core.Path.{sym, subst}
use mathlib.Core.List.{List}
use Prim.Native.Nat.{ℕ}
use native.Mathlib.Omega.{arith}
use borrow.Author.Rules.{rules}
use Rattle.sheet.specs.Lists.{Lex}
use Rattle.sheet.specs.Laws.Order.{Lex-lexb, Lex-irrefl}
use Rattle.costs.specs.Laws.Figures.{Lex-asym, lexb-not, is_same, is-Lex}
use Rattle.costs.proofs.before.Goals as goal

pub returns-then-a-i : goal.returns-then-a-i
returns-then-a-i c =
    let a = c.args in
    sym (Lex-lexb a.a a.b (is-Lex a.a a.b c.loop-i.i (search rules) (search rules) c.loop-i.invariant.1 c.if-a-i.true))

pub returns-then-b-i : goal.returns-then-b-i
returns-then-b-i c =
    let a = c.args in
    sym (lexb-not a.a a.b (Lex-asym a.b a.a (is-Lex a.b a.a c.loop-i.i (search rules) (search rules) (λ k h. sym (c.loop-i.invariant.1 k h)) c.if-b-i.true)))

pub returns : goal.returns
returns c =
    let a = c.args in
    sym (lexb-not a.a a.b (λ h. Lex-irrefl a.b (subst (λ (x : List ℕ). Lex x a.b) (is_same 3 a.a a.b (search rules) (search rules) (λ k l. c.loop-i.invariant.1 k (omega arith))) h)))
