-- `costs::at_most` meets its contract: it joins the excesses of a's figures over b's bit by bit, and an excess is 2^32 or more exactly where the figure of a
-- is greater. Numbers joined are below 2^32 exactly where each is. Assumes nothing.
use mathlib.Core.Logic.{inl, inr, ⊎_elim}
use mathlib.Core.Path.{◌∙◌, sym}
use Prim.Native.Nat.{ℕ, ◌≤◌, ◌<◌}
use native.Mathlib.Omega.{arith}
use borrow.Author.Count.{below_more}
use borrow.Author.Rules.{rules}
use borrow.Author.Tests.{lt-ltb, le-ltb}
use lib.Bits.{bit_or, or_lt, or_add_and, and_le_l, and_le_r}
use mir.Syntax.{w32}
use mir.Val.{Fits}
use Rattle.sheet.specs.Laws.Decided.{lt-or-le}
use Rattle.costs.specs.Costs.{fig}
use Rattle.costs.specs.Laws.Figures.{at_most_b-not, at-most-at_most_b, is-at-most}
use Rattle.costs.proofs.at_most.Goals as goal

-- neither of two numbers is greater than the two joined
or_left : (a b : ℕ) → a ≤ bit_or a b
or_left a b = omega (arith, or_add_and a b, and_le_r a b)

or_right : (a b : ℕ) → b ≤ bit_or a b
or_right a b = omega (arith, or_add_and a b, and_le_l a b)

pub loop-i-preserved : goal.loop-i-preserved
loop-i-preserved c =
    let a = c.args in
    let i = c.loop-i.i in
    let over = c.loop-i.over in
    let r = c.excess-over.result in
    let inv = c.loop-i.invariant in
    let wide : Fits w32 (fig a.b i) = search rules in
    ⊎_elim
    (λ lt. let high : 4294967296 ≤ r = omega (arith, c.excess-over.ensures) in
    (omega arith, inr (omega (arith, high, or_right over r), record { at = i; greater = lt })))
    (λ le. let low : r < 4294967296 = omega (arith, c.excess-over.ensures, wide.fits) in
    (omega arith, ⊎_elim (λ z. inl (or_lt 32 over r z.0 low, below_more _ _ z.1 le)) (λ g. inr (omega (arith, g.0, or_left over r), g.1)) inv.1))
    (lt-or-le (fig a.b i) (fig a.a i))

pub returns : goal.returns
returns c =
    let a = c.args in
    ⊎_elim
    (λ z. lt-ltb _ _ z.0 ∙ sym (at-most-at_most_b _ _ (is-at-most 3 a.a a.b (search rules) (λ k h. z.1 k (omega arith)))))
    (λ g. le-ltb c.loop-i.over 4294967296 g.0 ∙ sym (at_most_b-not _ _ g.1))
    c.loop-i.invariant.1
