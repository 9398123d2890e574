-- `sheet::lines::numbers_in` meets its contract. Assumes nothing.
use Rattle.std.specs.Prelude.{◌≡◌, refl, None, ℕ, ◌<◌, length, take, drop}
use Rattle.std.proofs.Common.{arith, rules, sym, ◌∙◌, ap, length-drop}
use mathlib.Core.Option.{some}
use lib.ListN.{length-set}
use Rattle.sheet.specs.Bytes.{comma}
use Rattle.sheet.specs.Inner.{as_numbers}
use Rattle.sheet.specs.Laws.Parts.{span-le}
use Rattle.sheet.proofs.Fields.{so-missing, so-bad, so-more, so-extra, so-all}
use Rattle.sheet.proofs.lines.numbers_in.Goals as goal

pub returns-then-line-at : goal.returns-then-line-at
returns-then-line-at c =
    let i = c.loop-k.invariant in
    sym (so-missing _ _ _ _ _ _ _ c.loop-k-test.true c.if-line-at.true) ∙ sym i.2

pub returns-in_err-f : goal.returns-in_err-f
returns-in_err-f c =
    let i = c.loop-k.invariant in
    let e : c.from_residual.result ≡ None = search rules in
    ap (as_numbers c.args.width) e ∙ sym (so-bad _ _ _ _ _ _ _ c.loop-k-test.true c.if-line-at.false (sym c.in_err-f.ensures.number)) ∙ sym i.2

pub overflow_add-at : goal.overflow_add-at
overflow_add-at c =
    let l = c.args.line.now in
    let t = c.if-line-at.false in
    omega (arith, c.in_ok-f.ensures.ends c.in_ok-f.f refl, span-le comma (drop c.loop-k.at l), length-drop c.loop-k.at l, t)

pub loop-k-preserved : goal.loop-k-preserved
loop-k-preserved c =
    let f = c.in_ok-f in
    let h = c.loop-k in
    let t = c.loop-k-test.true in
    let v : h.k < length h.values = omega (arith, t, h.invariant.1, c.requires.0) in (
      omega arith,
      simp length-set h.invariant.1,
      rw (f.ensures.ends f.f refl) (h.invariant.2 ∙ so-more _ _ _ _ _ _ _ _ t v c.if-line-at.false (sym f.ensures.number)),
    )

pub returns-then-at-line : goal.returns-then-at-line
returns-then-at-line c =
    let i = c.loop-k.invariant in
    sym (so-extra _ _ _ _ _ _ _ c.loop-k-test.false c.if-at-line.true) ∙ sym i.2

pub returns : goal.returns
returns c =
    let h = c.loop-k in
    let e : c.args.width ≡ h.k = omega arith in
    ap (λ (m : ℕ). some (take m h.values)) e ∙ sym (so-all _ _ _ _ _ _ _ c.loop-k-test.false c.if-at-line.false) ∙ sym h.invariant.2
