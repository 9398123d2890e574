-- `sheet::lines::line_in` meets its contract: the first field is the letter of a kind, and the fields after it are that kind's numbers.
-- Assumes nothing.
use Rattle.std.specs.Prelude.{◌≡◌, refl, Bool, true, None, List, ℕ, eqb}
use Rattle.std.proofs.Common.{arith, rules, sym, ◌∙◌, eqb-true}
use borrow.Author.Tests.{eqb-false}
use Rattle.sheet.specs.Bytes.{comma}
use Rattle.sheet.specs.Inner.{span_of}
use Rattle.sheet.specs.Laws.Parts.{span-le}
use Rattle.sheet.proofs.LineLaws.{line-not-one, line-unknown, line_known, line_bad}
use Rattle.sheet.proofs.lines.line_in.Goals as goal

pub returns-then-not-is_letter_first : goal.returns-then-not-is_letter_first
returns-then-not-is_letter_first c = line-not-one _ _ _ _ (eqb-false _ 1 (sym c.is_letter_first.ensures ∙ c.if-not-is_letter_first.true))

-- the first field is one byte
one : (l : List ℕ) (b : Bool) → b ≡ eqb (span_of comma l) 1 → b ≡ true → span_of comma l ≡ 1
one l b d e = eqb-true (span_of comma l) 1 (sym d ∙ e)

pub bounds-l-0 : goal.bounds-l-0
bounds-l-0 c = omega (arith, one c.args.l.now _ c.is_letter_first.ensures c.if-not-is_letter_first.false, span-le comma c.args.l.now)

pub returns-in_err-kind : goal.returns-in_err-kind
returns-in_err-kind c =
    let e : c.from_residual.result ≡ None = search rules in
    rw e (line-unknown _ _ _ _ (one c.args.l.now _ c.is_letter_first.ensures c.if-not-is_letter_first.false) _ c.in_err-kind.ensures.found refl)

pub returns-in_err-values : goal.returns-in_err-values
returns-in_err-values c =
    let e : c.from_residual-in_err-values.result ≡ None = search rules in
    rw e (line_bad _ _ _ _ (one c.args.l.now _ c.is_letter_first.ensures c.if-not-is_letter_first.false)
    _ c.in_ok-kind.ensures.found c.requires.0 (λ z. omega (arith, c.in_ok-kind.ensures.inside)) c.in_err-values.ensures)

pub returns : goal.returns
returns c =
    line_known _ _ _ _ (one c.args.l.now _ c.is_letter_first.ensures c.if-not-is_letter_first.false)
    _ c.in_ok-kind.ensures.found c.requires.0 (λ z. omega (arith, c.in_ok-kind.ensures.inside)) _ c.in_ok-values.ensures
