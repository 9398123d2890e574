-- `month::lines::take_next` meets its contract: by where the line ends it is over, cut or taken, each by one law.
-- Assumes nothing.
use Rattle.std.specs.Prelude.{◌≡◌, List, ℕ, Option, Some, Ok, Err}
use Rattle.std.proofs.Common.{arith, rules, subst}
use Rattle.sheet.specs.LineEnds.{EndIs}
use Rattle.sheet.specs.Laws.LineEnding.{end-inside}
use Rattle.month.proofs.Reading.{next-cut, next-refused, next-line}
use Rattle.month.proofs.lines.take_next.Goals as goal

-- the line ends at the position found, within the text
ends : {src : List ℕ} {at e : ℕ} (r : Option ℕ) → r ≡ Some e → EndIs src at (Ok r) → EndIs src at (Ok (Some e))
ends {src} {at} r d E = subst (λ (x : Option ℕ). EndIs src at (Ok x)) d E

pub returns-in_err-end : goal.returns-in_err-end
returns-in_err-end c =
    let k = c.in_err-end.field-0.0 in
    let e : c.from_residual.result ≡ Err k = search rules in
    rw e (next-cut k c.in_err-end.ensures)

pub slice_bounds-take_line-end : goal.slice_bounds-take_line-end
slice_bounds-take_line-end c = omega (arith, end-inside _ _ _ (ends _ c.in-Some.is c.in_ok-end.ensures).found)

pub returns-in_err-take_line : goal.returns-in_err-take_line
returns-in_err-take_line c =
    let k = c.in_err-take_line.field-0.0 in
    let e : c.from_residual-in_err-take_line.result ≡ Err k = search rules in
    rw e (next-refused _ (ends _ c.in-Some.is c.in_ok-end.ensures) k c.in_err-take_line.ensures)

pub returns : goal.returns
returns c = next-line _ (ends _ c.in-Some.is c.in_ok-end.ensures) c.in_ok-take_line.ensures
