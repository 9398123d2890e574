-- `sheet::reader::take_next` meets its contract: by where the line ends it is over, cut, bad, faulty or taken, each by one law.
-- Assumes nothing.
use Rattle.std.specs.Prelude.{◌≡◌, List, ℕ, Option, Some, Ok, Err}
use Rattle.std.proofs.Common.{arith, rules, subst}
use Rattle.sheet.specs.LineEnds.{EndIs}
use Rattle.sheet.specs.Laws.LineEnding.{end-inside}
use Rattle.sheet.proofs.Reading.{turn-cut, turn-bad, turn-fault, turn-taken}
use Rattle.sheet.proofs.reader.take_next.Goals as goal

-- the line ends at the position found, within the text
ends : (src : List ℕ) (at e : ℕ) (r : Option ℕ) → r ≡ Some e → EndIs src at (Ok r) → EndIs src at (Ok (Some e))
ends src at e r d E = subst (λ (x : Option ℕ). EndIs src at (Ok x)) d E

pub returns-in_err-end : goal.returns-in_err-end
returns-in_err-end c =
    let k = c.in_err-end.field-0.0 in
    let e : c.from_residual.result ≡ Err k = search rules in
    rw e (record { of = λ n R. turn-cut _ _ R k c.in_err-end.ensures })

pub slice_bounds-line_in-end : goal.slice_bounds-line_in-end
slice_bounds-line_in-end c =
    let r = c.args.r in
    let i = end-inside r.src.now r.at (Ok (Some c.in-Some.end)) (ends _ _ _ _ c.in-Some.is c.in_ok-end.ensures).found in
    omega (arith, i)

pub returns-in_default-line_in : goal.returns-in_default-line_in
returns-in_default-line_in c =
    let E = ends _ _ _ _ c.in-Some.is c.in_ok-end.ensures in
    record { of = λ n R. turn-bad _ _ R _ E c.requires.0 _ c.line_in.ensures c.in_default-line_in.is }

pub returns-in_err-take_line : goal.returns-in_err-take_line
returns-in_err-take_line c =
    let k = c.in_err-take_line.field-0.0 in
    let e : c.from_residual-in_err-take_line.result ≡ Err k = search rules in
    let E = ends _ _ _ _ c.in-Some.is c.in_ok-end.ensures in
    rw e (record { of = λ n R. turn-fault _ _ R _ E c.requires.0 _ c.line_in.ensures _ c.in-Some-line_in.is k c.in_err-take_line.ensures })

pub returns : goal.returns
returns c =
    let E = ends _ _ _ _ c.in-Some.is c.in_ok-end.ensures in
    record { of = λ n R. turn-taken _ _ R _ E c.requires.0 _ c.line_in.ensures _ c.in-Some-line_in.is c.in_ok-take_line.ensures }
