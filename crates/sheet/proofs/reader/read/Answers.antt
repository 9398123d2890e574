-- `sheet::reader::read` meets its contract: the sheet in the array is handed back, or the refusal.
-- Assumes nothing.
use Rattle.std.specs.Prelude.{refl}
use Rattle.std.proofs.Common.{◌∙◌, arith}
use Rattle.sheet.specs.Sheet.{refused, loaded}
use Rattle.sheet.specs.Refusals.{number_of}
use Rattle.sheet.specs.Laws.Refusals.{number-some}
use Rattle.sheet.proofs.Reading.{answered}
use Rattle.sheet.proofs.reader.read.Goals as goal

pub returns : goal.returns
returns c =
    let h = c.in_default.ensures.holds refl in
    c.handed_back.ensures.of h.0 h.2 ∙ answered c.args.src.now (loaded h.0) h.1

pub returns-in-Err : goal.returns-in-Err
returns-in-Err c =
    let r = c.in-Err.refused in
    c.refuse.ensures ∙ answered c.args.src.now (refused (number_of r.refusal) r.line) (c.in-Err.ensures.refuses (λ z. omega (arith, number-some r.refusal)))
