-- `page::put_page` meets its contract: the refusal of the reader, or the page of the sheet that was read.
-- Assumes nothing.
use mathlib.Core.Path.{refl, ◌∙◌, ap}
use native.Mathlib.Omega.{arith}
use Rattle.std.specs.Prelude.{Ok, ℕ}
use Rattle.sheet.specs.Text.{refusal_line}
use Rattle.sheet.specs.Refusals.{refused_by, verdict}
use Rattle.sheet.specs.Laws.Refusals.{number-some}
use Rattle.sheet.specs.Laws.Puts.{puts-as}
use Rattle.page.specs.Page.{page_on}
use Rattle.page.specs.Laws.Whole.{unread, was_read}
use Rattle.page.proofs.put_page.Goals as goal

pub returns-in-Err : goal.returns-in-Err
returns-in-Err c =
    let r = c.in-Err.refused in
    let e = ap (λ (n : ℕ). refusal_line n r.line) c.number.ensures in
    puts-as (e ∙ unread c.args.src.now _ _ (refused_by r) c.in-Err.ensures (λ z. omega (arith, number-some r.refusal))) c.put_refusal.ensures

pub of-requires : goal.of-requires
of-requires c = let h = c.in-Ok.ensures.holds refl in record { sheet = h.0; store = h.2 }

pub returns-in-Ok : goal.returns-in-Ok
returns-in-Ok c = puts-as (ap page_on c.of.ensures ∙ was_read c.args.src.now _ _ (verdict (Ok tt)) c.in-Ok.ensures refl) c.put_stored.ensures
