-- `month::put_page` meets its contract: the month is refused, has no lines, or its figures are written.
-- Assumes nothing.
use Rattle.std.proofs.Common.{sym, ◌∙◌, ap}
use Rattle.std.specs.Prelude.{ℕ}
use Rattle.sheet.specs.Text.{refusal_line}
use Rattle.sheet.specs.Laws.Puts.{puts-as}
use Rattle.month.proofs.Printing.{page-refused, page-none, page-served}
use Rattle.month.proofs.put_page.Goals as goal

pub returns-in-Err : goal.returns-in-Err
returns-in-Err c =
    let e = ap (λ (k : ℕ). refusal_line k c.in-Err.refused.line) c.number.ensures in
    puts-as (e ∙ sym (page-refused c.args.src.now c.in-Err.ensures)) c.put_refusal.ensures

pub returns-in-Ok-eq0 : goal.returns-in-Ok-eq0
returns-in-Ok-eq0 c =
    let e = ap (λ (k : ℕ). refusal_line k 0) c.number-in-Ok-eq0.ensures in
    puts-as (e ∙ sym (page-none c.args.src.now c.in-Ok-eq0.ensures c.in-Ok-eq0.field-0-test)) c.put_refusal-in-Ok-eq0.ensures

pub returns-in-Ok : goal.returns-in-Ok
returns-in-Ok c =
    let R = c.in-Ok.ensures in
    puts-as (page-served c.args.src.now R c.in-Ok.n-test.1) (c.put_figures.ensures.of R.month R.holds R.count)
