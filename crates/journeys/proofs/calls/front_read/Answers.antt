-- `journeys::calls::front_read` meets its contract: the refusal of the reader, or the front of the sheet that was read.
-- Assumes nothing.
use mathlib.Core.Path.{◌∙◌}
use Rattle.std.proofs.lemmas.Result.{err_from_is_err_and}
use Rattle.journeys.proofs.Ends.{front-unread, read_held, front_read}
use Rattle.journeys.proofs.calls.front_read.Goals as goal

pub returns-in_err-read_into : goal.returns-in_err-read_into
returns-in_err-read_into c =
    let p = err_from_is_err_and c.from_residual.result c.from_residual.ensures.1 in
    rw (p.1, p.2) (front-unread c.args.sheet.now c.in_err-read_into.field-0.0 c.in_err-read_into.ensures c.args.table.now c.args.list.now)

pub of-requires : goal.of-requires
of-requires c = read_held c.args.sheet.now c.in_ok-read_into.ensures

pub returns-in_err-front_stored : goal.returns-in_err-front_stored
returns-in_err-front_stored c =
    let p = err_from_is_err_and c.from_residual-in_err-front_stored.result c.from_residual-in_err-front_stored.ensures.1 in
    rw (p.1, p.2) (c.in_err-front_stored.ensures ∙ front_read c.args.sheet.now c.in_ok-read_into.ensures c.of.ensures c.args.table.now c.args.list.now)

pub returns : goal.returns
returns c = c.in_ok-front_stored.ensures ∙ front_read c.args.sheet.now c.in_ok-read_into.ensures c.of.ensures c.args.table.now c.args.list.now
