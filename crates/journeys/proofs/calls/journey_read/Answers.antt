-- `journeys::calls::journey_read` meets its contract: the refusal of the reader, or the journey of the sheet that was read.
-- Assumes nothing.
use mathlib.Core.Path.{◌∙◌}
use Rattle.std.proofs.lemmas.Result.{err_from_is_err_and}
use Rattle.journeys.proofs.Ends.{journey-unread, read_held, journey-read}
use Rattle.journeys.proofs.calls.journey_read.Goals as goal

pub returns-in_err-read_into : goal.returns-in_err-read_into
returns-in_err-read_into c =
    let p = err_from_is_err_and c.from_residual.result c.from_residual.ensures.1 in
    rw (p.1, p.2) (journey-unread c.args.sheet.now c.in_err-read_into.field-0.0 c.in_err-read_into.ensures c.args.number c.args.table.now c.args.path.now)

pub of-requires : goal.of-requires
of-requires c = read_held c.args.sheet.now c.in_ok-read_into.ensures

pub returns-in_err-journey_stored : goal.returns-in_err-journey_stored
returns-in_err-journey_stored c =
    let p = err_from_is_err_and c.from_residual-in_err-journey_stored.result c.from_residual-in_err-journey_stored.ensures.1 in
    rw (p.1, p.2) (c.in_err-journey_stored.ensures ∙ journey-read c.args.sheet.now c.in_ok-read_into.ensures c.of.ensures c.args.number c.args.table.now c.args.path.now)

pub returns : goal.returns
returns c = c.in_ok-journey_stored.ensures ∙ journey-read c.args.sheet.now c.in_ok-read_into.ensures c.of.ensures c.args.number c.args.table.now c.args.path.now
