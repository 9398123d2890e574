-- `journeys::calls::front_of` meets its contract: where the search had no room, 8; otherwise the table holds the leading arrivals of the sheet, and the
-- array tells which of those at the goal count.
-- Assumes nothing.
use mathlib.Core.Path.{refl, ap, ◌∙◌}
use Rattle.std.specs.Prelude.{Err}
use Rattle.std.proofs.lemmas.Result.{err_from_is_err_and}
use Rattle.sheet.specs.declared.refusal.Refusal.{Refusal}
use Rattle.journeys.specs.Answers.{front_answer}
use Rattle.journeys.specs.Calls.{front_end}
use Rattle.journeys.specs.Laws.Searched.{Ready, search-full, search-ready}
use Rattle.sheet.proofs.HeldSheets.{held-is}
use Rattle.journeys.proofs.Unloading.{countable, counting-held}
use Rattle.journeys.proofs.Ends.{front-eight}
use Rattle.journeys.proofs.calls.front_of.Goals as goal
use Rattle.journeys.proofs.calls.front_of.Goals.{In_ok-n}

-- where the search was served, the table is ready
ready : (c : In_ok-n) → Ready c.args.sheet.now c.args.table.now c.search.new.table c.in_ok-n.n
ready c = search-ready _ _ c.in_ok-n.ensures.end refl

pub returns-in_err-n : goal.returns-in_err-n
returns-in_err-n c =
    let p = err_from_is_err_and c.from_residual.result c.from_residual.ensures.1 in
    let f = search-full c.args.sheet.now c.args.table.now c.in_err-n.ensures.end refl in
    rw (p.1, p.2)
    (ap (λ (e : Refusal). front_end (front_answer (Err e)) c.search.new.table c.args.list.now) c.in_err-n.ensures.room
    ∙ front-eight c.args.sheet.now c.args.table.now c.args.list.now f.1 f.0)

pub counting_of-counting-requires : goal.counting_of-counting-requires
counting_of-counting-requires c = countable (held-is c.sheet.invariant c.sheet.view_is) c.requires

pub offer_front-requires : goal.offer_front-requires
offer_front-requires c = (ready (goal.at.offer_front-requires c).In_ok-n).holds.room

pub returns : goal.returns
returns c = c.offer_front.ensures.of _ _ (ready (goal.at.returns c).In_ok-n) c.goal.ensures (counting-held (held-is c.sheet.invariant c.sheet.view_is) c.requires c.counting_of-counting.ensures)
