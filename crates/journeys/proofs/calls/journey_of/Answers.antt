-- `journeys::calls::journey_of` meets its contract: where the search had no room, 8; otherwise the table holds the leading arrivals of the sheet, and the
-- branches on the number and on the room for the path are those of `journey_on`.
-- Assumes nothing.
use mathlib.Core.Path.{◌∙◌, ap, refl}
use mathlib.Core.List.{List, []}
use Prim.Native.Nat.{ℕ}
use lib.ListN.{length}
use Rattle.std.proofs.lemmas.Result.{err_from_is_err_and}
use Rattle.sheet.specs.Lists.{filled}
use Rattle.std.specs.Prelude.{Err}
use Rattle.sheet.specs.declared.refusal.Refusal.{Refusal}
use Rattle.journeys.specs.Calls.{journey_end}
use Rattle.journeys.specs.Answers.{journey_answer}
use Rattle.journeys.specs.Laws.Searched.{Ready, search-full, search-ready}
use Rattle.sheet.proofs.HeldSheets.{held-is}
use Rattle.journeys.proofs.Unloading.{countable, counting-held}
use Rattle.journeys.proofs.Ends.{journey-eight, journey-ten, journey-eleven, journey-end, layable}
use Rattle.journeys.proofs.calls.journey_of.Goals as goal
use Rattle.journeys.proofs.calls.journey_of.Goals.{In_ok-rows}

-- where the search was served, the table is ready
ready : (c : In_ok-rows) → Ready c.args.sheet.now c.args.table.now c.search.new.table c.in_ok-rows.rows
ready c = search-ready _ _ c.in_ok-rows.ensures.end refl

pub returns-in_err-rows : goal.returns-in_err-rows
returns-in_err-rows c =
    let p = err_from_is_err_and c.from_residual.result c.from_residual.ensures.1 in
    let f = search-full c.args.sheet.now c.args.table.now c.in_err-rows.ensures.end refl in
    rw (p.1, p.2)
    (ap (λ (e : Refusal). journey_end (journey_answer (Err e)) c.search.new.table c.args.path.now) c.in_err-rows.ensures.room
    ∙ journey-eight c.args.sheet.now c.args.number c.args.table.now c.args.path.now f.1 f.0)

pub counting_of-counting-requires : goal.counting_of-counting-requires
counting_of-counting-requires c = countable (held-is c.sheet.invariant c.sheet.view_is) c.requires

pub nth_front-requires : goal.nth_front-requires
nth_front-requires c = (ready (goal.at.nth_front-requires c).In_ok-rows).holds.room

pub returns-in_default : goal.returns-in_default
returns-in_default c =
    let r = c.refuse_searched in
    let k = c.in_default.ensures in
    ap (λ (e : Refusal). journey_end (journey_answer (Err e)) r.new.arrivals c.args.path.now) r.ensures.0
    ∙ journey-ten (ready (goal.at.returns-in_default c).In_ok-rows) c.goal.ensures (counting-held (held-is c.sheet.invariant c.sheet.view_is) c.requires c.counting_of-counting.ensures) k.numbered c.args.path.now
    (r.ensures.1 ∙ ap (λ (xs : List ℕ). filled (length xs) []) k.kept)

pub returns-then-path-o : goal.returns-then-path-o
returns-then-path-o c =
    let k = c.in-Some.ensures in
    let r = c.refuse_searched-then-path-o in
    ap (λ (e : Refusal). journey_end (journey_answer (Err e)) r.new.arrivals c.args.path.now) r.ensures.0
    ∙ journey-eleven (ready (goal.at.returns-then-path-o c).In_ok-rows) c.goal.ensures (counting-held (held-is c.sheet.invariant c.sheet.view_is) c.requires c.counting_of-counting.ensures) k.numbered c.args.path.now
    (r.ensures.1 ∙ ap (λ (xs : List ℕ). filled (length xs) []) k.kept) c.if-path-o.true

pub lay_path-requires : goal.lay_path-requires
lay_path-requires c =
    let k = c.in-Some.ensures in
    rw k.kept
    (layable c.requires (ready (goal.at.lay_path-requires c).In_ok-rows) c.goal.ensures (counting-held (held-is c.sheet.invariant c.sheet.view_is) c.requires c.counting_of-counting.ensures) k.numbered c.args.path.now c.if-path-o.false)

pub returns : goal.returns
returns c =
    let o = c.in-Some.o in
    let k = c.in-Some.ensures in
    let l = c.lay_path in
    ap (λ (xs : List ℕ). journey_end (record { refusal = 0; line = 0; cost = o.cost; arrival = o.step.0 }) xs l.new.path) (l.ensures.0 ∙ k.kept)
    ∙ journey-end (ready (goal.at.returns c).In_ok-rows) c.goal.ensures (counting-held (held-is c.sheet.invariant c.sheet.view_is) c.requires c.counting_of-counting.ensures) k.numbered c.args.path.now c.if-path-o.false l.ensures.1
