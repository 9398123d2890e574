-- `journeys::calls::offer_front` meets its contract: the count is that of the front of the sheet, and the branch on the room of the list is that of
-- `front_on`.
-- Assumes nothing.
use mathlib.Core.Path.{◌∙◌, ap}
use mathlib.Core.List.{List, ◌++◌}
use Prim.Native.Nat.{ℕ, ◌-◌}
use native.Mathlib.Omega.{arith}
use native.Mathlib.Nat.{div-add-mod'}
use lib.ListN.{length, take, replicate}
use Rattle.sheet.specs.Lists.{filled}
use Rattle.journeys.specs.Calls.{front_end}
use Rattle.journeys.specs.Inner.{goal_rows, offered_rows}
use Rattle.journeys.proofs.Ends.{front-nine, front-end}
use Rattle.journeys.proofs.calls.offer_front.Goals as goal

pub count_front-costs-requires : goal.count_front-costs-requires
count_front-costs-requires c = c.requires

pub returns-then-list-costs : goal.returns-then-list-costs
returns-then-list-costs c =
    let k = c.count_front-costs in
    let e = c.clear_from.ensures ∙ ap (λ (xs : List ℕ). take 0 xs ++ replicate (length xs - 0) 0) k.ensures.kept in
    record { of = λ s before p a b. front-nine p a b c.args.list.now k.ensures.counted e c.if-list-costs.true }

pub list_front-requires : goal.list_front-requires
list_front-requires c =
    let k = c.count_front-costs in
    rw k.ensures.kept
    (record { room = c.requires; list-room = omega (arith, c.if-list-costs.false, k.ensures.counted, div-add-mod' (length c.args.list.now) 4) })

pub returns : goal.returns
returns c =
    let k = c.count_front-costs in
    let l = c.list_front in
    let z = c.args in
    let e = l.ensures.listed ∙ ap (λ (xs : List ℕ). filled (length z.list.now) (offered_rows (goal_rows z.v.0 z.counting.now z.n xs))) k.ensures.kept in
    record {
      of = λ s before p a b.
          ap (λ (xs : List ℕ). front_end (record { refusal = 0; line = 0; costs = k.result; arrivals = z.n }) xs l.new.list) (l.ensures.kept ∙ k.ensures.kept)
          ∙ front-end p a b z.list.now k.ensures.counted e c.if-list-costs.false;
    }
