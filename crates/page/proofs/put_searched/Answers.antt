-- `page::put_searched` meets its contract: where the front is refused, the page is the refusal; otherwise it is the counts and then the lines of the
-- front costs, off the table and the list that the front left.
-- Assumes nothing.
use mathlib.Core.Path.{◌≡◌, refl, sym, ◌∙◌, ap}
use mathlib.Core.List.{[], ◌∷◌}
use Prim.Native.Nat.{ℕ, ◌+◌, ◌*◌, ◌≤◌}
use lib.ListN.{length}
use native.Mathlib.Omega.{arith}
use lib.Seq.{length-take-le}
use Rattle.std.specs.Prelude.{Ok, Err}
use Rattle.sheet.specs.Laws.Refusals.{number-some}
use Rattle.sheet.specs.Laws.Puts.{puts-as}
use Rattle.sheet.specs.Text.{printed, most_printed, refusal_line}
use Rattle.journeys.specs.Answers.{front_answer}
use Rattle.page.specs.Page.{page_room}
use Rattle.page.specs.Laws.Room.{two-long}
use Rattle.page.specs.Laws.Whole.{refused-on, few, served-whole}
use Rattle.page.proofs.Whole.{served-offers}
use Rattle.page.proofs.put_searched.Goals as goal
use Rattle.page.proofs.put_searched.Goals.{In-Ok}

pub returns-in-Err : goal.returns-in-Err
returns-in-Err c =
    let e = c.in-Err.refusal in
    puts-as
    (ap (λ (n : ℕ). refusal_line n 0) c.number.ensures
    ∙ sym (refused-on _ _ _ _ c.requires.lent (front_answer (Err e)) c.front_of.new.table c.front_of.new.list c.in-Err.ensures (λ z. omega (arith, number-some e))))
    c.put_refusal.ensures

-- there is room for the first line, whatever its two numbers are
first-room : (m n l : ℕ) → l ≡ page_room → 0 + length (printed most_printed 70 (m ∷ n ∷ [])) ≤ l
first-room m n l e = omega (arith, e, two-long 70 m n)

pub put_line-next-requires : goal.put_line-next-requires
put_line-next-requires c = first-room _ _ _ c.requires.lent.out-room

-- the front costs fit the list
fits : (c : In-Ok) → (c.in-Ok.r.costs ≤ 200) × (c.in-Ok.r.costs * 4 ≤ length c.front_of.new.list)
fits c =
    let f = few c.requires (front_answer (Ok c.in-Ok.r)) c.front_of.new.table c.front_of.new.list c.in-Ok.ensures refl in
    (f, omega (arith, f, c.front_of.auto.list, c.requires.lent.list-room))

pub overflow_mul-e : goal.overflow_mul-e
overflow_mul-e c = omega (arith, fits (goal.at.overflow_mul-e c).In-Ok)

pub slice_bounds-put_journeys-end : goal.slice_bounds-put_journeys-end
slice_bounds-put_journeys-end c = omega (arith, fits (goal.at.slice_bounds-put_journeys-end c).In-Ok)

pub slice_bounds-put_journeys-end-2 : goal.slice_bounds-put_journeys-end-2
slice_bounds-put_journeys-end-2 c = sym (length-take-le _ _ (fits (goal.at.slice_bounds-put_journeys-end-2 c).In-Ok).1)

pub put_journeys-requires : goal.put_journeys-requires
put_journeys-requires c =
    served-offers c.requires (front_answer (Ok c.in-Ok.r)) c.front_of.new.table c.front_of.new.list c.in-Ok.ensures refl c.put_line-next.ensures

pub returns : goal.returns
returns c =
    served-whole c.requires (front_answer (Ok c.in-Ok.r)) c.front_of.new.table c.front_of.new.list c.in-Ok.ensures refl c.put_line-next.ensures c.put_journeys.ensures.1
