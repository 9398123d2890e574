-- How long a page can be: no page is longer than the room that the program has for it. A number takes at most 11 bytes with its comma, a place at
-- most 3, since no sheet has more than 64 places; so a front cost takes at most 816 bytes, and 200 of them with the first line fit.
-- Assumes nothing.
use Rattle.std.specs.Prelude.{◌≡◌, refl, Bool, true, false, List, [], ◌∷◌, ◌++◌, ℕ, ◌+◌, ◌*◌, ◌≤◌, ◌<◌, length, get_or}
use Rattle.std.proofs.Common.{arith}
use Rattle.std.proofs.Math.ListN.{length-append}
use Rattle.sheet.specs.Lists.{pick, number}
use Rattle.sheet.specs.Sheet.{Sheet, Outcome, refused, loaded, told, read_of}
use Rattle.sheet.specs.Valid.{Valid}
use Rattle.sheet.specs.Text.{number_text, printed, most_printed, refusal_line}
use Rattle.sheet.specs.Laws.Decimal.{digits-at-most}
use Rattle.sheet.proofs.RoundTrip.{read-valid}
use Rattle.sheet.specs.Laws.Printed.{number-length, bind-long, printed-long, printed-most, refusal-long}
use Rattle.costs.specs.Costs.{Cost}
use Rattle.arrivals.specs.Laws.Bounds.{way-place}
use Rattle.arrivals.specs.Computed.{leading}
use Rattle.arrivals.specs.Table.{crowded}
use Rattle.journeys.specs.Journeys.{HasCost}
use Rattle.journeys.specs.Computed.{journey_of, arrival_of, front}
use Rattle.journeys.specs.Calls.{front_row, overfull}
use Rattle.journeys.specs.Laws.Journeys.{has-three, journey_of-selected, journey-short}
use Rattle.journeys.specs.Laws.Front.{front-on}
use Rattle.journeys.specs.Laws.Served.{member}
use Rattle.page.specs.Page.{front_line, journey_lines, offer_lines, table_numbers, list_numbers, page_on, page, page_room}
use Rattle.page.specs.Laws.Room.{two-long, few-costs}

place-long : (n : ℕ) → n < 64 → length (number_text most_printed n) ≤ 3
place-long n h = omega (arith, number-length most_printed n, digits-at-most most_printed 1 n (omega arith))

-- the lines of a front cost
module _ (s : Sheet) (v : Valid s) (g : Cost) (h : HasCost s g) where
  cost-long : length (printed most_printed 74 (front_row s g)) ≤ 46
  cost-long =
      omega (arith, printed-most most_printed 74 (front_row s g), length-append g (arrival_of s g ∷ []), has-three s g h)

  path-long : length (printed most_printed 80 (journey_of s g)) ≤ 770
  path-long =
      let j = (journey_of-selected s g h).journey in
      omega
      (arith, printed-long most_printed 80 3 (journey_of s g) (λ i k. place-long (number (journey_of s g) i) (omega (arith, way-place s v j.A (journey_of s g) g j.way i (omega (arith, k, j.way.places)), v.most-places))), journey-short s g v h)

  lines_long : length (journey_lines s g) ≤ 816
  unfolding journey_lines
  lines_long = omega (arith, length-append (printed most_printed 74 (front_row s g)) (printed most_printed 80 (journey_of s g)), cost-long, path-long)

offers-long : (s : Sheet) → Valid s → length (offer_lines s) ≤ length (front s) * 816
unfolding offer_lines
offers-long s v = bind-long (journey_lines s) 816 [] (front s) (λ i k. lines_long s v (get_or (front s) i []) (front-on s (get_or (front s) i []) (member (front s) i k)).has)

front_long : (s : Sheet) → length (front_line s) ≤ 24
unfolding front_line
front_long s = two-long 70 (length (front s)) (length (leading s))

pub served-fits : (s : Sheet) → Valid s → overfull s list_numbers ≡ false → length (front_line s) + length (offer_lines s) ≤ page_room
served-fits s v e = omega (arith, front_long s, offers-long s v, few-costs s e)

-- the page of a sheet, and of any bytes
on_fits : (s : Sheet) → Valid s → length (page_on s) ≤ page_room
unfolding page_on
on_fits s v = go (crowded s table_numbers) (overfull s list_numbers) refl
  where
    go : (t u : Bool) → overfull s list_numbers ≡ u → length (pick t (refusal_line 8 0) (pick u (refusal_line 9 0) (front_line s ++ offer_lines s))) ≤ page_room
    go true u e = omega (arith, refusal-long 8 0)
    go false true e = omega (arith, refusal-long 9 0)
    go false false e = omega (arith, length-append (front_line s) (offer_lines s), served-fits s v e)

pub page-fits : (b : List ℕ) → length (page b) ≤ page_room
unfolding page
page-fits b = go (read_of b) refl
  where
    go : (o : Outcome) → read_of b ≡ o → length (told refusal_line page_on o) ≤ page_room
    go (refused k n) e = omega (arith, refusal-long k n)
    go (loaded s) e = on_fits s (read-valid b s e)
