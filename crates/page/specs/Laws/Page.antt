-- What is printed of what the calls hand back: the refusal of the call of the front, or its counts and then, for each number in the front, the cost, the
-- arrival and the path of the call of that journey, in the buffers that the program lends (2,000 arrivals, 200 costs, 256 places). That the program's page
-- is this stands in proofs/Page.antt.
use Rattle.std.specs.Prelude.{◌≡◌, List, [], ◌∷◌, ◌++◌, ℕ, zero, suc, ◌<◌, eqb, length, take, replicate}
use Rattle.std.proofs.Common.{arith, length-append, lt-ltb}
use Rattle.sheet.specs.Lists.{pick, bind}
use Rattle.sheet.specs.Sheet.{most_bytes, read_of}
use Rattle.sheet.specs.Text.{printed, most_printed, refusal_line}
use Rattle.journeys.specs.Calls.{FrontEnd, front_call, JourneyEnd, journey_call}
use Rattle.page.specs.Page.{table_numbers, list_numbers, page}

-- n numbers from i on
abbrev pub numbers : ℕ → ℕ → List ℕ
numbers i zero = []
numbers i (suc n) = i ∷ numbers (suc i) n

-- the program's calls
abbrev pub front_program : List ℕ → FrontEnd
front_program b = front_call b (replicate table_numbers 0) (replicate list_numbers 0)

abbrev pub journey_program : List ℕ → ℕ → JourneyEnd
journey_program b i = journey_call b i (replicate table_numbers 0) (replicate 256 0)

-- what is printed of a call of the front, and of a call of a journey
abbrev pub front_printed : FrontEnd → List ℕ
front_printed e = printed most_printed 70 (e.answer.costs ∷ e.answer.arrivals ∷ [])

abbrev pub journey_printed : JourneyEnd → List ℕ
journey_printed e = printed most_printed 74 (e.answer.cost ++ (e.answer.arrival ∷ [])) ++ printed most_printed 80 (take (suc e.answer.arrival) e.path)

abbrev pub page_printed : FrontEnd → (ℕ → JourneyEnd) → List ℕ
page_printed e j =
    pick (eqb e.answer.refusal 0) (front_printed e ++ bind (numbers 0 e.answer.costs) (λ i. journey_printed (j i)))
    (refusal_line e.answer.refusal e.answer.line)

-- one byte more than a sheet may have decides: what stands after it changes nothing
pub page-cut : (b rest : List ℕ) → most_bytes < length b → page (b ++ rest) ≡ page b
unfolding page read_of
page-cut b rest h =
    let e = lt-ltb most_bytes (length b) h in
    let f = lt-ltb most_bytes (length (b ++ rest)) (omega (arith, length-append b rest, h)) in
    rw (e, f)
