-- The boundary cases of document 01 for calls, computed: what calls on sheet A hand back and leave at, and one below, the room that they need.
use Rattle.std.specs.Prelude.{◌≡◌, refl, List, [], ◌∷◌, ℕ, replicate}
use Rattle.sheet.specs.Laws.Ascii.{bytes}
use Rattle.journeys.specs.Calls.{FrontEnd, front_call, JourneyEnd, journey_call}
use Rattle.examples.specs.Marked.{sheet_a}

-- a call of the front on sheet A with arrays of n and m numbers, filled with sevens: refusal, line, costs, arrivals; then both arrays
abbrev pub front_shown : FrontEnd → List (List ℕ)
front_shown e = (e.answer.refusal ∷ e.answer.line ∷ e.answer.costs ∷ e.answer.arrivals ∷ []) ∷ e.table ∷ e.list ∷ []

abbrev pub front_a : ℕ → ℕ → List (List ℕ)
front_a n m = front_shown (front_call (bytes sheet_a) (replicate n 7) (replicate m 7))

-- room for 5 arrivals and 2 costs is served, the cells past the last whole row zero; room for 4 arrivals is 8, room for 1 cost is 9
pub front-rooms : (front_a 26 9 ∷ front_a 24 9 ∷ front_a 25 7 ∷ [])
    ≡ ((0 ∷ 0 ∷ 2 ∷ 5 ∷ [])
    ∷ (0 ∷ 0 ∷ 0 ∷ 0 ∷ 0 ∷ 2 ∷ 1 ∷ 1 ∷ 3 ∷ 0 ∷ 3 ∷ 2 ∷ 2 ∷ 6 ∷ 0 ∷ 1 ∷ 3 ∷ 3 ∷ 0 ∷ 4 ∷ 3 ∷ 4 ∷ 4 ∷ 0 ∷ 8 ∷ 0 ∷ [])
    ∷ (2 ∷ 6 ∷ 0 ∷ 2 ∷ 4 ∷ 0 ∷ 8 ∷ 4 ∷ 0 ∷ [])
    ∷ [])
    ∷ ((8 ∷ 0 ∷ 0 ∷ 0 ∷ []) ∷ replicate 24 0 ∷ replicate 9 7 ∷ [])
    ∷ ((9 ∷ 0 ∷ 0 ∷ 0 ∷ []) ∷ replicate 25 0 ∷ replicate 7 7 ∷ [])
    ∷ []
unfolding front_call
front-rooms = refl

-- a call of journey i on sheet A with arrays of n and m numbers, filled with sevens: refusal, line, arrival; the cost; then both arrays
abbrev pub journey_shown : JourneyEnd → List (List ℕ)
journey_shown e = (e.answer.refusal ∷ e.answer.line ∷ e.answer.arrival ∷ []) ∷ e.answer.cost ∷ e.table ∷ e.path ∷ []

abbrev pub journey_a : ℕ → ℕ → ℕ → List (List ℕ)
journey_a i n m = journey_shown (journey_call (bytes sheet_a) i (replicate n 7) (replicate m 7))

-- the journey with number 1 needs a path of 5 cells; there is none with number 2; 8 comes before 10, and 10 before 11
pub journey-rooms : (journey_a 1 25 6 ∷ journey_a 1 25 4 ∷ journey_a 2 25 1 ∷ journey_a 2 24 1 ∷ [])
    ≡ ((0 ∷ 0 ∷ 4 ∷ [])
    ∷ (4 ∷ 0 ∷ 8 ∷ [])
    ∷ (0 ∷ 0 ∷ 0 ∷ 0 ∷ 0 ∷ 2 ∷ 1 ∷ 1 ∷ 3 ∷ 0 ∷ 3 ∷ 2 ∷ 2 ∷ 6 ∷ 0 ∷ 1 ∷ 3 ∷ 3 ∷ 0 ∷ 4 ∷ 3 ∷ 4 ∷ 4 ∷ 0 ∷ 8 ∷ [])
    ∷ (0 ∷ 0 ∷ 0 ∷ 1 ∷ 3 ∷ 0 ∷ [])
    ∷ [])
    ∷ ((11 ∷ 0 ∷ 0 ∷ []) ∷ (0 ∷ 0 ∷ 0 ∷ []) ∷ replicate 25 0 ∷ replicate 4 7 ∷ [])
    ∷ ((10 ∷ 0 ∷ 0 ∷ []) ∷ (0 ∷ 0 ∷ 0 ∷ []) ∷ replicate 25 0 ∷ replicate 1 7 ∷ [])
    ∷ ((8 ∷ 0 ∷ 0 ∷ []) ∷ (0 ∷ 0 ∷ 0 ∷ []) ∷ replicate 24 0 ∷ replicate 1 7 ∷ [])
    ∷ []
unfolding journey_call
journey-rooms = refl
