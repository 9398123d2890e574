-- What the calls of the front and of a journey hand back, and what they leave in the lent arrays (document 01, "What is handed back" and
-- "Who causes which refusal"), from the sheet's bytes and the arrays as they are lent, for every length and every refusal.
use Rattle.std.specs.Prelude.{Bool, List, [], ◌∷◌, ◌++◌, ℕ, ◌/◌, ltb, leb, length, get_or}
use Rattle.sheet.specs.Lists.{pick, filled, bind}
use Rattle.sheet.specs.Sheet.{Sheet, told, read_of}
use Rattle.costs.specs.Costs.{Cost, zero_cost}
use Rattle.arrivals.specs.Computed.{leading}
use Rattle.arrivals.specs.Table.{crowded, arrival_table}
use Rattle.journeys.specs.Computed.{journey_of, arrival_of, front}
use Rattle.journeys.specs.declared.FrontAnswer.{FrontAnswer}
use Rattle.journeys.specs.declared.JourneyAnswer.{JourneyAnswer}

-- zeros in all of a lent array
abbrev pub cleared : List ℕ → List ℕ
cleared l = filled (length l) []

-- a row of the front list: the figures and the arrival step
abbrev pub front_row : Sheet → Cost → List ℕ
front_row s g = g ++ (arrival_of s g ∷ [])

-- there are more front costs than a list of n numbers has room for (refusal 9)
unfoldable pub overfull : Sheet → ℕ → Bool
unfolding front
overfull s n = ltb (n / 4) (length (front s))

-- the front: the answer, and the arrivals table and the front list afterwards
pub record FrontEnd : Type 0 where
  pub answer : FrontAnswer
  pub table : List ℕ
  pub list : List ℕ

abbrev pub front_end : FrontAnswer → List ℕ → List ℕ → FrontEnd
front_end r table list = record { answer = r; table = table; list = list }

abbrev pub front_refused : List ℕ → List ℕ → ℕ → ℕ → FrontEnd
front_refused table list k n = front_end (record { refusal = k; line = n; costs = 0; arrivals = 0 }) table list

unfoldable pub front_served : Sheet → List ℕ → List ℕ → FrontEnd
unfolding front leading arrival_table arrival_of
front_served s table list =
    front_end (record { refusal = 0; line = 0; costs = length (front s); arrivals = length (leading s) }) (arrival_table s (length table))
    (filled (length list) (bind (front s) (front_row s)))

-- 8, then 9
unfoldable pub front_on : Sheet → List ℕ → List ℕ → FrontEnd
unfolding crowded overfull front_served
front_on s table list =
    let r = front_served s table list in
    let q = pick (overfull s (length list)) (front_refused (cleared table) list 9 0) r in
    pick (crowded s (length table)) (front_refused (cleared table) list 8 0) q

-- the call of the front
unfoldable pub front_call : List ℕ → List ℕ → List ℕ → FrontEnd
unfolding front_on read_of
front_call b table list = told (front_refused table list) (λ s. front_on s table list) (read_of b)

-- the journey: the answer, and the arrivals table and the path buffer afterwards
pub record JourneyEnd : Type 0 where
  pub answer : JourneyAnswer
  pub table : List ℕ
  pub path : List ℕ

abbrev pub journey_end : JourneyAnswer → List ℕ → List ℕ → JourneyEnd
journey_end r table path = record { answer = r; table = table; path = path }

abbrev pub journey_refused : List ℕ → List ℕ → ℕ → ℕ → JourneyEnd
journey_refused table path k n = journey_end (record { refusal = k; line = n; cost = zero_cost; arrival = 0 }) table path

-- the path buffer of n numbers is shorter than the journey of cost g (refusal 11)
unfoldable pub too_short : Sheet → Cost → ℕ → Bool
unfolding journey_of
too_short s g n = ltb n (length (journey_of s g))

unfoldable pub journey_served : Sheet → Cost → List ℕ → List ℕ → JourneyEnd
unfolding arrival_table journey_of arrival_of
journey_served s g table path =
    journey_end (record { refusal = 0; line = 0; cost = g; arrival = arrival_of s g }) (arrival_table s (length table)) (filled (length path) (journey_of s g))

-- 8, then 10, then 11
unfoldable pub journey_on : Sheet → ℕ → List ℕ → List ℕ → JourneyEnd
unfolding crowded front too_short journey_served
journey_on s i table path =
    let g = get_or (front s) i [] in
    let r = journey_served s g table path in
    let q = pick (too_short s g (length path)) (journey_refused (cleared table) path 11 0) r in
    let o = pick (leb (length (front s)) i) (journey_refused (cleared table) path 10 0) q in
    pick (crowded s (length table)) (journey_refused (cleared table) path 8 0) o

-- the call of the journey with number i in the front, from 0
unfoldable pub journey_call : List ℕ → ℕ → List ℕ → List ℕ → JourneyEnd
unfolding journey_on read_of
journey_call b i table path = told (journey_refused table path) (λ s. journey_on s i table path) (read_of b)
