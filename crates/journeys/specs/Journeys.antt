-- Lawful journeys, the tie rule and allowances (document 01, "Lawful journeys" and "What is handed back"; document 02, E2 and E9).
-- A journey is what 001 calls a path from the start to the goal.
use Rattle.std.specs.Prelude.{◌≡◌, ◌⊎◌, List, ◌∷◌, ℕ, ◌+◌, ◌≤◌, length}
use Rattle.sheet.specs.Lists.{number, Lex}
use Rattle.sheet.specs.Sheet.{Sheet, steps, goal, unload}
use Rattle.costs.specs.Costs.{Cost, AtMost}
use Rattle.intervals.specs.Intervals.{Run}
use Rattle.arrivals.specs.Ways.{Way}

-- An arrival at the goal at step t counts (E2): the goal is free from t to t + u, and t + u is at most T.
pub record Counts (s : Sheet) (t : ℕ) : Type 0 where
  pub in-time : t + unload s ≤ steps s
  pub stays : Run s (goal s) t (t + unload s)

-- p is a lawful journey at cost g: a lawful way that stands at the goal at its last step A, at which an arrival counts
pub record Journey (s : Sheet) (p : List ℕ) (g : Cost) : Type 0 where
  pub A : ℕ
  pub way : Way s A p g
  pub ends : number p A ≡ goal s
  pub counts : Counts s A

-- some lawful journey has cost g
abbrev pub HasCost : Sheet → Cost → Type 0
HasCost s g = (p : List ℕ) × Journey s p g

-- the sheet can meet the allowance: some lawful journey has a cost with each figure at or below the number in its place
pub record Meets (s : Sheet) (allowance : Cost) : Type 0 where
  pub cost : Cost
  pub has : HasCost s cost
  pub within : AtMost cost allowance

-- The tie rule's order on journeys of one cost (E9): the earlier arrival; of those, from step 0 forwards, at the first difference the lower
-- place.
abbrev pub rank : List ℕ → List ℕ
rank p = length p ∷ p

-- p is the journey that the tie rule selects for the cost g
pub record Selected (s : Sheet) (g : Cost) (p : List ℕ) : Type 0 where
  pub journey : Journey s p g
  pub first : (q : List ℕ) → Journey s q g → (p ≡ q) ⊎ Lex (rank p) (rank q)
