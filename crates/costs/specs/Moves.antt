-- The cost of waiting at a place and of crossing a corridor at a step (document 01, "The sheet": w1 to w3, c1 to c3; document 02, E5: closures, and E8:
-- "Each wait costs what its place says").
use Rattle.std.specs.Prelude.{◌≡◌, List, [], ◌∷◌, ℕ, get_or}
use Rattle.sheet.specs.Lists.{◌∈◌, numbers_from}
use Rattle.sheet.specs.Sheet.{Sheet, from, to}
use Rattle.costs.specs.Costs.{Cost, figures}

-- the cost of waiting one step at place v: w1 to w3 of its W line, which stands at position v (Laws.Moves.wait-line)
unfoldable pub wait_of : Sheet → ℕ → Cost
wait_of s v = numbers_from figures 1 (get_or s.waits v [])

-- the cost of a corridor: c1 to c3 of its C line
unfoldable pub cost_of : List ℕ → Cost
cost_of k = numbers_from figures 2 k

-- an X line forbids departing from u to v at step t: the edge constraint of source document 000, which forbids moving through an edge at a time
abbrev pub Closed : Sheet → ℕ → ℕ → ℕ → Type 0
Closed s u v t = (u ∷ v ∷ t ∷ []) ∈ s.closures

-- a corridor of the sheet leads from u to v at cost c, for a cart that departs at step t, and is not closed then
pub record Crossing (s : Sheet) (u v t : ℕ) (c : Cost) : Type 0 where
  pub line : List ℕ
  pub listed : line ∈ s.corridors
  pub leaves : from line ≡ u
  pub enters : to line ≡ v
  pub price : c ≡ cost_of line
  pub opens : Closed s u v t → ⊥
