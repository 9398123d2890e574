-- What the functions that read the front and a journey off the arrivals table promise each other. No exported contract cites this file.
use Rattle.std.specs.Prelude.{◌≡◌, Bool, true, false, ◌&&◌, List, [], ◌∷◌, ◌++◌, map, ℕ, ◌*◌, ◌+◌, ◌≤◌, ◌<◌, eqb, length, get_or, Option, Some, None}
use Rattle.sheet.specs.Lists.{pick, number, filter, bind}
use Rattle.costs.specs.Costs.{Cost, figures}
use Rattle.costs.specs.Computed.{sameb}
use Rattle.arrivals.specs.Arrivals.{Arrival}
use Rattle.journeys.specs.Computed.{front_of}
use Rattle.journeys.specs.Calls.{FrontEnd}
use Rattle.journeys.specs.Demand3.{SameLists}
use Rattle.journeys.specs.Held.{table_rows}
use Rattle.journeys.specs.declared.front.Offered.{Offered}
pub mod Counting
pub mod Offers
pub mod Lookup
pub mod Waits
pub mod Marks
pub mod Walk
pub mod Chain
pub mod Sweep
pub mod Slow

-- an arrival at the goal at step t counts, told by an array with a number for each step: 1 where it does
abbrev pub counts_at : List ℕ → ℕ → Bool
counts_at counting t = eqb (number counting t) 1

-- an arrival at the place v that counts
abbrev pub is_goal_row : ℕ → List ℕ → Arrival → Bool
is_goal_row v counting a = eqb a.place v && counts_at counting a.step

-- those of the first n rows of a table that pass a test
abbrev pub rows_by : (Arrival → Bool) → ℕ → List ℕ → List Arrival
rows_by test n xs = filter test (table_rows n xs)

abbrev pub goal_rows : ℕ → List ℕ → ℕ → List ℕ → List Arrival
goal_rows v counting n xs = rows_by (is_goal_row v counting) n xs

abbrev pub costs_of : List Arrival → List Cost
costs_of l = map (λ a. a.cost) l

-- the step of the first arrival with the cost g
abbrev pub first_step_of : Cost → List Arrival → ℕ
first_step_of g [] = 0
first_step_of g (a ∷ l) = let r = first_step_of g l in pick (sameb a.cost g) a.step r

-- o is the cost with number i on the front of the arrivals l, with the step of its first arrival
pub record Numbered (l : List Arrival) (i : ℕ) (o : Offered) : Type 0 where
  pub within : i < length (front_of (costs_of l))
  pub cost-is : o.cost ≡ get_or (front_of (costs_of l)) i []
  pub step-is : o.step.0 ≡ first_step_of o.cost l

-- that cost, or there is none
abbrev pub NumberIs : List Arrival → ℕ → Option Offered → Type 0
NumberIs l i None = length (front_of (costs_of l)) ≤ i
NumberIs l i (Some o) = Numbered l i o

-- the rows of the front list
abbrev pub offered_rows : List Arrival → List ℕ
offered_rows l = bind (front_of (costs_of l)) (λ g. g ++ (first_step_of g l ∷ []))

-- n numbers of two lists are equal, from position `at` on
pub record SameFigures (n : ℕ) (a b : List ℕ) (at : ℕ) : Type 0 where
  pub every : (j : ℕ) → j < n → number a (at + j) ≡ number b (at + j)

-- the first n costs of two front lists are equal
pub record SameRows (n : ℕ) (a b : List ℕ) : Type 0 where
  pub every : (i : ℕ) → i < n → SameFigures figures a b (i * 4)

-- neither call was refused, and the lists of costs are equal
abbrev pub BothSame : FrontEnd → FrontEnd → Type 0
BothSame e f = (e.answer.refusal ≡ 0) × (f.answer.refusal ≡ 0) × SameLists e f
