-- Lawful ways from the start (document 01, "Lawful journeys"; 001: a path on the time-expanded graph): a place for each step, read forwards.
use Rattle.std.specs.Prelude.{◌≡◌, List, ℕ, zero, suc, ◌≤◌, ◌<◌, length}
use Rattle.sheet.specs.Lists.{number}
use Rattle.sheet.specs.Sheet.{Sheet, start}
use Rattle.costs.specs.Costs.{Cost, zero_cost, add}
use Rattle.costs.specs.Moves.{wait_of, Crossing}
use Rattle.intervals.specs.Intervals.{Free}

-- between step t and the next the cart goes from u to v at cost c: it waits or crosses a corridor of the sheet
pub data Move (s : Sheet) (u v t : ℕ) (c : Cost) : Type 0 where
  waits : u ≡ v → c ≡ wait_of s u → Move s u v t c
  crosses : Crossing s u v t c → Move s u v t c

-- the sum of the first n costs
abbrev pub total : (ℕ → Cost) → ℕ → Cost
total price zero = zero_cost
total price (suc n) = add (total price n) (price n)

-- p is a lawful way of A steps, at cost g: a place for each step 0 to A, the start at step 0; between neighbouring steps the cart waits or
-- crosses; at each step its place is unoccupied; the cost is the sum over its waits and crossings
pub record Way (s : Sheet) (A : ℕ) (p : List ℕ) (g : Cost) : Type 0 where
  pub places : length p ≡ suc A
  pub starts : number p 0 ≡ start s
  pub free : (t : ℕ) → t ≤ A → Free s (number p t) t
  pub price : ℕ → Cost
  pub moves : (t : ℕ) → t < A → Move s (number p t) (number p (suc t)) t (price t)
  pub sum : g ≡ total price A
