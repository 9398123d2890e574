-- Arrivals and leading arrivals (document 01, "Safe intervals and leading arrivals"; 001: labels, definition 2).
use Rattle.std.specs.Prelude.{◌≡◌, ◌≢◌, List, ◌∷◌, ℕ, ◌-◌, ◌≤◌}
use Rattle.sheet.specs.Lists.{number}
use Rattle.sheet.specs.Sheet.{Sheet, steps}
use Rattle.costs.specs.Costs.{Cost, add, times, AtMost}
use Rattle.costs.specs.Moves.{wait_of}
use Rattle.intervals.specs.Intervals.{Together}
use Rattle.arrivals.specs.Ways.{Way}

-- a place, a step and a cost
pub record Arrival : Type 0 where
  pub place : ℕ
  pub step : ℕ
  pub cost : Cost

-- arrivals ascend by step, place, cost
abbrev pub key_of : Arrival → List ℕ
key_of a = a.step ∷ a.place ∷ a.cost

-- a lawful way from the start stands there at that step with that cost; the goal plays no part
pub record Arrives (s : Sheet) (a : Arrival) : Type 0 where
  pub path : List ℕ
  pub way : Way s a.step path a.cost
  pub stands : number path a.step ≡ a.place
  pub in-time : a.step ≤ steps s

-- of two different arrivals in one safe interval of one place, a leads b
pub record Leads (s : Sheet) (a b : Arrival) : Type 0 where
  pub differ : a ≢ b
  pub same_place : a.place ≡ b.place
  pub together : Together s b.place a.step b.step
  pub no-later : a.step ≤ b.step
  pub no-dearer : AtMost (add a.cost (times (b.step - a.step) (wait_of s b.place))) b.cost

-- an arrival that no other leads
pub record Leading (s : Sheet) (a : Arrival) : Type 0 where
  pub arrives : Arrives s a
  pub unled : (b : Arrival) → Arrives s b → Leads s b a → ⊥
