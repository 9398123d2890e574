-- What the functions that find the row from which a cart waits promise. No exported contract cites this file.
use Rattle.std.specs.Prelude.{◌≡◌, List, ℕ, ◌-◌, ◌≤◌, ◌<◌}
use Rattle.sheet.specs.Sheet.{Sheet}
use Rattle.costs.specs.Costs.{Cost, add, times}
use Rattle.intervals.specs.FirstSteps.{Derived}
use Rattle.arrivals.specs.Arrivals.{Arrival, Leading}
use Rattle.arrivals.specs.declared.network.Here.{Here}
use Rattle.journeys.specs.Inner.Lookup.{stand_at, Sorted}
use Rattle.journeys.specs.Laws.Exact.{Waits}

-- the arrival e at here's place becomes h by waiting until here's step
pub record Becomes (here : Here) (h : Cost) (e : Arrival) : Type 0 where
  pub place : e.place ≡ here.place.0
  pub sum : add e.cost (times (here.step.0 - e.step) here.wait) ≡ h

-- of the first n rows the one with number r is at step t and becomes h, and no other; r is n where none does
pub record KeptFrom (n : ℕ) (xs : List ℕ) (here : Here) (h : Cost) (t r : ℕ) : Type 0 where
  pub most : r ≤ n
  pub at : r < n → (stand_at xs r).step ≡ t
  pub is : r < n → Becomes here h (stand_at xs r)
  pub only : (k : ℕ) → k < n → (stand_at xs k).step ≡ t → Becomes here h (stand_at xs k) → k ≡ r

-- the step t is one of here's safe interval, up to here's step
pub record InRun (here : Here) (t : ℕ) : Type 0 where
  pub since : here.since.0 ≤ t
  pub until : t ≤ here.step.0

-- of the first n rows the one with number r is at a step of here's safe interval and becomes h; r is n where none does
pub record KeptRow (n : ℕ) (xs : List ℕ) (here : Here) (h : Cost) (r : ℕ) : Type 0 where
  pub most : r ≤ n
  pub within : r < n → InRun here (stand_at xs r).step
  pub is : r < n → Becomes here h (stand_at xs r)
  pub none : n ≤ r → (k : ℕ) → k < n → InRun here (stand_at xs k).step → Becomes here h (stand_at xs k) → ⊥

-- the first n rows are the leading arrivals of s, in order
pub record Rows (s : Sheet) (n : ℕ) (xs : List ℕ) : Type 0 where
  pub sorted : Sorted n xs
  pub each : (k : ℕ) → k < n → Leading s (stand_at xs k)
  pub every : (e : Arrival) → Leading s e → (k : ℕ) × (k < n) × (stand_at xs k ≡ e)

-- those of the sheet in the array, whose first steps stand beside it
pub record Rowed (s : Sheet) (since : List ℕ) (n : ℕ) (table : List ℕ) : Type 0 where
  pub derived : Derived s since
  pub rows : Rows s n table

-- from the row with number r, and from no other of the first n, a cart stands as a by waiting; r is n where there is none
pub record WaitingRow (s : Sheet) (n : ℕ) (xs : List ℕ) (a : Arrival) (r : ℕ) : Type 0 where
  pub most : r ≤ n
  pub is : r < n → Waits s (stand_at xs r) a
  pub only : (k : ℕ) → k < n → Waits s (stand_at xs k) a → k ≡ r
