-- What the function that reads the front off the arrivals table promises.
use Rattle.std.specs.Prelude.{◌≡◌, Bool, List, ℕ}
use Rattle.sheet.specs.Sheet.{Sheet, goal}
use Rattle.journeys.specs.Calls.{FrontEnd, front_on}
use Rattle.journeys.specs.Inner.Counting.{CountingOf}
use Rattle.journeys.specs.Laws.Searched.{Ready}

-- e is the front of every sheet with the goal v whose leading arrivals the table holds and of whose arrivals at the goal the array tells which count
pub record Offers (v : ℕ) (counting : List ℕ) (n : ℕ) (table list : List ℕ) (e : FrontEnd) : Type 0 where
  pub of : (s : Sheet) (before : List ℕ) → Ready s before table n → v ≡ goal s → CountingOf s counting → e ≡ front_on s before list
