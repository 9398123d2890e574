-- What the functions that tell which arrivals at the goal count promise each other.
use Rattle.std.specs.Prelude.{◌≡◌, List, ℕ, ◌≤◌, length}
use Rattle.sheet.specs.Lists.{number}
use Rattle.sheet.specs.Kinds.{width, kind_s}
use Rattle.sheet.specs.Sheet.{Sheet}
use Rattle.sheet.specs.Store.{SomeStore, sheet_in}
use Rattle.intervals.specs.FirstSteps.{Stayable, Derived}
use Rattle.journeys.specs.Computed.{countsb}
use Rattle.journeys.specs.Inner.{counts_at}

-- the numbers of an S line, at the front of the array, and a table of first steps
pub record Countable (all since : List ℕ) : Type 0 where
  pub head : width kind_s ≤ length all
  pub goal : Stayable since (number all 3) (number all 1) (number all 4)

-- the array tells which arrivals at the goal of s count
pub record CountingOf (s : Sheet) (counting : List ℕ) : Type 0 where
  pub of : (t : ℕ) → counts_at counting t ≡ countsb s t

-- it tells so of the sheet that stands in the array `all`, with this table of first steps
pub record CountingIn (all since counting : List ℕ) : Type 0 where
  pub of : (lines : List ℕ) → SomeStore lines all → Derived (sheet_in lines all) since → CountingOf (sheet_in lines all) counting
