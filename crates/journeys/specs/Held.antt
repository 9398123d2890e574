-- An arrivals table that holds the leading arrivals of a sheet, and what the journey of a front cost needs to be laid into a path buffer.
use Rattle.std.specs.Prelude.{◌≡◌, List, map, ℕ, suc, ◌*◌, ◌≤◌, length}
use Rattle.sheet.specs.Lists.{number, numbers_from, rows}
use Rattle.sheet.specs.Sheet.{Sheet}
use Rattle.costs.specs.Costs.{Cost, figures}
use Rattle.intervals.specs.FirstSteps.{Derived}
use Rattle.arrivals.specs.Arrivals.{Arrival}
use Rattle.arrivals.specs.Computed.{arrival, leading}
use Rattle.journeys.specs.Computed.{arrival_of}
use Rattle.journeys.specs.Front.{OnFront}

-- the arrival that a row of five numbers stands for
abbrev pub row_of : List ℕ → Arrival
row_of r = arrival (number r 0) (number r 1) (numbers_from figures 2 r)

-- the arrivals in the first n rows of a table
abbrev pub table_rows : ℕ → List ℕ → List Arrival
table_rows n xs = map row_of (rows 5 n xs)

-- the table begins with the rows of the leading arrivals of s, of which there are n
pub record Holds (s : Sheet) (n : ℕ) (xs : List ℕ) : Type 0 where
  pub room : n * 5 ≤ length xs
  pub rows_are : table_rows n xs ≡ leading s

-- on the sheet in the array, whose leading arrivals the table holds, the journey of the front cost f arrives at step A
pub record Endable (s : Sheet) (since : List ℕ) (n : ℕ) (table : List ℕ) (A : ℕ) (f : Cost) : Type 0 where
  pub derived : Derived s since
  pub holds : Holds s n table
  pub on-front : OnFront s f
  pub arrives_at : A ≡ arrival_of s f

-- and the path buffer has room for it
pub record Layable (s : Sheet) (since : List ℕ) (n : ℕ) (table : List ℕ) (A : ℕ) (f : Cost) (path : List ℕ) : Type 0 where
  pub ends : Endable s since n table A f
  pub room : suc A ≤ length path
