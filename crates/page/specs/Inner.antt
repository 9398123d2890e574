-- What the functions that print the page promise each other. The contract of `page_of` cites nothing of this file.
use Rattle.std.specs.Prelude.{◌≡◌, List, ℕ, ◌+◌, ◌≤◌, length}
use Rattle.sheet.specs.Lists.{numbers_from, bind}
use Rattle.sheet.specs.Sheet.{Sheet}
use Rattle.costs.specs.Costs.{Cost, figures}
use Rattle.intervals.specs.FirstSteps.{Derived}
use Rattle.journeys.specs.Front.{OnFront}
use Rattle.journeys.specs.Computed.{front}
use Rattle.journeys.specs.Calls.{front_row}
use Rattle.journeys.specs.Held.{Holds}
use Rattle.page.specs.Page.{table_numbers, list_numbers, page_room, journey_lines, offer_lines}

-- the buffers that the program lends
pub record Lent (table list out : List ℕ) : Type 0 where
  pub table-room : length table ≡ table_numbers
  pub list-room : length list ≡ list_numbers
  pub out-room : length out ≡ page_room

pub record Servable (s : Sheet) (since table list out : List ℕ) : Type 0 where
  pub derived : Derived s since
  pub lent : Lent table list out

-- the cost of a row of the front list
abbrev pub cost_in : List ℕ → Cost
cost_in row = numbers_from figures 0 row

-- the table holds the leading arrivals of the sheet in the array, the row is that of one of its front costs, and the buffer has room for its two lines
pub record Printable (s : Sheet) (since table : List ℕ) (n : ℕ) (row out : List ℕ) (at : ℕ) : Type 0 where
  pub derived : Derived s since
  pub holds : Holds s n table
  pub on-front : OnFront s (cost_in row)
  pub row_is : row ≡ front_row s (cost_in row)
  pub room : at + length (journey_lines s (cost_in row)) ≤ length out

-- the same of the rows of all its front costs
pub record Offered (s : Sheet) (since table : List ℕ) (n : ℕ) (list out : List ℕ) (at : ℕ) : Type 0 where
  pub derived : Derived s since
  pub holds : Holds s n table
  pub listed : list ≡ bind (front s) (front_row s)
  pub room : at + length (offer_lines s) ≤ length out
