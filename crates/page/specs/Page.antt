-- The page that the program prints, as bytes (document 01, "What is handed back": `F,costs,arrivals`, then for each cost
-- `J,c1,c2,c3,arrival` and `P,` with the places; a refusal is `R,number,line` alone).
use Rattle.std.specs.Prelude.{List, [], ◌∷◌, ◌++◌, ℕ, ◌*◌, length}
use Rattle.sheet.specs.Lists.{pick, bind, filled}
use Rattle.sheet.specs.Sheet.{Sheet, told, read_of}
use Rattle.sheet.specs.Text.{printed, most_printed, refusal_line}
use Rattle.costs.specs.Costs.{Cost}
use Rattle.arrivals.specs.Computed.{leading}
use Rattle.arrivals.specs.Table.{crowded}
use Rattle.journeys.specs.Computed.{journey_of, arrival_of, front}
use Rattle.journeys.specs.Calls.{front_row, overfull}
use Rattle.sheet.specs.declared.printed.Printed.{Printed}

-- `F,costs,arrivals`
unfoldable pub front_line : Sheet → List ℕ
unfolding printed front leading
front_line s = printed most_printed 70 (length (front s) ∷ length (leading s) ∷ [])

-- `J,c1,c2,c3,arrival`, and `P,` with the places
unfoldable pub journey_lines : Sheet → Cost → List ℕ
unfolding printed journey_of arrival_of
journey_lines s g = printed most_printed 74 (front_row s g) ++ printed most_printed 80 (journey_of s g)

-- the lines of every front cost, in order
unfoldable pub offer_lines : Sheet → List ℕ
unfolding front journey_lines
offer_lines s = bind (front s) (journey_lines s)

-- the lent numbers: room for 2,000 arrivals and 200 costs
abbrev pub table_numbers : ℕ
table_numbers = 2000 * 5

abbrev pub list_numbers : ℕ
list_numbers = 200 * 4

unfoldable pub page_on : Sheet → List ℕ
unfolding crowded overfull refusal_line front_line offer_lines
page_on s =
    let r = front_line s ++ offer_lines s in
    let q = pick (overfull s list_numbers) (refusal_line 9 0) r in
    pick (crowded s table_numbers) (refusal_line 8 0) q

-- what the program prints for the bytes on its standard input
unfoldable pub page : List ℕ → List ℕ
unfolding page_on refusal_line read_of
page b = told refusal_line page_on (read_of b)

-- the room for a page, in bytes: none is longer (Room.page-fits)
abbrev pub page_room : ℕ
page_room = 163840

-- the page as the program holds it: its bytes, then zeros, and the count of its bytes
unfoldable pub held : List ℕ → Printed page_room
unfolding page
held b = record { bytes = filled page_room (page b); count = length (page b) }
