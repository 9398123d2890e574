-- What the search hands back and leaves in the lent table.
use Rattle.std.specs.Prelude.{Bool, true, false, List, [], ℕ, length, Result, Ok, Err}
use Rattle.sheet.specs.Lists.{pick, filled}
use Rattle.sheet.specs.Sheet.{Sheet}
use Rattle.sheet.specs.declared.refusal.Refusal.{Refusal}
use Rattle.arrivals.specs.Computed.{leading}
use Rattle.arrivals.specs.Table.{crowded, arrival_table}

-- the search: whether it is served, the number of leading arrivals handed back, and the table afterwards
pub record SearchEnd : Type 0 where
  pub served : Bool
  pub arrivals : ℕ
  pub table : List ℕ

-- served unless there are more leading arrivals than room; otherwise the whole table is zero
unfoldable pub search_on : Sheet → List ℕ → SearchEnd
unfolding crowded leading arrival_table
search_on s table =
    let r : SearchEnd = record { served = true; arrivals = length (leading s); table = arrival_table s (length table) } in
    pick (crowded s (length table)) (record { served = false; arrivals = 0; table = filled (length table) [] }) r

-- the answer of the search with the table that it left
abbrev pub search_end : Result ℕ Refusal → List ℕ → SearchEnd
search_end (Ok n) table = record { served = true; arrivals = n; table = table }
search_end (Err e) table = record { served = false; arrivals = 0; table = table }
