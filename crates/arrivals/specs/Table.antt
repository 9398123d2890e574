-- The arrivals table and what the search leaves in it (document 01, "What is handed back").
use Rattle.std.specs.Prelude.{Bool, List, ◌∷◌, ℕ, ◌/◌, ltb, length}
use Rattle.sheet.specs.Lists.{filled, bind}
use Rattle.sheet.specs.Sheet.{Sheet}
use Rattle.arrivals.specs.Computed.{leading}
use Rattle.arrivals.specs.Arrivals.{Arrival}

-- a row of the arrivals table: place, step and the figures
abbrev pub arrival_row : Arrival → List ℕ
arrival_row a = a.place ∷ a.step ∷ a.cost

-- there are more leading arrivals than a table of n numbers has room for (refusal 8)
unfoldable pub crowded : Sheet → ℕ → Bool
unfolding leading
crowded s n = ltb (n / 5) (length (leading s))

-- the arrivals table of n numbers: the leading arrivals, then zeros
unfoldable pub arrival_table : Sheet → ℕ → List ℕ
unfolding leading
arrival_table s n = filled n (bind (leading s) arrival_row)
