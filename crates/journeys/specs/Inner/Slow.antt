-- The rows of the front, told by comparing every two rows of the arrivals table. No exported contract cites this file.
use Rattle.std.specs.Prelude.{Bool, false, ◌&&◌, ◌||◌, not, List, [], ◌∷◌, ℕ, zero, suc, eqb, ltb, length}
use Rattle.sheet.specs.Lists.{all, filter}
use Rattle.sheet.specs.Computed.{lexb}
use Rattle.costs.specs.Costs.{Cost}
use Rattle.costs.specs.Computed.{at_most_b}
use Rattle.arrivals.specs.Rows.{cost_at, row_at}
use Rattle.journeys.specs.Inner.{is_goal_row}

-- the numbers below n
abbrev pub below : ℕ → List ℕ
below zero = []
below (suc n) = n ∷ below n

-- none of them passes the test
abbrev pub none_below : (ℕ → Bool) → ℕ → Bool
none_below p n = all (λ j. not (p j)) (below n)

-- row j keeps row k off the front: it is an arrival that counts, nowhere above row k, and has the lower cost or comes first in the table
unfoldable pub kept_off : ℕ → List ℕ → List ℕ → ℕ → ℕ → Bool
kept_off v counting xs k j = (is_goal_row v counting (row_at xs j) && at_most_b (cost_at xs j) (cost_at xs k)) && (lexb (cost_at xs j) (cost_at xs k) || ltb j k)

-- row k is one of the front
unfoldable pub is_front_row : ℕ → List ℕ → ℕ → List ℕ → ℕ → Bool
is_front_row v counting n xs k = none_below (kept_off v counting xs k) n && is_goal_row v counting (row_at xs k)

-- and its cost is before g, unless all are counted
abbrev pub in_count : ℕ → List ℕ → ℕ → List ℕ → Bool → Cost → ℕ → Bool
in_count v counting n xs every g k = is_front_row v counting n xs k && (every || lexb (cost_at xs k) g)

abbrev pub count_to : ℕ → List ℕ → ℕ → List ℕ → Bool → Cost → ℕ → ℕ
count_to v counting n xs every g k = length (filter (in_count v counting n xs every g) (below k))

-- row k is the one with the number i: so many of the front's rows have a cost before its cost
abbrev pub has_number : ℕ → List ℕ → ℕ → List ℕ → ℕ → ℕ → Bool
has_number v counting n xs i k = is_front_row v counting n xs k && eqb (count_to v counting n xs false (cost_at xs k) n) i
