-- What the functions that look rows up promise. While a journey is walked a row's first number is its place and, 64 times, its mark; places are
-- below 64. No exported contract cites this file.
use Rattle.std.specs.Prelude.{◌≡◌, List, ℕ, ◌+◌, ◌*◌, ◌/◌, ◌%◌, ◌≤◌, ◌<◌, length, get_or, Option, Some, None}
use Rattle.sheet.specs.Lists.{Lex}
use Rattle.arrivals.specs.Arrivals.{Arrival, key_of}
use Rattle.arrivals.specs.Computed.{arrival}
use Rattle.arrivals.specs.Rows.{cost_at}
use Rattle.journeys.specs.declared.lookup.Stand.{Stand}

-- the arrival of a cart that stands there
abbrev pub standing : Stand → Arrival
standing a = arrival a.place.0 a.step.0 a.cost

-- the place, the mark and the arrival of row k
abbrev pub place_at : List ℕ → ℕ → ℕ
place_at xs k = get_or xs (k * 5) 0 % 64

abbrev pub mark_at : List ℕ → ℕ → ℕ
mark_at xs k = get_or xs (k * 5) 0 / 64

abbrev pub stand_at : List ℕ → ℕ → Arrival
stand_at xs k = arrival (place_at xs k) (get_or xs (k * 5 + 1) 0) (cost_at xs k)

-- the first n rows of the table ascend by step, place, cost
pub record Sorted (n : ℕ) (xs : List ℕ) : Type 0 where
  pub room : n * 5 ≤ length xs
  pub ascends : (i j : ℕ) → i < j → j < n → Lex (key_of (stand_at xs i)) (key_of (stand_at xs j))

-- the number told is that of one of the first n rows, and P holds of it; where none is told, P holds of n
abbrev pub RowOr : ℕ → (ℕ → Type 0) → Option ℕ → Type 0
RowOr n P None = P n
RowOr n P (Some k) = (k < n) × P k

-- of the first n rows the one with number r is a, and no other is; r is n where none is
pub record RowIs (n : ℕ) (xs : List ℕ) (a : Arrival) (r : ℕ) : Type 0 where
  pub most : r ≤ n
  pub is : r < n → stand_at xs r ≡ a
  pub only : (k : ℕ) → k < n → stand_at xs k ≡ a → k ≡ r
