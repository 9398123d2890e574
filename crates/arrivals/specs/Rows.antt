-- Rows of the arrivals table (document 01, "What is handed back"): five numbers each, place, step and the three figures of a cost.
use Rattle.std.specs.Prelude.{◌≡◌, List, ◌⊎◌, ℕ, ◌+◌, ◌*◌, ◌≤◌, ◌<◌, length, get_or}
use Rattle.sheet.specs.Lists.{numbers_from}
use Rattle.costs.specs.Costs.{Cost, figures}
use Rattle.arrivals.specs.Arrivals.{Arrival}

-- a row of the table is an arrival
abbrev pub Row : Type 0
Row = Arrival

abbrev pub cost_at : List ℕ → ℕ → List ℕ
cost_at xs k = numbers_from figures (k * 5 + 2) xs

abbrev pub row_at : List ℕ → ℕ → Row
row_at xs k = record { place = get_or xs (k * 5) 0; step = get_or xs (k * 5 + 1) 0; cost = cost_at xs k }

-- b is a but for the numbers from lo to hi
pub record Besides (lo hi : ℕ) (a b : List ℕ) : Type 0 where
  pub size : length b ≡ length a
  pub same : (i : ℕ) → (i < lo) ⊎ (hi ≤ i) → get_or b i 0 ≡ get_or a i 0

-- three figures are stored from a number on
pub record FiguresPut (at : ℕ) (c : Cost) (a b : List ℕ) : Type 0 where
  pub others : Besides at (at + 3) a b
  pub figures : numbers_from figures at b ≡ c

-- row n of ys is r, and all else is as in xs
pub record Put (xs ys : List ℕ) (n : ℕ) (r : Row) : Type 0 where
  pub below : (j : ℕ) → j < n * 5 → get_or ys j 0 ≡ get_or xs j 0
  pub above : (j : ℕ) → n * 5 + 5 ≤ j → get_or ys j 0 ≡ get_or xs j 0
  pub row : row_at ys n ≡ r
