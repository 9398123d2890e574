-- What the functions of the walk promise each other. No exported contract cites this file.
use Rattle.std.specs.Prelude.{◌≡◌, List, ℕ, suc, ◌≤◌, ◌<◌}
use Rattle.sheet.specs.Sheet.{Sheet}
use Rattle.costs.specs.Costs.{Cost, add}
use Rattle.costs.specs.Moves.{wait_of}
use Rattle.costs.specs.Priced.{Within, CrossingBy}
use Rattle.arrivals.specs.Ways.{Move}
use Rattle.arrivals.specs.Arrivals.{Arrival}
use Rattle.arrivals.specs.Computed.{arrival}
use Rattle.journeys.specs.Inner.Lookup.{mark_at, stand_at}
use Rattle.journeys.specs.Inner.Waits.{Rowed}
use Rattle.journeys.specs.Laws.Exact.{Waits}

-- from a row that is marked past a's step a cart stands as a by waiting
pub record Marked (s : Sheet) (n : ℕ) (xs : List ℕ) (a : Arrival) : Type 0 where
  pub row : ℕ
  pub within : row < n
  pub waits : Waits s (stand_at xs row) a
  pub past : a.step < mark_at xs row

-- where a cart that stands as a stands after a move to v at cost c
abbrev pub after : Arrival → ℕ → Cost → Arrival
after a v c = arrival v (suc a.step) (add a.cost c)

-- one move makes b of a, and b is marked
pub record NextOf (s : Sheet) (n : ℕ) (xs : List ℕ) (a b : Arrival) : Type 0 where
  pub price : Cost
  pub move : Move s a.place b.place a.step price
  pub is : b ≡ after a b.place price
  pub marked : Marked s n xs b

-- of what a wait and the corridors below number l make of a, and is marked, b has the lowest place; b is at no place below 64 where
-- there is nothing
pub record LowestOf (s : Sheet) (n : ℕ) (xs : List ℕ) (a : Arrival) (l : ℕ) (b : Arrival) : Type 0 where
  pub next : b.place < 64 → NextOf s n xs a b
  pub waits : Marked s n xs (after a a.place (wait_of s a.place)) → b.place ≤ a.place
  pub crosses : (k v : ℕ) (c : Cost) → k < l → CrossingBy s k a.place v a.step c → Marked s n xs (after a v c) → b.place ≤ v

-- of what a move makes of a, and is marked, b has the lowest place
pub record LowestNext (s : Sheet) (n : ℕ) (xs : List ℕ) (a b : Arrival) : Type 0 where
  pub next : NextOf s n xs a b
  pub least : (v : ℕ) (c : Cost) → Move s a.place v a.step c → Marked s n xs (after a v c) → b.place ≤ v

-- the first n rows are the leading arrivals of the sheet in the array; a is a cart's place, with steps and figures that can be counted on, and a move
-- makes something of it that is marked
pub record Walkable (s : Sheet) (since : List ℕ) (n : ℕ) (table : List ℕ) (a : Arrival) : Type 0 where
  pub rowed : Rowed s since n table
  pub place : a.place < 64
  pub step : a.step < 255
  pub cost : Within 1000000000 a.cost
  pub some : (b : Arrival) × NextOf s n table a b
