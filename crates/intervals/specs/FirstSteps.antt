-- The table of first steps of free runs, as `fill_since` leaves it, and a sheet in one array with that table beside it.
use Rattle.std.specs.Prelude.{◌≡◌, List, ℕ, ◌+◌, ◌*◌, ◌≤◌, ◌<◌, ◌%◌, length}
use Rattle.sheet.specs.Lists.{◌∈◌, pick, number, flat}
use Rattle.sheet.specs.Kinds.{width, room, kind_o}
use Rattle.sheet.specs.Sheet.{Sheet, place_of, last}
use Rattle.sheet.specs.Calls.{group_rows}
use Rattle.sheet.specs.Valid.{Valid}
use Rattle.intervals.specs.Computed.{stayb, since_of}

-- whole lines, at most 256, of places below 64 and steps up to 255
pub record ValidGroup (occupancies : List ℕ) : Type 0 where
  pub most : length occupancies ≤ room kind_o
  pub whole : length occupancies % width kind_o ≡ 0
  pub place : (o : List ℕ) → o ∈ group_rows kind_o occupancies → place_of o < 64
  pub step : (o : List ℕ) → o ∈ group_rows kind_o occupancies → last o ≤ 255

-- the table holds the first steps of the free runs, on every sheet with these occupancies
pub record SinceTable (occupancies since : List ℕ) : Type 0 where
  pub size : length since ≡ 16384
  pub of : (s : Sheet) → s.occupancies ≡ group_rows kind_o occupancies → (v t : ℕ) → v < 64 → t < 256 → number since (v * 256 + t) ≡ since_of s v t

-- a table of first steps, a place, a last step, and so many steps
pub record Stayable (since : List ℕ) (v last n : ℕ) : Type 0 where
  pub size : length since ≡ 16384
  pub place : v < 64
  pub day : last ≤ 255
  pub short : n ≤ 255

-- r tells for each step by 1 that v is free from it to n steps after it, no later than `last`, and by 0 that it is not, on every sheet whose first
-- steps the table holds
pub record StayTable (since : List ℕ) (v last n : ℕ) (r : List ℕ) : Type 0 where
  pub of : (occupancies : List ℕ) → SinceTable occupancies since → (s : Sheet) → s.occupancies ≡ group_rows kind_o occupancies
      → (t : ℕ) → number r t ≡ pick (stayb s v last n t) 1 0

-- s is a valid sheet, and the table holds the first steps of its free runs
pub record Derived (s : Sheet) (since : List ℕ) : Type 0 where
  pub valid : Valid s
  pub firsts : SinceTable (flat s.occupancies) since
