-- The kinds of lines, one row each, as document 01, "The sheet", lists them, with u by document 02, E2, X lines by E5 and W lines by E8:
--   `S,places,steps,start,goal,u`   once, first
--   `W,place,w1,w2,w3`              one for each place in ascending order, between S and C
--   `C,from,to,c1,c2,c3`            up to 256, strictly ascending by (from, to)
--   `X,from,to,step`                up to 256, strictly ascending by (from, to, step), between C and O
--   `O,place,first,last`            up to 256, strictly ascending by (place, first, last)
use Rattle.std.specs.Prelude.{List, [], ◌∷◌, ℕ, ◌*◌, length}

-- what a number may be: from the one to the other, both included; or a place of this sheet, below its `places`
pub data Limit : Type 0 where
  between : ℕ → ℕ → Limit
  place : Limit

-- what two numbers of a line must be (test 6), by their positions: nothing; different; the first at most the second
pub data Pair : Type 0 where
  alone : Pair
  different : ℕ → ℕ → Pair
  ordered : ℕ → ℕ → Pair

pub record Kind : Type 0 where
  -- the byte of the first field
  pub letter : ℕ
  -- the numbers after it, each with its limit
  pub limits : List Limit
  -- at most so many lines
  pub most : ℕ
  pub pair : Pair
  -- strictly ascending by so many first numbers
  pub key : ℕ
  -- its place in the order of kinds
  pub order : ℕ

-- the count of numbers in a line of the kind, and in the most lines of it
abbrev pub width : Kind → ℕ
width k = length k.limits

abbrev pub room : Kind → ℕ
room k = k.most * width k

abbrev pub step : Limit
step = between 0 255

abbrev pub cost : Limit
cost = between 0 60000

-- the time to unload (E2)
abbrev pub unloading : Limit
unloading = between 0 99

abbrev pub kind_s : Kind
kind_s = record { letter = 83; limits = between 1 64 ∷ step ∷ place ∷ place ∷ unloading ∷ []; most = 1; pair = alone; key = 0; order = 0 }

abbrev pub kind_w : Kind
kind_w = record { letter = 87; limits = place ∷ cost ∷ cost ∷ cost ∷ []; most = 64; pair = alone; key = 1; order = 1 }

abbrev pub kind_c : Kind
kind_c = record { letter = 67; limits = place ∷ place ∷ cost ∷ cost ∷ cost ∷ []; most = 256; pair = different 0 1; key = 2; order = 2 }

abbrev pub kind_x : Kind
kind_x = record { letter = 88; limits = place ∷ place ∷ step ∷ []; most = 256; pair = different 0 1; key = 3; order = 3 }

abbrev pub kind_o : Kind
kind_o = record { letter = 79; limits = place ∷ step ∷ step ∷ []; most = 256; pair = ordered 1 2; key = 3; order = 4 }

abbrev pub kinds : List Kind
kinds = kind_s ∷ kind_w ∷ kind_c ∷ kind_x ∷ kind_o ∷ []
