-- A valid sheet: what document 01, "The sheet", and document 02, E2, E5, E6 and E8, ask of its numbers. Every sheet that is read is one (Laws.Valid).
use Rattle.std.specs.Prelude.{◌≡◌, ◌≢◌, List, [], ◌∷◌, ℕ, suc, ◌≤◌, ◌<◌, length, take}
use Rattle.sheet.specs.Lists.{number, ◌∈◌}
use Rattle.sheet.specs.Sorting.{Ascending}
use Rattle.sheet.specs.Kinds.{width, kind_s, kind_w, kind_c, kind_x, kind_o}
use Rattle.sheet.specs.Sheet.{Sheet, places, steps, start, goal, unload, from, to, departure, place_of, first, last}

-- what waiting costs at a place, no figure above 60,000
pub record ValidWait (s : Sheet) (w : List ℕ) : Type 0 where
  pub wide : length w ≡ width kind_w
  pub place : place_of w < places s
  pub cost : (i : ℕ) → 1 ≤ i → number w i ≤ 60000

-- the places of W lines, one after another from i on
abbrev pub Turned : ℕ → List (List ℕ) → Type 0
Turned i [] = Unit {0}
Turned i (w ∷ ws) = (place_of w ≡ i) × Turned (suc i) ws

-- a corridor between two places, no figure above 60,000
pub record ValidCorridor (s : Sheet) (k : List ℕ) : Type 0 where
  pub wide : length k ≡ width kind_c
  pub from_place : from k < places s
  pub to-place : to k < places s
  pub cost : (i : ℕ) → 2 ≤ i → number k i ≤ 60000
  pub apart : from k ≢ to k

-- a closure of a corridor of the sheet, at a step of the day
pub record ValidClosure (s : Sheet) (x : List ℕ) : Type 0 where
  pub wide : length x ≡ width kind_x
  pub corridor : List ℕ
  pub listed : corridor ∈ s.corridors
  pub leaves : from corridor ≡ from x
  pub enters : to corridor ≡ to x
  pub in-day : departure x ≤ 255

-- an occupancy of a place, from its first step, which is not past the last step of the sheet, to its last
pub record ValidOccupancy (s : Sheet) (o : List ℕ) : Type 0 where
  pub wide : length o ≡ width kind_o
  pub place : place_of o < places s
  pub in-day : last o ≤ 255
  pub ordered : first o ≤ last o
  pub begins : first o ≤ steps s

pub record Valid (s : Sheet) : Type 0 where
  pub wide : length s.head ≡ width kind_s
  pub some-place : 1 ≤ places s
  pub most-places : places s ≤ 64
  pub most-steps : steps s ≤ 255
  pub start-place : start s < places s
  pub goal-place : goal s < places s
  pub most-unload : unload s ≤ 99
  pub waits : (w : List ℕ) → w ∈ s.waits → ValidWait s w
  pub waits-turn : Turned 0 s.waits
  pub each-place : length s.waits ≡ places s
  pub corridors : (k : List ℕ) → k ∈ s.corridors → ValidCorridor s k
  pub most-corridors : length s.corridors ≤ kind_c.most
  pub corridors-ascend : Ascending (take kind_c.key) s.corridors
  pub closures : (x : List ℕ) → x ∈ s.closures → ValidClosure s x
  pub most-closures : length s.closures ≤ kind_x.most
  pub closures-ascend : Ascending (take kind_x.key) s.closures
  pub occupancies : (o : List ℕ) → o ∈ s.occupancies → ValidOccupancy s o
  pub most-occupancies : length s.occupancies ≤ kind_o.most
  pub occupancies-ascend : Ascending (take kind_o.key) s.occupancies
