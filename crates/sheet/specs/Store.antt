-- A sheet as the code holds it: in one array the groups at full length, in the order of kinds, zeros past the last line of each; and the count of
-- lines of each kind. The contracts of the calls for the host cite nothing of this file.
use Rattle.std.specs.Prelude.{◌≡◌, List, [], ◌∷◌, ◌++◌, map, ℕ, zero, suc, ◌+◌, ◌*◌, length, get_or, take, drop, replicate}
use Rattle.sheet.specs.Lists.{number, filled, flat}
use Rattle.sheet.specs.Kinds.{Kind, width, room, kind_s, kinds}
use Rattle.sheet.specs.Sheet.{Sheet, groups_of, Outcome, refused, loaded}
use Rattle.sheet.specs.Calls.{groups, sheet_of_groups, write_end, written}
use Rattle.sheet.specs.Valid.{Valid}
use Rattle.sheet.specs.Refusals.{Verdict}
use Rattle.sheet.specs.declared.SheetWritten.{SheetWritten}

-- how many kinds there are, and the kind with number k in their order
abbrev pub kind_count : ℕ
kind_count = length kinds

abbrev pub kind_at : ℕ → Kind
kind_at k = get_or kinds k kind_s

-- where the group of the kind with number k begins
abbrev pub base_in : List Kind → ℕ → ℕ
base_in [] k = 0
base_in (j ∷ ks) zero = 0
base_in (j ∷ ks) (suc k) = room j + base_in ks k

abbrev pub base_of : ℕ → ℕ
base_of k = base_in kinds k

-- the length of the array
abbrev pub store_room : ℕ
store_room = base_of kind_count

-- the groups at full length, one after another
abbrev pub spread : List Kind → List (List (List ℕ)) → List ℕ
spread [] gs = []
spread (k ∷ ks) [] = []
spread (k ∷ ks) (g ∷ gs) = filled (room k) (flat g) ++ spread ks gs

-- the valid sheet s stands in the array, with these counts of lines
pub record StoreOf (s : Sheet) (lines all : List ℕ) : Type 0 where
  pub valid : Valid s
  pub counts : lines ≡ map length (groups_of s)
  pub cells : all ≡ spread kinds (groups_of s)

-- the numbers of the lines of the kind with number k
abbrev pub part_of : List ℕ → List ℕ → ℕ → List ℕ
part_of lines all k = take (number lines k * width (kind_at k)) (drop (base_of k) all)

-- the sheet that stands in the array (Laws.Store.store-sheet)
abbrev pub sheet_in : List ℕ → List ℕ → Sheet
sheet_in lines all = sheet_of_groups (groups (part_of lines all 0) (part_of lines all 1) (part_of lines all 2) (part_of lines all 3) (part_of lines all 4))

-- some valid sheet stands in the array
pub record SomeStore (lines all : List ℕ) : Type 0 where
  pub sheet : Sheet
  pub store : StoreOf sheet lines all

-- the arrays before any line
pub record Blank (lines all : List ℕ) : Type 0 where
  pub no_lines : lines ≡ replicate kind_count 0
  pub no_cells : all ≡ replicate store_room 0

-- v tells how a sheet was judged: the refusal, after which the arrays hold what was read so far and nothing reads them; or 0, and the array holds the sheet
pub record VerdictIs (end : Outcome) (lines all : List ℕ) (v : Verdict) : Type 0 where
  pub refuses : (v.refusal ≡ 0 → ⊥) → end ≡ refused v.refusal v.line
  pub holds : v.refusal ≡ 0 → (s : Sheet) × (end ≡ loaded s) × StoreOf s lines all

-- the sheet in the array was written, or refused with 12
pub record WrittenIs (lines all out out' : List ℕ) (r : SheetWritten) : Type 0 where
  pub of : (s : Sheet) → StoreOf s lines all → write_end r out' ≡ written out s
