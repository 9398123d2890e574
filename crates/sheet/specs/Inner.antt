-- What the functions of the reader and the writer promise each other. The contracts of `read` and `write` cite nothing of this file.
use Rattle.std.specs.Prelude.{Bool, not, ◌&&◌, ◌||◌, ◌≡◌, List, [], ◌∷◌, ◌++◌, map, ℕ, zero, suc, ◌+◌, ◌*◌, ◌≤◌, ◌<◌, ltb, leb, eqb, length, take, drop, Option as Found, Some, None}
use Rattle.std.proofs.Math.Option.{Option, some, none}
use Rattle.std.proofs.lemmas.List.Edits.{sets}
use Rattle.sheet.specs.Lists.{pick, number, any, rows, bind}
use Rattle.sheet.specs.Bytes.{kind_of, comma, split}
use Rattle.sheet.specs.Decimal.{digits_from, number_of, most_digits}
use Rattle.sheet.specs.Kinds.{Limit, between, place, cost, Pair, alone, different, ordered, width, kind_w, kind_c, kind_o, kinds}
use Rattle.sheet.specs.Lines.{Line, line}
use Rattle.sheet.specs.Sheet.{Sheet, group, unknown, fault, lacking, Outcome, refused, loaded, judge}
use Rattle.sheet.specs.Text.{line_text, sheet_text}
use Rattle.sheet.specs.Calls.{read_answer, group_rows}
use Rattle.sheet.specs.Refusals.{Verdict}
use Rattle.sheet.specs.Store.{kind_at, base_of, spread, StoreOf, VerdictIs}
use Rattle.sheet.specs.Laws.Judge.{Passes}
use Rattle.sheet.specs.Laws.Shape.{AllShaped}
use Rattle.sheet.specs.declared.SheetRead.{SheetRead}
use Rattle.sheet.specs.declared.kinds.Pair.{Pair as RowPair}
use Rattle.sheet.specs.declared.kinds.Pair.TheVariants.{Alone, Different, Ordered}
use Rattle.sheet.specs.declared.kinds.Row.{Row}
use Rattle.sheet.specs.declared.lines.Field.{Field}

-- the limit and the pair that those of a row stand for
abbrev pub limit_at : ℕ → Limit
limit_at zero = place
limit_at (suc n) = pick (eqb (suc n) 60) cost (pick (eqb (suc n) 64) (between 1 64) (between 0 (suc n)))

abbrev pub pair_at : RowPair → Pair
pair_at Alone = alone
pair_at (Different i j) = different i j
pair_at (Ordered i j) = ordered i j

-- the positions of a pair are among the first w
abbrev pub PairInside : ℕ → Pair → Type 0
PairInside w alone = Unit {0}
PairInside w (different i j) = (i < w) × (j < w)
PairInside w (ordered i j) = (i < w) × (j < w)

-- r is the row of the kind with number k
pub record RowIs (k : ℕ) (r : Row) : Type 0 where
  pub letter-is : r.letter ≡ (kind_at k).letter
  pub width_is : r.width ≡ width (kind_at k)
  pub limits-are : map limit_at (take r.width r.limits) ≡ (kind_at k).limits
  pub most-is : r.most ≡ (kind_at k).most
  pub pair_is : pair_at r.pair ≡ (kind_at k).pair
  pub pair-inside : PairInside r.width (pair_at r.pair)
  pub key-is : r.key ≡ (kind_at k).key
  pub base-is : r.base ≡ base_of k

-- the line of kind number k whose numbers stand in the array v
abbrev pub line_at : ℕ → List ℕ → Line
line_at k v = line (kind_at k) (take (width (kind_at k)) v)

-- test 3, from the counts of lines and the places: by the kind, and by the turn; test 16, from the S line
abbrev pub behind_by : List ℕ → ℕ → Bool
behind_by lines k =
    pick (eqb k 0) (not (eqb (number lines 0) 0)) (eqb (number lines 0) 0 || any (λ n. not (eqb n 0)) (drop (suc k) lines))

abbrev pub turn_by : List ℕ → List ℕ → ℕ → List ℕ → Bool
turn_by lines all k v =
    pick (eqb k kind_w.order) (not (ltb (number lines 1) (number all 0) && eqb (number v 0) (number lines 1))) (ltb (number lines 1) (number all 0))

abbrev pub misplaced_by : List ℕ → List ℕ → ℕ → List ℕ → Bool
misplaced_by lines all k v = behind_by lines k || turn_by lines all k v

abbrev pub late_by : List ℕ → ℕ → List ℕ → Bool
late_by all k v = eqb k kind_o.order && ltb (number all 1) (number v 1)

-- lines that are in shape and pass stand in the array, with these counts
pub record Stored (before : List Line) (lines all : List ℕ) : Type 0 where
  pub shaped : AllShaped before
  pub passes : Passes [] before
  pub counts : lines ≡ map (λ k. length (group k before)) kinds
  pub cells : all ≡ spread kinds (map (λ k. group k before) kinds)

pub record Kept (lines all : List ℕ) : Type 0 where
  pub before : List Line
  pub stored : Stored before lines all

-- n is the fault of the line l after the lines in the array
pub record FaultIs (lines all : List ℕ) (l : Line) (n : ℕ) : Type 0 where
  pub of : (before : List Line) → Stored before lines all → n ≡ fault before l

-- b tells whether the line of kind number k names no corridor in the array (test 15)
pub record UnknownIs (lines all : List ℕ) (k : ℕ) (v : List ℕ) (b : Bool) : Type 0 where
  pub of : (before : List Line) → Stored before lines all → b ≡ unknown (group kind_c before) (line_at k v)

-- b tells whether something is missing where the input ends
pub record LacksIs (lines all : List ℕ) (b : Bool) : Type 0 where
  pub of : (before : List Line) → Stored before lines all → b ≡ lacking before

-- r is the fault of the line l after the lines in the array; where it is 0, the array holds the line too
pub record Takes (lines all : List ℕ) (l : Line) (lines' all' : List ℕ) (r : ℕ) : Type 0 where
  pub fault-is : FaultIs lines all l r
  pub stored : (before : List Line) → Stored before lines all → r ≡ 0 → Stored (before ++ (l ∷ [])) lines' all'

-- lines stand in the array after which the lines `todo` are judged as `end`; n is the number of the next line
pub record Reached (end : Outcome) (todo : List (Option Line)) (lines all : List ℕ) (n : ℕ) : Type 0 where
  pub before : List Line
  pub stored : Stored before lines all
  pub next : n ≡ suc (length before)
  pub same : judge before todo ≡ end

-- r is what the reader hands back of the sheet in the array
pub record AnswerIs (lines all : List ℕ) (r : SheetRead) : Type 0 where
  pub of : (s : Sheet) → StoreOf s lines all → r ≡ read_answer (loaded s)

-- v tells how lines were judged so far: the refusal, or 0 and the number of the next line, with the lines of the rest still to be judged
pub record SoFar (end : Outcome) (rest : List (Option Line)) (lines all : List ℕ) (v : Verdict) : Type 0 where
  pub refuses : (v.refusal ≡ 0 → ⊥) → end ≡ refused v.refusal v.line
  pub reaches : v.refusal ≡ 0 → Reached end rest lines all v.line

-- r tells how the input is judged that ends after the lines in the array, where n is the number of the next one
pub record EndedIs (lines all : List ℕ) (n : ℕ) (r : Verdict) : Type 0 where
  pub of : (end : Outcome) → Reached end [] lines all n → VerdictIs end lines all r

-- the array holds lines, and n is the number of the next one
pub record GroupReached (lines all : List ℕ) (n : ℕ) : Type 0 where
  pub before : List Line
  pub stored : Stored before lines all
  pub next : n ≡ suc (length before)

-- the lines of the kind with number k whose numbers stand in g one after another
abbrev pub group_lines : ℕ → List ℕ → List Line
group_lines k g = map (line (kind_at k)) (group_rows (kind_at k) g)

-- v tells how the lines of a group were judged after those in the array, whatever comes after them; n is the number of the first of them
pub record GroupTaken (k : ℕ) (g lines all : List ℕ) (n : ℕ) (lines' all' : List ℕ) (v : Verdict) : Type 0 where
  pub of : (end : Outcome) (rest : List (Option Line)) → Reached end (map some (group_lines k g) ++ rest) lines all n → SoFar end rest lines' all' v
  pub ready : v.refusal ≡ 0 → GroupReached lines' all' v.line

-- how many bytes stand before the first of kind k
unfoldable pub span_of : ℕ → List ℕ → ℕ
unfolding kind_of
span_of k [] = 0
span_of k (b ∷ bs) = pick (eqb (kind_of b) k) 0 (suc (span_of k bs))

-- the parts from a position on: none where the last part has been passed
unfoldable pub parts_from : ℕ → ℕ → List ℕ → List (List ℕ)
unfolding split
parts_from k at l = pick (leb at (length l)) (split k (drop at l)) []

-- what the readers of a field, of numbers and of a line hand back
abbrev pub as_field : Found Field → Option ℕ
as_field (Some f) = some f.value
as_field None = none

abbrev pub as_numbers : ℕ → Found (List ℕ) → Option (List ℕ)
as_numbers w (Some v) = some (take w v)
as_numbers w None = none

-- the position of the first c in a list, or its length
abbrev pub position_of : ℕ → List ℕ → ℕ
position_of c [] = 0
position_of c (x ∷ l) = let r = suc (position_of c l) in pick (eqb x c) 0 r

-- the position found among n, or n
abbrev pub found_at : ℕ → Found ℕ → ℕ
found_at n (Some k) = k
found_at n None = n

-- the bytes from a position on up to the first comma
abbrev pub field_from : List ℕ → ℕ → List ℕ
field_from l at = take (span_of comma (drop at l)) (drop at l)

-- r is the digits of the field from `at` on; where there are none, the field is no number
pub record DigitsAre (most : ℕ) (l : List ℕ) (at : ℕ) (r : Found Field) : Type 0 where
  pub ends : (f : Field) → r ≡ Some f → f.end ≡ at + span_of comma (drop at l)
  pub reads : (f : Field) → r ≡ Some f → digits_from 0 (field_from l at) ≡ some f.value
  pub fails : r ≡ None → number_of most (field_from l at) ≡ none

-- r is the number of the field from `at` on
pub record FieldIs (most : ℕ) (l : List ℕ) (at : ℕ) (r : Found Field) : Type 0 where
  pub ends : (f : Field) → r ≡ Some f → f.end ≡ at + span_of comma (drop at l)
  pub number : as_field r ≡ number_of most (field_from l at)

-- the array has the numbers of n lines of the kind with number k
pub record GroupFits (k n : ℕ) (all : List ℕ) : Type 0 where
  pub few : n ≤ 256
  pub inside : base_of k + n * width (kind_at k) ≤ length all

-- the most bytes of a group: 256 lines of a letter, a line feed, and at most eight numbers with their commas
abbrev pub group_bytes : ℕ
group_bytes = 256 * (2 + 8 * suc most_digits)

-- the text of n lines of the kind with number k, whose numbers stand in the array
unfoldable pub group_text : ℕ → ℕ → List ℕ → List ℕ
unfolding line_text
group_text k n all = bind (map (line (kind_at k)) (rows (width (kind_at k)) n (drop (base_of k) all))) (line_text most_digits)

-- r is the count of bytes of the sheet in the array
pub record BytesAre (lines all : List ℕ) (r : ℕ) : Type 0 where
  pub of : (s : Sheet) → StoreOf s lines all → r ≡ length (sheet_text s)

-- a sheet stands in the array, and the buffer has room for its text
pub record SheetFits (lines all out : List ℕ) : Type 0 where
  pub sheet : Sheet
  pub store : StoreOf sheet lines all
  pub room : length (sheet_text sheet) ≤ length out

-- the text of the sheet in the array was written to the front of the buffer
pub record PutsSheet (lines all out out' : List ℕ) : Type 0 where
  pub of : (s : Sheet) → StoreOf s lines all → out' ≡ sets out 0 (sheet_text s)
