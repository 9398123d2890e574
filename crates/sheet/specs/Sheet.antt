-- The sheet: its groups, the tests of a line, and what bytes read as (document 01, "The sheet" and "Who causes which refusal"; document 02, E2, E5, E6 and E8).
-- The lines before a line are given whole, in the order of the sheet.
use Rattle.std.specs.Prelude.{Bool, true, false, not, ◌&&◌, ◌||◌, List, [], ◌∷◌, ◌++◌, map, ℕ, suc, ltb, leb, eqb, length, take}
use Rattle.std.proofs.Math.Option.{Option, some, none}
use Rattle.sheet.specs.Lists.{pick, number, filter, any, flat}
use Rattle.sheet.specs.Computed.{lexb}
use Rattle.sheet.specs.Decimal.{most_digits}
use Rattle.sheet.specs.Kinds.{Limit, between, place, Pair, alone, different, ordered, Kind, kind_s, kind_w, kind_c, kind_x, kind_o, kinds}
use Rattle.sheet.specs.Lines.{Line, line, text_lines}

-- the five groups: the numbers of the S line, of each W line, of each C line, of each X line and of each O line
pub record Sheet : Type 0 where
  pub head : List ℕ
  pub waits : List (List ℕ)
  pub corridors : List (List ℕ)
  pub closures : List (List ℕ)
  pub occupancies : List (List ℕ)

-- `S,places,steps,start,goal,u`
abbrev pub places : Sheet → ℕ
places s = number s.head 0

abbrev pub steps : Sheet → ℕ
steps s = number s.head 1

abbrev pub start : Sheet → ℕ
start s = number s.head 2

abbrev pub goal : Sheet → ℕ
goal s = number s.head 3

abbrev pub unload : Sheet → ℕ
unload s = number s.head 4

-- `C,from,to,c1,c2,c3`, and `X,from,to,step`
abbrev pub from : List ℕ → ℕ
from k = number k 0

abbrev pub to : List ℕ → ℕ
to k = number k 1

abbrev pub departure : List ℕ → ℕ
departure x = number x 2

-- `W,place,w1,w2,w3`, and `O,place,first,last`
abbrev pub place_of : List ℕ → ℕ
place_of o = number o 0

abbrev pub first : List ℕ → ℕ
first o = number o 1

abbrev pub last : List ℕ → ℕ
last o = number o 2

-- the numbers of each line of the kind k
abbrev pub group : Kind → List Line → List (List ℕ)
group k ls = map (λ l. l.numbers) (filter (λ l. eqb l.kind.order k.order) ls)

-- the sheet with these lines
abbrev pub sheet_of : List Line → Sheet
sheet_of ls = record { head = flat (group kind_s ls); waits = group kind_w ls; corridors = group kind_c ls; closures = group kind_x ls; occupancies = group kind_o ls }

-- the groups of a sheet, in the order of kinds
abbrev pub groups_of : Sheet → List (List (List ℕ))
groups_of s = (s.head ∷ []) ∷ s.waits ∷ s.corridors ∷ s.closures ∷ s.occupancies ∷ []

-- the lines of groups, one group for each kind
abbrev pub lines_from : List Kind → List (List (List ℕ)) → List Line
lines_from [] gs = []
lines_from (k ∷ ks) [] = []
lines_from (k ∷ ks) (g ∷ gs) = map (line k) g ++ lines_from ks gs

-- the lines of a sheet: S, then the W lines, then the C lines, then the X lines, then the O lines
abbrev pub sheet_lines : Sheet → List Line
sheet_lines s = lines_from kinds (groups_of s)

-- the numbers of the S line of the sheet that begins with these lines: the first of them is its places, the second its last step
abbrev pub head_in : List Line → List ℕ
head_in [] = []
head_in (l ∷ ls) = l.numbers

-- a W line is still to come (document 02, E8): there are fewer of them than places
abbrev pub waiting : List Line → Bool
waiting ls = ltb (length (group kind_w ls)) (number (head_in ls) 0)

-- out of its turn: a W line that is not the next place's, and any other line while one is still to come
abbrev pub out_of_turn : List Line → Line → Bool
out_of_turn before l =
    pick (eqb l.kind.order kind_w.order) (not (waiting before && eqb (place_of l.numbers) (length (group kind_w before)))) (waiting before)

-- test 3: no S line first, a second S, a line after one of a later kind, or a line out of its turn
abbrev pub misplaced : List Line → Line → Bool
misplaced [] l = not (eqb l.kind.order 0)
misplaced (m ∷ before) l = eqb l.kind.order 0 || any (λ k. ltb l.kind.order k.kind.order) (m ∷ before) || out_of_turn (m ∷ before) l

-- test 7: one line more than its kind may have
abbrev pub too_many : List Line → Line → Bool
too_many before l = leb l.kind.most (length (group l.kind before))

-- the number n is outside its limit, on a sheet of p places
abbrev pub beyond : ℕ → Limit → ℕ → Bool
beyond p (between a b) n = ltb n a || ltb b n
beyond p place n = leb p n

-- test 4: a number outside its limit
abbrev pub outside : ℕ → List Limit → List ℕ → Bool
outside p [] ns = false
outside p (x ∷ xs) [] = false
outside p (x ∷ xs) (n ∷ ns) = beyond p x n || outside p xs ns

-- test 6: a corridor or a closure from a place to itself, or last below first
abbrev pub unpaired : Pair → List ℕ → Bool
unpaired alone ns = false
unpaired (different i j) ns = eqb (number ns i) (number ns j)
unpaired (ordered i j) ns = ltb (number ns j) (number ns i)

-- test 15 (document 02, E5): a closure that names none of these corridors
abbrev pub unknown : List (List ℕ) → Line → Bool
unknown cs l =
    eqb l.kind.order kind_x.order && not (any (λ k. eqb (from k) (from l.numbers) && eqb (to k) (to l.numbers)) cs)

-- test 16 (document 02, E6): an occupancy whose first step lies past the last step t
abbrev pub late : ℕ → Line → Bool
late t l = eqb l.kind.order kind_o.order && ltb t (first l.numbers)

-- the last of a list, if there is one
abbrev pub latest : List (List ℕ) → Option (List ℕ)
latest [] = none
latest (n ∷ []) = some n
latest (n ∷ m ∷ ns) = latest (m ∷ ns)

-- test 5: not above the line of its kind before it, by the numbers that the kind ascends by
abbrev pub not_above : ℕ → Option (List ℕ) → List ℕ → Bool
not_above key none ns = false
not_above key (some ms) ns = not (lexb (take key ms) (take key ns))

-- the tests after 2, in their order: of each the refusal's number, and whether the line fails
unfoldable pub tests : List Line → Line → List (ℕ × Bool)
tests before l =
    (3, misplaced before l)
    ∷ (7, too_many before l)
    ∷ (4, outside (number (head_in (before ++ (l ∷ []))) 0) l.kind.limits l.numbers)
    ∷ (6, unpaired l.kind.pair l.numbers)
    ∷ (15, unknown (group kind_c before) l)
    ∷ (16, late (number (head_in (before ++ (l ∷ []))) 1) l)
    ∷ (5, not_above l.kind.key (latest (group l.kind before)) l.numbers)
    ∷ []

-- the number of the first test that fails, 0 where none does
abbrev pub first_failed : List (ℕ × Bool) → ℕ
first_failed [] = 0
first_failed (t ∷ ts) = let r = first_failed ts in pick t.1 t.0 r

-- the fault of a line after the lines before it, 0 for none
unfoldable pub fault : List Line → Line → ℕ
unfolding tests
fault before l = first_failed (tests before l)

pub data Outcome : Type 0 where
  refused : ℕ → ℕ → Outcome
  loaded : Sheet → Outcome

-- what is made of an outcome: of the refusal's number and line, or of the sheet
abbrev pub told {ℓ} : {A : Type ℓ} → (ℕ → ℕ → A) → (Sheet → A) → Outcome → A
told refuse serve (refused k n) = refuse k n
told refuse serve (loaded s) = serve s

-- what is missing where the input ends after these lines (refusal 3): the S line, or a W line
abbrev pub lacking : List Line → Bool
lacking [] = true
lacking (l ∷ before) = waiting (l ∷ before)

-- the lines one after another, each judged after those before it: the first faulty line is named, lines counting from 1
unfoldable pub judge : List Line → List (Option Line) → Outcome
unfolding fault
judge before [] = pick (lacking before) (refused 3 (suc (length before))) (loaded (sheet_of before))
judge before (none ∷ ls) = refused 2 (suc (length before))
judge before (some l ∷ ls) =
    let r = judge (before ++ (l ∷ [])) ls in
    pick (eqb (fault before l) 0) r (refused (fault before l) (suc (length before)))

-- the most bytes of a sheet (refusal 1)
abbrev pub most_bytes : ℕ
most_bytes = 16384

-- what bytes read as
unfoldable pub read_of : List ℕ → Outcome
unfolding judge text_lines
read_of b = let r = judge [] (text_lines most_digits kinds b) in pick (ltb most_bytes (length b)) (refused 1 0) r
