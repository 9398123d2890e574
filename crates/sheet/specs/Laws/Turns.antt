-- W lines in their turn (document 02, E8): lines that pass test 3 have the places of their W lines one after another, no more of them than places; and
-- lines of waits with the places one after another pass it, as other lines do once none is still to come.
-- The laws that rest on what `waiting` says stand in proofs/Turns.antt.
use Rattle.std.specs.Prelude.{◌≡◌, refl, ◌≢◌, false, List, [], ◌∷◌, ◌++◌, ℕ, zero, suc, ◌+◌, ◌≤◌, ◌<◌, length, get_or, take}
use Rattle.std.proofs.Common.{inl, inr, arith, length-append, eq-eqb, ne_eqb}
use Rattle.sheet.specs.Lists.{number, ◌∈◌, Lex}
use Rattle.sheet.specs.Sorting.{Ascending}
use Rattle.sheet.specs.Kinds.{Kind, width, kind_w}
use Rattle.sheet.specs.Lines.{Line, line}
use Rattle.sheet.specs.Sheet.{place_of, group, head_in, waiting, out_of_turn}
use Rattle.sheet.specs.Valid.{Turned}
use Rattle.sheet.specs.Laws.Groups.{group-append}

-- how many W lines there are
abbrev pub wait_count : List Line → ℕ
wait_count ls = length (group kind_w ls)

-- a line that is no W line is in its turn where none is still to come
module _ (before : List Line) (l : Line) where
  pub other-turn : l.kind.order ≢ kind_w.order → out_of_turn before l ≡ waiting before
  other-turn n = rw (ne_eqb l.kind.order kind_w.order n)

-- one line more
pub wait-more : (ls : List Line) (l : Line) → l.kind.order ≡ kind_w.order → wait_count (ls ++ (l ∷ [])) ≡ suc (wait_count ls)
wait-more ls l k = rw (group-append kind_w ls (l ∷ []), length-append (group kind_w ls) (group kind_w (l ∷ [])), eq-eqb l.kind.order kind_w.order k) (omega arith)

pub wait-same : (ls : List Line) (l : Line) → l.kind.order ≢ kind_w.order → wait_count (ls ++ (l ∷ [])) ≡ wait_count ls
wait-same ls l n = rw (group-append kind_w ls (l ∷ []), length-append (group kind_w ls) (group kind_w (l ∷ [])), ne_eqb l.kind.order kind_w.order n) (omega arith)

-- what lines that pass after these say of their W lines
pub record InTurn (before ls : List Line) : Type 0 where
  pub turned : Turned (wait_count before) (group kind_w ls)
  pub few : wait_count before ≤ number (head_in before) 0 → wait_count before + wait_count ls ≤ number (head_in before) 0

-- the lines of kind k with these numbers are each in their turn after those before
abbrev pub Turns : List Line → Kind → List (List ℕ) → Type 0
Turns before k [] = Unit {0}
Turns before k (n ∷ ns) = (out_of_turn before (line k n) ≡ false) × Turns (before ++ (line k n ∷ [])) k ns

-- lines one after another of a kind are each in turn, by position
pub turned-at : (i : ℕ) (ws : List (List ℕ)) → Turned i ws → (v : ℕ) → v < length ws → place_of (get_or ws v []) ≡ i + v
turned-at i [] t v h = absurd (omega arith)
turned-at i (w ∷ ws) t zero h = omega (arith, t.0)
turned-at i (w ∷ ws) t (suc v) h = omega (arith, turned-at (suc i) ws t.1 v (omega arith))

-- places one after another ascend
pub turned-ascend : (i : ℕ) (ws : List (List ℕ)) → Turned i ws → ((w : List ℕ) → w ∈ ws → length w ≡ width kind_w) → Ascending (take kind_w.key) ws
turned-ascend i [] t f = tt
turned-ascend i (w ∷ []) t f = (tt, tt)
turned-ascend i (w ∷ x ∷ ws) t f =
    (first w x (f w (inl refl)) (f x (inr (inl refl))) t.0 t.1.0, turned-ascend (suc i) (x ∷ ws) t.1 (λ y m. f y (inr m)))
  where
    first : (w x : List ℕ) → length w ≡ 4 → length x ≡ 4 → place_of w ≡ i → place_of x ≡ suc i → Lex (take 1 w) (take 1 x)
    first [] x a b p q = absurd (omega arith)
    first (c ∷ w) [] a b p q = absurd (omega arith)
    first (c ∷ w) (d ∷ x) a b p q = inl (omega arith)
