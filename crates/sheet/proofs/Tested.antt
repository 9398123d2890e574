-- Each test of a line after the lines that stand in the arrays, as the code computes it from them and from the row of the line's kind.
-- Test 3: the first line is of the first kind, and some line is of a later kind exactly where a later count is not 0.
-- Assumes nothing.
use mathlib.Core.Path.{◌≡◌, refl, sym, ◌∙◌, ap}
use mathlib.Core.Bool.{Bool, true, false, not, ◌&&◌, ◌||◌}
use mathlib.Core.List.{List, [], ◌∷◌, ◌++◌, map}
use Prim.Native.Nat.{ℕ, zero, suc, ◌+◌, ◌*◌, ◌-◌, ◌≤◌, ◌<◌}
use native.Mathlib.Omega.{arith}
use lib.Dec.{ltb, leb, eqb}
use lib.ListN.{length, take, drop, length-drop}
use lib.Seq.{get_or-take, get_or-drop, take-take}
use borrow.Author.Tests.{ltb-true, ltb-false, eq-eqb, ne_eqb, eqb-true, eqb-false, not-false}
use Rattle.sheet.specs.Lists.{pick, number, any}
use Rattle.sheet.specs.Computed.{lexb}
use Rattle.sheet.specs.Kinds.{Pair, alone, different, ordered, width, kind_s, kind_w, kind_c, kind_x, kind_o}
use Rattle.sheet.specs.Lines.{Line}
use Rattle.sheet.specs.Sheet.{from, to, first, group, out_of_turn, misplaced, too_many, outside, head_in, unpaired, unknown, late, latest, not_above}
use Rattle.sheet.specs.Store.{kind_count, kind_at}
use Rattle.sheet.specs.Seek.{Listed}
use Rattle.sheet.specs.Inner.{limit_at, pair_at, PairInside, line_at, turn_by, misplaced_by, late_by, RowIs, Stored}
use Rattle.sheet.specs.Laws.Order.{and-true, true-and, bool_same}
use Rattle.sheet.specs.Laws.Decided.{Decided, yes_of, is-yes}
use Rattle.sheet.specs.Laws.Members.{any-mem, mem-any}
use Rattle.sheet.specs.Laws.Keys.{GroupIs, listed_in, in-listed}
use Rattle.sheet.specs.Laws.Passed.{or-false, any_false, false-any}
use Rattle.sheet.specs.Laws.Turns.{other-turn}
use Rattle.sheet.specs.Laws.Kinds.{order-at, kind-at, order_below, key-inside}
use Rattle.sheet.specs.Laws.Groups.{group-none}
use Rattle.sheet.specs.declared.kinds.Row.{Row}
use Rattle.sheet.specs.declared.seek.Group.{Group}
use Rattle.sheet.proofs.Passing.{counted}
use Rattle.sheet.proofs.Standing.{group-some, stored-held, group-wide, count-is, lines-length, last-is, head-number, head-count}

-- two tests that fail alike
same-fails : (a b : Bool) → (a ≡ false → b ≡ false) → (b ≡ false → a ≡ false) → a ≡ b
same-fails false b f g = sym (f refl)
same-fails true false f g = g refl
same-fails true true f g = refl

-- a test of every number of a list, by its position
none-at : (t : ℕ → Bool) (l : List ℕ) → any t l ≡ false → (i : ℕ) → i < length l → t (number l i) ≡ false
none-at t [] e i h = absurd (omega arith)
none-at t (x ∷ l) e zero h = (or-false (t x) (any t l) e).0
none-at t (x ∷ l) e (suc i) h = none-at t l (or-false (t x) (any t l) e).1 i (omega arith)

at_none : (t : ℕ → Bool) (l : List ℕ) → ((i : ℕ) → i < length l → t (number l i) ≡ false) → any t l ≡ false
at_none t [] f = refl
at_none t (x ∷ l) f = rw (f 0 (omega arith)) (at_none t l (λ i h. f (suc i) (omega arith)))

-- a number that is counted is not among the later ones, where none of them is
counted-below : (lines : List ℕ) (k o : ℕ) → any counted (drop (suc k) lines) ≡ false → o < length lines → 1 ≤ number lines o → ltb k o ≡ false
counted-below lines k o e b c = go (ltb k o) refl
  where
    go : (t : Bool) → ltb k o ≡ t → ltb k o ≡ false
    go false q = q
    go true q =
        let l = ltb-true k o q in
        let s : suc k + (o - suc k) ≡ o = omega arith in
        let n : number (drop (suc k) lines) (o - suc k) ≡ number lines o = get_or-drop (suc k) lines (o - suc k) 0 ∙ ap (number lines) s in
        let z = none-at counted (drop (suc k) lines) e (o - suc k) (omega (arith, length-drop (suc k) lines)) in
        absurd (omega (arith, n, eqb-true (number (drop (suc k) lines) (o - suc k)) 0 (not-false (eqb (number (drop (suc k) lines) (o - suc k)) 0) z)))

-- the first numbers of a pair of positions
pair_inside : (p : Pair) (w : ℕ) (v : List ℕ) → PairInside w p → unpaired p (take w v) ≡ unpaired p v
pair_inside alone w v h = refl
pair_inside (different i j) w v h = rw (get_or-take w v i 0 h.0, get_or-take w v j 0 h.1)
pair_inside (ordered i j) w v h = rw (get_or-take w v i 0 h.0, get_or-take w v j 0 h.1)

-- a pair inside some numbers is inside more
pub pair-among : (p : Pair) {w n : ℕ} → w ≤ n → PairInside w p → PairInside n p
pair-among alone l h = tt
pair-among (different i j) l h = (omega (arith, h.0), omega (arith, h.1))
pair-among (ordered i j) l h = (omega (arith, h.0), omega (arith, h.1))

-- some line is of a later kind
later-counted : {before : List Line} {lines all : List ℕ} → Stored before lines all → (k : ℕ)
    → any (λ l. ltb k l.kind.order) before ≡ any counted (drop (suc k) lines)
later-counted {before = before} {lines = lines} S k =
    same-fails (any (λ l. ltb k l.kind.order) before) (any counted (drop (suc k) lines))
    (λ e. at_none counted (drop (suc k) lines) (λ i l.
    let b : suc k + i < kind_count = omega (arith, length-drop (suc k) lines, lines-length S) in
    let z : group (kind_at (suc k + i)) before ≡ [] =
    group-none (kind_at (suc k + i)) before
    (λ m j q. omega (arith, order-at (suc k + i) b, ltb-false k m.kind.order (any_false (λ l. ltb k l.kind.order) before e m j))) in
    rw (get_or-drop (suc k) lines i 0, count-is S b, z)))
    (λ e. false-any (λ l. ltb k l.kind.order) before (λ m j.
    let o = m.kind.order in
    let b : o < kind_count = order_below m.kind (S.shaped m j).known in
    counted-below lines k o e (omega (arith, lines-length S))
    (rw (count-is S b, kind-at m.kind (S.shaped m j).known) (group-some m before j))))

-- test 3, by the turn
turn_is : {before : List Line} {lines all : List ℕ} → Stored before lines all → {k : ℕ} → k < kind_count → (v : List ℕ)
    → out_of_turn before (line_at k v) ≡ turn_by lines all k v
turn_is {before} {lines} {all} S {k} h v =
    rw (order-at k h, count-is S {k = 1} (omega arith), head-number S 0 (omega arith)) (go (eqb k kind_w.order) refl)
  where
    t : Bool
    t = ltb (length (group kind_w before)) (number all 0)

    go : (b : Bool) → eqb k kind_w.order ≡ b
        → pick b (not (t && eqb (number (take (width (kind_at k)) v) 0) (length (group kind_w before)))) t ≡ pick b (not (t && eqb (number v 0) (length (group kind_w before)))) t
    go true q =
        let w : 0 < width (kind_at k) = omega (arith, ap (λ (j : ℕ). width (kind_at j)) (eqb-true k kind_w.order q)) in
        rw (get_or-take (width (kind_at k)) v 0 0 w)
    go false q = refl

-- test 3
pub misplaced-is : {before : List Line} {lines all : List ℕ} → Stored before lines all → {k : ℕ} → k < kind_count → (v : List ℕ)
    → misplaced before (line_at k v) ≡ misplaced_by lines all k v
misplaced-is {before = []} {lines = lines} {all = all} S {k = k} h v =
    rw (order-at k h, head-count S) (go (eqb k 0) refl)
  where
    go : (b : Bool) → eqb k 0 ≡ b → not b ≡ pick b false true || turn_by lines all k v
    go true q = sym (sym (turn_is S h v) ∙ other-turn [] (line_at k v) (λ e. omega (arith, order-at k h, eqb-true k 0 q)))
    go false q = refl
misplaced-is {before = m ∷ before} {lines = lines} {all = all} S {k = k} h v =
    ap (λ (t : Bool). eqb (kind_at k).order 0 || any (λ l. ltb (kind_at k).order l.kind.order) (m ∷ before) || t) (turn_is S h v)
    ∙ ap (λ (o : ℕ). eqb o 0 || any (λ l. ltb o l.kind.order) (m ∷ before) || turn_by lines all k v) (order-at k h)
    ∙ rw (head-count S, ← later-counted S k) (go (eqb k 0) (any (λ l. ltb k l.kind.order) (m ∷ before)))
  where
    go : (b r : Bool) → b || r || turn_by lines all k v ≡ pick b true r || turn_by lines all k v
    go true r = refl
    go false r = refl

no_rows : (g : List (List ℕ)) → length g ≡ 0 → g ≡ []
no_rows [] e = refl
no_rows (n ∷ g) e = absurd (omega arith)

module _ {before : List Line} {lines all : List ℕ} (S : Stored before lines all) {k : ℕ} (h : k < kind_count) {r : Row} (R : RowIs k r) (v : List ℕ) where
  -- test 7
  pub many_is : too_many before (line_at k v) ≡ leb r.most (number lines k)
  many_is = rw (R.most-is, count-is S h)

  -- test 6
  pub unpaired-is : unpaired (kind_at k).pair (take (width (kind_at k)) v) ≡ unpaired (pair_at r.pair) v
  unpaired-is = rw (← R.pair_is, ← R.width_is) (pair_inside (pair_at r.pair) r.width v R.pair-inside)

  -- test 5: no line of the kind stands before, or the last of them is looked at
  pub above-none : number lines k ≡ 0 → not_above (kind_at k).key (latest (group (kind_at k) before)) (take (width (kind_at k)) v) ≡ false
  above-none q = rw (no_rows (group (kind_at k) before) (sym (count-is S h) ∙ q))

  pub above-last : (number lines k ≡ 0 → ⊥)
      → not_above (kind_at k).key (latest (group (kind_at k) before)) (take (width (kind_at k)) v)
      ≡ not (lexb (take r.key (drop (r.base + (number lines k - 1) * r.width) all)) (take r.key v))
  above-last q =
      let i = key-inside k h in
      rw (last-is S h (omega (arith, q)), R.key-is, R.base-is, R.width_is, take-take (kind_at k).key (width (kind_at k)) v i)
      (ap (λ (l : List ℕ). not (lexb l (take (kind_at k).key v))) (take-take (kind_at k).key (width (kind_at k)) _ i))

-- a number of the S line, which is this line or stands first in the array
head-is : {before : List Line} {lines all : List ℕ} → Stored before lines all → {k : ℕ} → k < kind_count → (v : List ℕ) (i : ℕ) → i < width kind_s
    → misplaced before (line_at k v) ≡ false → number (head_in (before ++ (line_at k v ∷ []))) i ≡ pick (eqb k 0) (number v i) (number all i)
head-is {before = []} S {k = k} h v i b e =
    let z : k ≡ 0 = sym (order-at k h) ∙ eqb-true (kind_at k).order 0 (not-false (eqb (kind_at k).order 0) e) in
    rw (eq-eqb k 0 z) (get_or-take (width (kind_at k)) v i 0 (omega (arith, b, ap (λ (j : ℕ). width (kind_at j)) z)))
head-is {before = m ∷ before} S {k = k} h v i b e =
    let o = any (λ j. ltb (kind_at k).order j.kind.order) (m ∷ before) in
    let f = (or-false (eqb (kind_at k).order 0 || o) (out_of_turn (m ∷ before) (line_at k v)) e).0 in
    rw (ne_eqb k 0 (λ z. eqb-false (kind_at k).order 0 (or-false (eqb (kind_at k).order 0) o f).0 (order-at k h ∙ z))) (head-number S i b)

-- test 4
pub outside-is : {before : List Line} {lines all : List ℕ} → Stored before lines all → {k : ℕ} → k < kind_count → {r : Row} → RowIs k r → (v : List ℕ) {p : ℕ}
    → p ≡ pick (eqb k 0) (number v 0) (number all 0) → misplaced before (line_at k v) ≡ false
    → outside (number (head_in (before ++ (line_at k v ∷ []))) 0) (kind_at k).limits (take (width (kind_at k)) v)
    ≡ outside p (map limit_at (take r.width r.limits)) (take r.width v)
outside-is S h R v e m = rw (R.limits-are, R.width_is, e, head-is S h v 0 (omega arith) m)

-- test 16: a line of occupancies stands after the S line
pub late_is : {before : List Line} {lines all : List ℕ} → Stored before lines all → {k : ℕ} → k < kind_count → (v : List ℕ)
    → misplaced before (line_at k v) ≡ false → late (number (head_in (before ++ (line_at k v ∷ []))) 1) (line_at k v) ≡ late_by all k v
late_is {before = before} {all = all} S {k = k} h v m =
    ap (λ (o : ℕ). eqb o kind_o.order && ltb last (first n)) (order-at k h) ∙ go (eqb k kind_o.order) refl
  where
    last : ℕ
    last = number (head_in (before ++ (line_at k v ∷ []))) 1

    n : List ℕ
    n = take (width (kind_at k)) v

    go : (b : Bool) → eqb k kind_o.order ≡ b → b && ltb last (first n) ≡ b && ltb (number all 1) (number v 1)
    go false q = refl
    go true q =
        let z : k ≡ kind_o.order = eqb-true k kind_o.order q in
        let w : 1 < width (kind_at k) = omega (arith, ap (λ (j : ℕ). width (kind_at j)) z) in
        rw (head-is S h v 1 (omega arith) m, ne_eqb k 0 (λ e. omega arith), get_or-take (width (kind_at k)) v 1 0 w)

-- the first two numbers of lines are their ends
ends_same : (n v : List ℕ) → take 2 n ≡ take 2 v → (from n ≡ from v) × (to n ≡ to v)
ends_same n v e =
    let at : (i : ℕ) → i < 2 → number n i ≡ number v i = λ i l. sym (get_or-take 2 n i 0 l) ∙ ap (λ (x : List ℕ). number x i) e ∙ get_or-take 2 v i 0 l in
    (at 0 (omega arith), at 1 (omega arith))

same_ends : (n v : List ℕ) → 2 ≤ length n → 2 ≤ length v → from n ≡ from v → to n ≡ to v → take 2 n ≡ take 2 v
same_ends [] v a b p q = absurd (omega arith)
same_ends (x ∷ []) v a b p q = absurd (omega arith)
same_ends (x ∷ y ∷ n) [] a b p q = absurd (omega arith)
same_ends (x ∷ y ∷ n) (z ∷ []) a b p q = absurd (omega arith)
same_ends (x ∷ y ∷ n) (z ∷ w ∷ v) a b p q = cc

-- test 15: a line that is no closure passes; a closure fails where no corridor in the array has its ends
module _ {before : List Line} {lines all : List ℕ} (S : Stored before lines all) {k : ℕ} (h : k < kind_count) (v : List ℕ) where
  abbrev names : List ℕ → Bool
  names c = eqb (from c) (from (take (width (kind_at k)) v)) && eqb (to c) (to (take (width (kind_at k)) v))

  unknown-of : unknown (group kind_c before) (line_at k v) ≡ eqb k kind_x.order && not (any names (group kind_c before))
  unknown-of = ap (λ (o : ℕ). eqb o kind_x.order && not (any names (group kind_c before))) (order-at k h)

  pub unknown-other : (k ≡ kind_x.order → ⊥) → false ≡ unknown (group kind_c before) (line_at k v)
  unknown-other n = sym (unknown-of ∙ rw (ne_eqb k kind_x.order n))

  module _ (e : k ≡ kind_x.order) (l : length v ≡ 8) {g : Group} (G : GroupIs lines kind_c.order g) where
    number_is : (i : ℕ) → i < 2 → number (take (width (kind_at k)) v) i ≡ number v i
    number_is i b = get_or-take (width (kind_at k)) v i 0 (omega (arith, ap (λ (j : ℕ). width (kind_at j)) e))

    listed-named : Listed all g v → any names (group kind_c before) ≡ true
    listed-named x =
        let r = listed_in (stored-held S) kind_c.order (omega arith) G v x in
        let q = ends_same r.0 v r.2 in
        mem-any names (group kind_c before) r.0 r.1
        (true-and (eqb (from r.0) (from (take (width (kind_at k)) v))) (eqb (to r.0) (to (take (width (kind_at k)) v)))
        (eq-eqb _ _ (q.0 ∙ sym (number_is 0 (omega arith)))) (eq-eqb _ _ (q.1 ∙ sym (number_is 1 (omega arith)))))

    named-listed : any names (group kind_c before) ≡ true → Listed all g v
    named-listed x =
        let r = any-mem names (group kind_c before) x in
        let q = and-true (eqb (from r.0) (from (take (width (kind_at k)) v))) (eqb (to r.0) (to (take (width (kind_at k)) v))) r.2 in
        in-listed (stored-held S) kind_c.order (omega arith) G v r.0 r.1
        (same_ends r.0 v (omega (arith, group-wide S {k = kind_c.order} (omega arith) r.0 r.1)) (omega arith)
        (eqb-true _ _ q.0 ∙ number_is 0 (omega arith)) (eqb-true _ _ q.1 ∙ number_is 1 (omega arith)))

    pub unknown-sought : {b : Bool} → Decided (Listed all g v) b → not b ≡ unknown (group kind_c before) (line_at k v)
    unknown-sought {b} d =
        sym (unknown-of ∙ rw (eq-eqb k kind_x.order e) (ap not (bool_same (any names (group kind_c before)) b (λ t. is-yes d (named-listed t)) (λ t. listed-named (yes_of d t)))))
