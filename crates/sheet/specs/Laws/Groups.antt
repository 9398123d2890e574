-- A sheet and its lines say the same: the sheet of a sheet's lines is that sheet, and the lines of the sheet of lines that pass are those lines.
-- The second holds since test 3 lets through only one S line, first, and then lines whose orders never fall, and a kind of the sheet is known by its
-- order: so the lines are their groups, one after another in the order of kinds. Nothing here depends on which kinds there are but the two laws of
-- `groups_of` and `sheet_of`.
use Rattle.std.specs.Prelude.{◌≡◌, refl, ◌⊎◌, ◌≢◌, Bool, true, false, not, ◌||◌, List, [], ◌∷◌, ◌++◌, map, ℕ, ◌≤◌, ◌<◌, ltb, eqb, length, get_or}
use Rattle.std.proofs.Common.{sym, ◌∙◌, ap, ap₂, subst, inl, inr, ⊎_elim, append-nil, arith, ltb-false, eqb-true, eq-eqb, ne_eqb}
use Rattle.std.proofs.lemmas.Bool.{eqb-false, not-true, not-false}
use Rattle.sheet.specs.Lists.{◌∈◌, keep, filter, any, flat}
use Rattle.sheet.specs.Sorting.{Ascending}
use Rattle.sheet.specs.Kinds.{Kind, kind_s, kinds}
use Rattle.sheet.specs.Lines.{Line, line}
use Rattle.sheet.specs.Sheet.{Sheet, group, sheet_of, groups_of, lines_from, sheet_lines, out_of_turn, misplaced}
use Rattle.sheet.specs.Laws.Members.{mem-left, mem-right, mem-append, mem-map, filter-mem, mem-filter}
use Rattle.sheet.specs.Laws.Ascending.{before-all}
use Rattle.sheet.specs.Laws.Kinds.{order_key, kinds-ascend, kind-by-order}
use Rattle.sheet.specs.Laws.Judge.{Passes}
use Rattle.sheet.specs.Laws.Shape.{AllShaped}
use Rattle.sheet.specs.Laws.Passed.{or-false, any_false, fault-passed}

-- the line is of the kind k
abbrev pub is_kind : Kind → Line → Bool
is_kind k l = eqb l.kind.order k.order

-- groups of appended lines, of lines of one kind, and of lines of another
pub group-append : (k : Kind) (ls ms : List Line) → group k (ls ++ ms) ≡ group k ls ++ group k ms
group-append k [] ms = refl
group-append k (l ∷ ls) ms = go (is_kind k l) (group-append k ls ms)
  where
    go : (b : Bool) → group k (ls ++ ms) ≡ group k ls ++ group k ms
        → map (λ l. l.numbers) (keep b l (filter (is_kind k) (ls ++ ms))) ≡ map (λ l. l.numbers) (keep b l (filter (is_kind k) ls)) ++ group k ms
    go true e = rw e
    go false e = e

pub group-own : (k : Kind) (ns : List (List ℕ)) → group k (map (line k) ns) ≡ ns
group-own k [] = refl
group-own k (n ∷ ns) = rw (eq-eqb k.order k.order refl, group-own k ns)

pub group-none : (k : Kind) (ls : List Line) → ((l : Line) → l ∈ ls → l.kind.order ≢ k.order) → group k ls ≡ []
group-none k [] f = refl
group-none k (l ∷ ls) f = rw (ne_eqb l.kind.order k.order (f l (inl refl))) (group-none k ls (λ m i. f m (inr i)))

pub of-kind : (k : Kind) (ns : List (List ℕ)) (l : Line) → l ∈ map (line k) ns → l.kind ≡ k
of-kind k (n ∷ ns) l (inl e) = ap (λ (m : Line). m.kind) e
of-kind k (n ∷ ns) l (inr m) = of-kind k ns l m
of-kind k [] l m = absurd m

pub group-other : (k j : Kind) (ns : List (List ℕ)) → j.order ≢ k.order → group k (map (line j) ns) ≡ []
group-other k j ns h = group-none k (map (line j) ns) (λ l m. subst (λ (i : Kind). i.order ≢ k.order) (sym (of-kind j ns l m)) h)

-- a line of the kind is in its group, and more lines keep it there
pub mem-group : (k : Kind) (n : List ℕ) (ls : List Line) → line k n ∈ ls → n ∈ group k ls
mem-group k n ls m = mem-map (λ l. l.numbers) (line k n) (filter (is_kind k) ls) (mem-filter (is_kind k) (line k n) ls m (eq-eqb k.order k.order refl))

pub group-more : (k : Kind) (ls ms : List Line) (n : List ℕ) → n ∈ group k ls → n ∈ group k (ls ++ ms)
group-more k ls ms n m = subst (λ (g : List (List ℕ)). n ∈ g) (sym (group-append k ls ms)) (mem-left n (group k ls) (group k ms) m)

-- the kinds after k have higher orders
pub later-kinds : (k : Kind) (ks : List Kind) → Ascending order_key (k ∷ ks) → (j : Kind) → j ∈ ks → k.order < j.order
later-kinds k ks a j m = ⊎_elim (λ h. h) (λ h. absurd h.1) (before-all order_key k ks a.0 a.1 j m)

-- a line of groups is of one of the kinds
pub from-kinds : (ks : List Kind) (gs : List (List (List ℕ))) (l : Line) → l ∈ lines_from ks gs → l.kind ∈ ks
from-kinds [] gs l m = absurd m
from-kinds (k ∷ ks) [] l m = absurd m
from-kinds (k ∷ ks) (g ∷ gs) l m = ⊎_elim (λ i. inl (of-kind k g l i)) (λ i. inr (from-kinds ks gs l i)) (mem-append l (map (line k) g) (lines_from ks gs) m)

-- the groups of the lines of groups are the groups
abbrev pub groups_in : List Kind → List Line → List (List (List ℕ))
groups_in ks ls = map (λ k. group k ls) ks

map_same : {A B : Type 0} (f g : A → B) (l : List A) → ((a : A) → a ∈ l → f a ≡ g a) → map f l ≡ map g l
map_same f g [] h = refl
map_same f g (x ∷ l) h = ap₂ (λ (a : _) (b : List _). a ∷ b) (h x (inl refl)) (map_same f g l (λ a m. h a (inr m)))

pub groups-lines : (ks : List Kind) (gs : List (List (List ℕ))) → Ascending order_key ks → length gs ≡ length ks → groups_in ks (lines_from ks gs) ≡ gs
groups-lines [] [] a e = refl
groups-lines [] (g ∷ gs) a e = absurd (omega arith)
groups-lines (k ∷ ks) [] a e = absurd (omega arith)
groups-lines (k ∷ ks) (g ∷ gs) a e =
    ap₂ (λ (x : List (List ℕ)) (y : List (List (List ℕ))). x ∷ y) own
    (map_same (λ j. group j (map (line k) g ++ lines_from ks gs)) (λ j. group j (lines_from ks gs)) ks other ∙ groups-lines ks gs a.1 (omega arith))
  where
    own : group k (map (line k) g ++ lines_from ks gs) ≡ g
    own =
        group-append k (map (line k) g) (lines_from ks gs)
        ∙ ap₂ (λ (x y : List (List ℕ)). x ++ y) (group-own k g) (group-none k (lines_from ks gs) (λ l m q. omega (arith, later-kinds k ks a l.kind (from-kinds ks gs l m))))
        ∙ append-nil g

    other : (j : Kind) → j ∈ ks → group j (map (line k) g ++ lines_from ks gs) ≡ group j (lines_from ks gs)
    other j m =
        group-append j (map (line k) g) (lines_from ks gs)
        ∙ ap (λ (x : List (List ℕ)). x ++ group j (lines_from ks gs)) (group-other j k g (λ q. omega (arith, later-kinds k ks a j m)))

-- a sheet group by group, behind one S line
pub sheet-path : {h : List ℕ} {w v c d x y o p : List (List ℕ)} → w ≡ v → c ≡ d → x ≡ y → o ≡ p
    → ◌≡◌ {A = Sheet} (record { head = h; waits = w; corridors = c; closures = x; occupancies = o })
    (record { head = h; waits = v; corridors = d; closures = y; occupancies = p })
sheet-path {h} b e f g = λ i. record { head = h; waits = b i; corridors = e i; closures = f i; occupancies = g i }

-- the sheet with these groups
abbrev pub sheet_from : List (List (List ℕ)) → Sheet
sheet_from gs = record { head = flat (get_or gs 0 []); waits = get_or gs 1 []; corridors = get_or gs 2 []; closures = get_or gs 3 []; occupancies = get_or gs 4 [] }

pub sheet-from : (s : Sheet) → sheet_from (groups_of s) ≡ s
sheet-from s = ap (λ (h : List ℕ). record { head = h; waits = s.waits; corridors = s.corridors; closures = s.closures; occupancies = s.occupancies }) (append-nil s.head)

pub from-sheet : (gs : List (List (List ℕ))) → length gs ≡ length kinds → (n : List ℕ) → get_or gs 0 [] ≡ n ∷ [] → groups_of (sheet_from gs) ≡ gs
from-sheet (g ∷ w ∷ c ∷ x ∷ o ∷ []) e n z = ap (λ (h : List (List ℕ)). h ∷ w ∷ c ∷ x ∷ o ∷ []) (rw z (ap (λ (m : List ℕ). m ∷ []) (append-nil n)))
from-sheet [] e n z = absurd (omega arith)
from-sheet (g ∷ []) e n z = absurd (omega arith)
from-sheet (g ∷ w ∷ []) e n z = absurd (omega arith)
from-sheet (g ∷ w ∷ c ∷ []) e n z = absurd (omega arith)
from-sheet (g ∷ w ∷ c ∷ x ∷ []) e n z = absurd (omega arith)
from-sheet (g ∷ w ∷ c ∷ x ∷ o ∷ h ∷ gs) e n z = absurd (omega arith)

pub sheet-lines : (s : Sheet) → sheet_of (sheet_lines s) ≡ s
sheet-lines s = ap sheet_from (groups-lines kinds (groups_of s) kinds-ascend refl) ∙ sheet-from s

-- after the first line no order is 0, and orders never fall
module _ (m : Line) (before : List Line) (l : Line) (h : misplaced (m ∷ before) l ≡ false) where
  in_order : eqb l.kind.order 0 || any (λ k. ltb l.kind.order k.kind.order) (m ∷ before) ≡ false
  in_order = (or-false (eqb l.kind.order 0 || any (λ k. ltb l.kind.order k.kind.order) (m ∷ before)) (out_of_turn (m ∷ before) l) h).0

  not_first : l.kind.order ≢ 0
  not_first = eqb-false l.kind.order 0 (or-false (eqb l.kind.order 0) (any (λ k. ltb l.kind.order k.kind.order) (m ∷ before)) in_order).0

  not-fallen : (k : Line) → k ∈ (m ∷ before) → k.kind.order ≤ l.kind.order
  not-fallen k i =
      ltb-false l.kind.order k.kind.order
      (any_false (λ k. ltb l.kind.order k.kind.order) (m ∷ before)
      (or-false (eqb l.kind.order 0) (any (λ k. ltb l.kind.order k.kind.order) (m ∷ before)) in_order).1 k i)

pub never-falls : (m : Line) (before ls : List Line) → Passes (m ∷ before) ls → (k l : Line) → k ∈ (m ∷ before) → l ∈ ls → k.kind.order ≤ l.kind.order
never-falls m before [] p k l i j = absurd j
never-falls m before (x ∷ ls) p k l i (inl e) = rw e (not-fallen m before x (fault-passed (m ∷ before) x p.0).placed k i)
never-falls m before (x ∷ ls) p k l i (inr j) = never-falls m (before ++ (x ∷ [])) ls p.1 k l (mem-left k (m ∷ before) (x ∷ []) i) j

pub later-not-first : (m : Line) (before ls : List Line) → Passes (m ∷ before) ls → (l : Line) → l ∈ ls → l.kind.order ≢ 0
later-not-first m before [] p l i = absurd i
later-not-first m before (x ∷ ls) p l (inl e) = rw e (not_first m before x (fault-passed (m ∷ before) x p.0).placed)
later-not-first m before (x ∷ ls) p l (inr i) = later-not-first m (before ++ (x ∷ [])) ls p.1 l i

pub first_head : (l : Line) (ls : List Line) → AllShaped (l ∷ ls) → Passes [] (l ∷ ls) → l.kind ≡ kind_s
first_head l ls s p =
    kind-by-order l.kind kind_s (s l (inl refl)).known (inl refl)
    (eqb-true l.kind.order 0 (not-false (eqb l.kind.order 0) (fault-passed [] l p.0).placed))

-- lines whose orders never fall
abbrev pub Sorted : List Line → Type 0
Sorted [] = Unit {0}
Sorted (l ∷ ls) = ((m : Line) → m ∈ ls → l.kind.order ≤ m.kind.order) × Sorted ls

passes-sorted-after : (m : Line) (before ls : List Line) → Passes (m ∷ before) ls → Sorted ls
passes-sorted-after m before [] p = tt
passes-sorted-after m before (x ∷ ls) p = (
  λ l i. never-falls m (before ++ (x ∷ [])) ls p.1 x l (mem-right x (m ∷ before) (x ∷ []) (inl refl)) i,
  passes-sorted-after m (before ++ (x ∷ [])) ls p.1,
)

pub passes-sorted : (ls : List Line) → Passes [] ls → Sorted ls
passes-sorted [] p = tt
passes-sorted (l ∷ ls) p = (λ m i. never-falls l [] ls p.1 l m (inl refl) i, passes-sorted-after l [] ls p.1)

-- the lines that are not of the kind k
abbrev others : Kind → List Line → List Line
others k ls = filter (λ l. not (is_kind k l)) ls

others-sorted : (k : Kind) (ls : List Line) → Sorted ls → Sorted (others k ls)
others-sorted k [] s = tt
others-sorted k (l ∷ ls) s = go (is_kind k l) (others-sorted k ls s.1)
  where
    go : (b : Bool) → Sorted (others k ls) → Sorted (keep (not b) l (others k ls))
    go true r = r
    go false r = (λ m i. s.0 m (filter-mem (λ l. not (is_kind k l)) m ls i).0, r)

others-all : (k : Kind) (ls : List Line) → ((l : Line) → l ∈ ls → l.kind.order ≢ k.order) → others k ls ≡ ls
others-all k [] f = refl
others-all k (l ∷ ls) f = rw (ne_eqb l.kind.order k.order (f l (inl refl))) (ap (λ (m : List Line). l ∷ m) (others-all k ls (λ m i. f m (inr i))))

group-others : (j k : Kind) (ls : List Line) → j.order ≢ k.order → group j (others k ls) ≡ group j ls
group-others j k [] h = refl
group-others j k (l ∷ ls) h = go (is_kind k l) refl (group-others j k ls h)
  where
    more : (b : Bool) → group j (others k ls) ≡ group j ls
        → map (λ l. l.numbers) (keep b l (filter (is_kind j) (others k ls))) ≡ map (λ l. l.numbers) (keep b l (filter (is_kind j) ls))
    more true r = ap (λ (m : List (List ℕ)). l.numbers ∷ m) r
    more false r = r

    go : (b : Bool) → is_kind k l ≡ b → group j (others k ls) ≡ group j ls → group j (keep (not b) l (others k ls)) ≡ group j (l ∷ ls)
    go true q r = rw (ne_eqb l.kind.order j.order (λ d. h (sym d ∙ eqb-true l.kind.order k.order q))) r
    go false q r = more (is_kind j l) r

-- the lines of the lowest kind stand first
first_group : (k : Kind) (ls : List Line) → Sorted ls → ((l : Line) → l ∈ ls → (l.kind ≡ k) ⊎ (k.order < l.kind.order)) → map (line k) (group k ls) ++ others k ls ≡ ls
first_group k [] s f = refl
first_group k (l ∷ ls) s f = ⊎_elim (same (first_group k ls s.1 (λ m i. f m (inr i)))) above (f l (inl refl))
  where
    same : map (line k) (group k ls) ++ others k ls ≡ ls → l.kind ≡ k → map (line k) (group k (l ∷ ls)) ++ others k (l ∷ ls) ≡ l ∷ ls
    same r e =
        rw (eq-eqb l.kind.order k.order (ap (λ (j : Kind). j.order) e)) (ap₂ (λ (j : Kind) (m : List Line). line j l.numbers ∷ m) (sym e) r)

    above : k.order < l.kind.order → map (line k) (group k (l ∷ ls)) ++ others k (l ∷ ls) ≡ l ∷ ls
    above h =
        let n : (m : Line) → m ∈ (l ∷ ls) → m.kind.order ≢ k.order = λ m i d. ⊎_elim (λ e. omega (arith, ap (λ (j : Line). j.kind.order) e)) (λ i. omega (arith, s.0 m i)) i in
        ap₂ (λ (a : List (List ℕ)) (b : List Line). map (line k) a ++ b) (group-none k (l ∷ ls) n) (others-all k (l ∷ ls) n)

-- lines that never fall in order are their groups, one after another
pub lines-groups : (ks : List Kind) (ls : List Line) → Ascending order_key ks → Sorted ls → ((l : Line) → l ∈ ls → l.kind ∈ ks) → lines_from ks (groups_in ks ls) ≡ ls
lines-groups [] [] a s f = refl
lines-groups [] (l ∷ ls) a s f = absurd (f l (inl refl))
lines-groups (k ∷ ks) ls a s f =
    ap (λ (m : List Line). map (line k) (group k ls) ++ m)
    (ap (lines_from ks) (map_same (λ j. group j ls) (λ j. group j (others k ls)) ks (λ j m. sym (group-others j k ls (λ d. omega (arith, later-kinds k ks a j m)))))
    ∙ lines-groups ks (others k ls) a.1 (others-sorted k ls s) rest)
    ∙ first_group k ls s (λ l i. ⊎_elim (λ e. inl e) (λ m. inr (later-kinds k ks a l.kind m)) (f l i))
  where
    rest : (l : Line) → l ∈ others k ls → l.kind ∈ ks
    rest l i =
        let z = filter-mem (λ l. not (is_kind k l)) l ls i in
        ⊎_elim (λ e. absurd (eqb-false l.kind.order k.order (not-true (is_kind k l) z.1) (ap (λ (j : Kind). j.order) e))) (λ m. m) (f l z.0)

-- the first group of lines that pass is their S line
pub head-group : (l : Line) (ls : List Line) → AllShaped (l ∷ ls) → Passes [] (l ∷ ls) → group kind_s (l ∷ ls) ≡ l.numbers ∷ []
head-group l ls s p =
    rw (eq-eqb l.kind.order 0 (ap (λ (k : Kind). k.order) (first_head l ls s p)), group-none kind_s ls (later-not-first l [] ls p.1))

pub passes-groups : (ls : List Line) → AllShaped ls → Passes [] ls → 1 ≤ length ls → groups_of (sheet_of ls) ≡ groups_in kinds ls
passes-groups [] s p h = absurd (omega arith)
passes-groups (l ∷ ls) s p h = from-sheet (groups_in kinds (l ∷ ls)) refl l.numbers (head-group l ls s p)

pub lines-sheet : (ls : List Line) → AllShaped ls → Passes [] ls → 1 ≤ length ls → sheet_lines (sheet_of ls) ≡ ls
lines-sheet ls s p h = ap (lines_from kinds) (passes-groups ls s p h) ∙ lines-groups kinds ls kinds-ascend (passes-sorted ls p) (λ l i. (s l i).known)
