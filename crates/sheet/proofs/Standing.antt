-- What stands in the arrays of lines that are in shape and pass: the count of lines of each kind, the room that is left, and each group's rows.
-- Assumes nothing.
use mathlib.Core.Path.{◌≡◌, refl, sym, ◌∙◌, ap, subst}
use mathlib.Core.Logic.{inl, inr}
use mathlib.Core.List.{List, [], ◌∷◌, ◌++◌, append_assoc}
use mathlib.Core.Option.{some}
use Prim.Native.Nat.{ℕ, zero, suc, ◌+◌, ◌*◌, ◌-◌, ◌≤◌, ◌<◌}
use native.Mathlib.Omega.{arith}
use native.Mathlib.Nat.{suc-mul, zero-mul}
use mathlib.Core.Bool.{Bool, true, false}
use lib.Dec.{ltb, eqb}
use lib.ListN.{length, get_or, take, drop, replicate, get_or-append}
use lib.Seq.{take_at, drop-append-add, drop-drop}
use borrow.Author.Tests.{eq-eqb}
use Rattle.sheet.specs.Lists.{pick, number, ◌∈◌, filter, flat}
use Rattle.sheet.specs.Kinds.{Kind, width, room, kind_s, kind_c, kinds}
use Rattle.sheet.specs.Lines.{Line}
use Rattle.sheet.specs.Sheet.{Sheet, group, lines_from, head_in, latest, lacking}
use Rattle.sheet.specs.Laws.Groups.{is_kind, groups_in, first_head, head-group, passes-sorted, lines-groups}
use Rattle.sheet.specs.Store.{kind_count, kind_at, base_of, store_room, spread}
use Rattle.sheet.specs.Inner.{Stored, RowIs}
use Rattle.sheet.specs.Laws.Members.{mem-filter, mem-map}
use Rattle.sheet.specs.Laws.Rows.{Wide}
use Rattle.sheet.specs.Laws.Judge.{Passes}
use Rattle.sheet.specs.Laws.Shape.{AllShaped}
use Rattle.sheet.specs.Laws.Kinds.{key-inside, key-small, kinds-ascend}
use Rattle.sheet.specs.Laws.Runs.{passes-runs}
use Rattle.sheet.specs.Laws.Cells.{Held, held-run, held-count, held-length, held-few, held-part}
use Rattle.sheet.specs.declared.kinds.Row.{Row}

-- n lines of the row stand in an array of so many numbers, which is not long
pub record RowFits (r : Row) (n len : ℕ) : Type 0 where
  pub key-small : r.key ≤ 3
  pub key-inside : r.key ≤ r.width
  pub inside : r.base + n * r.width ≤ len
  pub short : len ≤ 100000

some-member : (n : List ℕ) (g : List (List ℕ)) → n ∈ g → 1 ≤ length g
some-member n [] m = absurd m
some-member n (x ∷ g) m = omega arith

-- a line stands in the group of its kind
pub group-some : (l : Line) (ls : List Line) → l ∈ ls → 1 ≤ length (group l.kind ls)
group-some l ls m =
    some-member l.numbers (group l.kind ls)
    (mem-map (λ l. l.numbers) l (filter (is_kind l.kind) ls) (mem-filter (is_kind l.kind) l ls m (eq-eqb l.kind.order l.kind.order refl)))

-- the last of i + 1 rows of one width, where they stand one after another
latest-row : (w i : ℕ) (g : List (List ℕ)) (rest : List ℕ) → Wide w g → length g ≡ suc i → latest g ≡ some (take w (drop (i * w) (flat g ++ rest)))
latest-row w i [] rest h e = absurd (omega arith)
latest-row w zero (n ∷ []) rest h e = rw (zero-mul w, append_assoc n [] rest, take_at n rest w (h n (inl refl)))
latest-row w (suc i) (n ∷ []) rest h e = absurd (omega arith)
latest-row w zero (n ∷ m ∷ g) rest h e = absurd (omega arith)
latest-row w (suc i) (n ∷ m ∷ g) rest h e =
    let z : suc i * w ≡ length n + i * w = omega (arith, h n (inl refl), suc-mul i w) in
    latest-row w i (m ∷ g) rest (λ k j. h k (inr j)) (omega arith)
    ∙ rw (z, append_assoc n (flat (m ∷ g)) rest, drop-append-add n (flat (m ∷ g) ++ rest) (i * w))

-- the group of each kind
pub group_at : (before : List Line) (ks : List Kind) (k : ℕ) → k < length ks → get_or (groups_in ks before) k [] ≡ group (get_or ks k kind_s) before
group_at before [] k h = absurd (omega arith)
group_at before (j ∷ ks) zero h = refl
group_at before (j ∷ ks) (suc k) h = group_at before ks k (omega arith)

-- there is no line
abbrev pub is_none : List Line → Bool
is_none [] = true
is_none (l ∷ ls) = false

-- zeros at the front
zeros-at : (n : ℕ) (rest : List ℕ) (i : ℕ) → i < n → number (replicate n 0 ++ rest) i ≡ 0
zeros-at zero rest i h = absurd (omega arith)
zeros-at (suc n) rest zero h = refl
zeros-at (suc n) rest (suc i) h = zeros-at n rest i (omega arith)

-- a sheet with the S line and the corridors of the lines so far
abbrev so_far : List Line → Sheet
so_far ls = record { head = head_in ls; waits = []; corridors = group kind_c ls; closures = []; occupancies = [] }

module _ {before : List Line} {lines all : List ℕ} (S : Stored before lines all) where
  pub stored-held : Held (so_far before) (groups_in kinds before) lines all
  stored-held =
      let e : lines_from kinds (groups_in kinds before) ≡ before =
      lines-groups kinds before kinds-ascend (passes-sorted before S.passes) (λ l i. (S.shaped l i).known) in
      record {
        each = refl;
        runs = passes-runs (so_far before) kinds (groups_in kinds before) kinds-ascend (subst AllShaped (sym e) S.shaped) (subst (Passes []) (sym e) S.passes)
            (record { head-is = ap head_in e; corridors-are = ap (group kind_c) e });
        counts = S.counts;
        cells = S.cells;
      }

  pub lines-length : length lines ≡ kind_count
  lines-length = ap length S.counts

  pub all-length : length all ≡ store_room
  all-length = held-length stored-held

  module _ {k : ℕ} (h : k < kind_count) where
    pub group-wide : Wide (width (kind_at k)) (group (kind_at k) before)
    group-wide = subst (Wide (width (kind_at k))) (group_at before kinds k h) (held-run stored-held k h).count

    pub count-is : number lines k ≡ length (group (kind_at k) before)
    count-is = held-count stored-held k h ∙ ap length (group_at before kinds k h)

    pub count-few : number lines k ≤ (kind_at k).most
    count-few = (held-few stored-held k h).0

    pub part-is : (rest : List ℕ) × (drop (base_of k) all ≡ flat (group (kind_at k) before) ++ rest)
    part-is =
        let q = held-part stored-held k h in
        (q.0, q.1 ∙ ap (λ (g : List (List ℕ)). flat g ++ q.0) (group_at before kinds k h))

    pub row_fits : {r : Row} → RowIs k r → RowFits r (number lines k) (length all)
    row_fits R =
        record {
          key-small = omega (arith, R.key-is, key-small k h);
          key-inside = omega (arith, R.width_is, R.key-is, key-inside k h);
          inside = rw (R.base-is, R.width_is) (held-few stored-held k h).1;
          short = omega (arith, all-length);
        }

    -- the last row of the kind's group, where there is one
    pub last-is : 1 ≤ number lines k
        → latest (group (kind_at k) before) ≡ some (take (width (kind_at k)) (drop (base_of k + (number lines k - 1) * width (kind_at k)) all))
    last-is o =
        let w = width (kind_at k) in
        let i = number lines k - 1 in
        latest-row w i (group (kind_at k) before) part-is.0 group-wide (omega (arith, count-is))
        ∙ ap (λ (l : List ℕ). some (take w l)) (ap (drop (i * w)) (sym part-is.1) ∙ drop-drop (i * w) (base_of k) all)

-- no line of the first kind is counted exactly where there is no line
pub head-count : {before : List Line} {lines all : List ℕ} → Stored before lines all → eqb (number lines 0) 0 ≡ is_none before
head-count {before = []} S = rw (count-is S {k = 0} (omega arith))
head-count {before = m ∷ before} S = rw (count-is S {k = 0} (omega arith), head-group m before S.shaped S.passes)

-- number i of the S line, which stands first in the array; zeros where there is none
pub head-number : {before : List Line} {lines all : List ℕ} → Stored before lines all → (i : ℕ) → i < width kind_s → number (head_in before) i ≡ number all i
head-number {before = []} S i b = sym (ap (λ (l : List ℕ). number l i) S.cells ∙ zeros-at (room kind_s) (drop (room kind_s) (spread kinds (groups_in kinds []))) i b)
head-number {before = m ∷ before} S i b =
    let f : m.kind ≡ kind_s = first_head m before S.shaped S.passes in
    let q = part-is S {k = 0} (omega arith) in
    let g = head-group m before S.shaped S.passes in
    let w : i < length m.numbers = omega (arith, (S.shaped m (inl refl)).count, ap width f) in
    sym
    (ap (λ (l : List ℕ). number l i) (q.1 ∙ ap (λ (x : List (List ℕ)). flat x ++ q.0) g ∙ append_assoc m.numbers [] q.0)
    ∙ get_or-append m.numbers q.0 0 i w)

-- something is lacking exactly where no line of the first kind is counted, or fewer of the second than places
pub lacks-count : {before : List Line} {lines all : List ℕ} → Stored before lines all
    → lacking before ≡ pick (eqb (number lines 0) 0) true (ltb (number lines 1) (number all 0))
lacks-count {before = []} S = rw (head-count S)
lacks-count {before = m ∷ before} S = rw (head-count S, count-is S {k = 1} (omega arith), head-number S 0 (omega arith))
