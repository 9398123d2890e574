-- The arrays with a line more that has no fault: its numbers stand after those of its kind, and the count of its kind is one more.
-- There is room, since test 7 passed.
-- Assumes nothing.
use mathlib.Core.Path.{◌≡◌, refl, sym, ◌∙◌, ap, ap₂, subst}
use mathlib.Core.Logic.{⊎_elim}
use mathlib.Core.List.{List, [], ◌∷◌, ◌++◌, map, append-nil}
use Prim.Native.Nat.{ℕ, zero, suc, ◌+◌, ◌*◌, ◌≤◌, ◌<◌}
use native.Mathlib.Omega.{arith}
use native.Mathlib.Nat.{suc-mul, mul-le-mul_right}
use lib.ListN.{length, set, get_or, take, length-append}
use lib.Seq.{sets, length-take-le}
use borrow.Author.Tests.{leb-false}
use Rattle.sheet.specs.Lists.{number, filled, flat}
use Rattle.sheet.specs.Kinds.{Kind, width, room, kind_s, kinds}
use Rattle.sheet.specs.Lines.{Line}
use Rattle.sheet.specs.Sheet.{group, fault}
use Rattle.sheet.specs.Store.{kind_count, kind_at, base_of, spread}
use Rattle.sheet.specs.Inner.{line_at, RowIs, Stored}
use Rattle.sheet.specs.Laws.Members.{mem-append}
use Rattle.sheet.specs.Laws.Shape.{Shaped, AllShaped}
use Rattle.sheet.specs.Laws.Rows.{flat-length}
use Rattle.sheet.specs.Laws.Stores.{sets-filled}
use Rattle.sheet.specs.Laws.Binds.{bind-append}
use Rattle.sheet.specs.Laws.Passed.{fault-passed, append-passes}
use Rattle.sheet.specs.Laws.Kinds.{kind-in, order-at, width_small}
use Rattle.sheet.specs.Laws.Groups.{groups_in, group-append, group-own, group-other}
use Rattle.sheet.specs.Laws.Cells.{base-room, held-roomy, cells_store}
use Rattle.sheet.specs.declared.kinds.Row.{Row}
use Rattle.sheet.proofs.Standing.{stored-held, group_at, group-wide, all-length, count-is}

-- two lists over the kinds that differ at one kind
map_same : {B : Type 0} (p q : Kind → B) (ks : List Kind) → ((i : ℕ) → i < length ks → p (get_or ks i kind_s) ≡ q (get_or ks i kind_s)) → map p ks ≡ map q ks
map_same p q [] f = refl
map_same p q (j ∷ ks) f = ap₂ (λ b l. b ∷ l) (f 0 (omega arith)) (map_same p q ks (λ i h. f (suc i) (omega arith)))

pub map-set : {B : Type 0} (p q : Kind → B) (ks : List Kind) (k : ℕ) → k < length ks
    → ((i : ℕ) → i < length ks → (i ≡ k → ⊥) → p (get_or ks i kind_s) ≡ q (get_or ks i kind_s)) → set (map p ks) k (q (get_or ks k kind_s)) ≡ map q ks
map-set p q [] k h f = absurd (omega arith)
map-set {B} p q (j ∷ ks) zero h f = ap (λ (l : List B). q j ∷ l) (map_same p q ks (λ i l. f (suc i) (omega arith) (λ e. omega arith)))
map-set p q (j ∷ ks) (suc k) h f =
    ap₂ (λ b l. b ∷ l) (f 0 (omega arith) (λ e. omega arith)) (map-set p q ks k (omega arith) (λ i l n. f (suc i) (omega arith) (λ e. n (omega arith))))

flat-last : (g : List (List ℕ)) (n : List ℕ) → flat (g ++ (n ∷ [])) ≡ flat g ++ n
flat-last g n = bind-append (λ k. k) g (n ∷ []) ∙ ap (λ (r : List ℕ). flat g ++ r) (append-nil n)

-- the line of kind number k whose numbers stand in v
module _ {before : List Line} {lines all : List ℕ} (S : Stored before lines all) {k : ℕ} (h : k < kind_count) (v : List ℕ) (e : length v ≡ 8)
    (z : fault before (line_at k v) ≡ 0) where
  abbrev kind : Kind
  kind = kind_at k

  abbrev row : List ℕ
  row = take (width kind) v

  abbrev later : List Line
  later = before ++ (line_at k v ∷ [])

  abbrev at : ℕ
  at = number lines k * width kind

  row-length : length row ≡ width kind
  row-length = length-take-le (width kind) v (omega (arith, width_small k h))

  -- one line more than fewer than the most
  room-left : at + width kind ≤ room kind
  room-left =
      let few = leb-false kind.most (length (group kind before)) (fault-passed before (line_at k v) z).few in
      let more : suc (number lines k) ≤ kind.most = omega (arith, count-is S h, few) in
      omega (arith, suc-mul (number lines k) (width kind), mul-le-mul_right (width kind) more)

  group-more : group kind later ≡ group kind before ++ (row ∷ [])
  group-more = group-append kind before (line_at k v ∷ []) ∙ ap (λ (g : List (List ℕ)). group kind before ++ g) (group-own kind (row ∷ []))

  group-else : (i : ℕ) → i < kind_count → (i ≡ k → ⊥) → group (kind_at i) before ≡ group (kind_at i) later
  group-else i b n =
      let none = group-other (kind_at i) kind (row ∷ []) (λ d. n (omega (arith, order-at i b, order-at k h))) in
      sym
      (group-append (kind_at i) before (line_at k v ∷ [])
      ∙ ap (λ (g : List (List ℕ)). group (kind_at i) before ++ g) none
      ∙ append-nil (group (kind_at i) before))

  count-more : number lines k + 1 ≡ length (group kind later)
  count-more = omega (arith, count-is S h, ap length group-more, length-append (group kind before) (row ∷ []))

  part-more : sets (filled (room kind) (flat (group kind before))) at row ≡ filled (room kind) (flat (group kind later))
  part-more =
      let l : at ≡ length (flat (group kind before)) =
      ap (λ (n : ℕ). n * width kind) (count-is S h) ∙ sym (flat-length (width kind) (group kind before) (group-wide S h)) in
      sets-filled (room kind) (flat (group kind before)) row at l (omega (arith, room-left, row-length))
      ∙ ap (filled (room kind)) (sym (flat-last (group kind before) row) ∙ ap flat (sym group-more))

  later-shaped : AllShaped later
  later-shaped l m =
      let this : Shaped (line_at k v) = record { known = kind-in k h; count = row-length } in
      ⊎_elim (S.shaped l) (⊎_elim (λ i. subst Shaped (sym i) this) (λ i. absurd i)) (mem-append l before (line_at k v ∷ []) m)

  pub stored_more : {r : Row} → RowIs k r → Stored later (set lines k (number lines k + 1)) (sets all (r.base + number lines k * r.width) (take r.width v))
  stored_more R =
      record {
        shaped = later-shaped;
        passes = append-passes [] before (line_at k v ∷ []) S.passes (z, tt);
        counts =
            ap₂ (λ (l : List ℕ) (n : ℕ). set l k n) S.counts count-more
            ∙ map-set (λ j. length (group j before)) (λ j. length (group j later)) kinds k h (λ i b n. ap length (group-else i b n));
        cells =
            rw (R.base-is, R.width_is)
            (ap (λ (l : List ℕ). sets l (base_of k + at) row) S.cells
            ∙ cells_store kinds (groups_in kinds before) (held-roomy (stored-held S)) k at row (group kind later) h (omega (arith, room-left, row-length))
            (rw (group_at before kinds k h) part-more)
            ∙ ap (spread kinds) (map-set (λ j. group j before) (λ j. group j later) kinds k h group-else));
      }

  -- the numbers of the line fit into the array
  pub store-inside : {r : Row} → RowIs k r → r.base + number lines k * r.width + r.width ≤ length all
  store-inside R = rw (R.base-is, R.width_is) (omega (arith, room-left, base-room kinds k h, all-length S))
