-- What holds of every kind of line: a computed test over the table of kinds gives its fact of each of them. A kind is known by its order, which is its
-- position in the table.
use Rattle.std.specs.Prelude.{◌≡◌, refl, Bool, true, List, [], ◌∷◌, map, ℕ, zero, suc, ◌≤◌, ◌<◌, leb, ltb, eqb}
use Rattle.std.proofs.Common.{ap, inl, arith, leb-true, ltb-true, eqb-true}
use Rattle.sheet.specs.Lists.{number, ◌∈◌, all}
use Rattle.sheet.specs.Sorting.{Ascending}
use Rattle.sheet.specs.Kinds.{Kind, width, kind_s, kinds}
use Rattle.sheet.specs.Store.{kind_count, kind_at}
use Rattle.sheet.specs.Laws.Order.{and-true}
use Rattle.sheet.specs.Laws.Members.{all_true, all-at, mem-at, get_d_map}
use Rattle.sheet.specs.Laws.Ascending.{ascending-once}

pub kind-in : (k : ℕ) → k < kind_count → kind_at k ∈ kinds
kind-in k h = mem-at kind_s kinds k h

-- a test that every kind passes
pub kinds-all : (p : Kind → Bool) → all p kinds ≡ true → (k : ℕ) → k < kind_count → p (kind_at k) ≡ true
kinds-all p e k h = all_true p kinds e (kind_at k) (kind-in k h)

pub width_small : (k : ℕ) → k < kind_count → width (kind_at k) ≤ 8
width_small k h = leb-true (width (kind_at k)) 8 (kinds-all (λ j. leb (width j) 8) refl k h)

pub width_some : (k : ℕ) → k < kind_count → 1 ≤ width (kind_at k)
width_some k h = leb-true 1 (width (kind_at k)) (kinds-all (λ j. leb 1 (width j)) refl k h)

pub most-small : (k : ℕ) → k < kind_count → (kind_at k).most ≤ 256
most-small k h = leb-true (kind_at k).most 256 (kinds-all (λ j. leb j.most 256) refl k h)

pub key-inside : (k : ℕ) → k < kind_count → (kind_at k).key ≤ width (kind_at k)
key-inside k h = leb-true (kind_at k).key (width (kind_at k)) (kinds-all (λ j. leb j.key (width j)) refl k h)

pub key-small : (k : ℕ) → k < kind_count → (kind_at k).key ≤ 3
key-small k h = leb-true (kind_at k).key 3 (kinds-all (λ j. leb j.key 3) refl k h)

pub order-at : (k : ℕ) → k < kind_count → (kind_at k).order ≡ k
order-at k h = eqb-true (kind_at k).order k (all-at (λ n j. eqb j.order n) kind_s kinds refl k h)

pub order_below : (j : Kind) → j ∈ kinds → j.order < kind_count
order_below j m = ltb-true j.order kind_count (all_true (λ i. ltb i.order kind_count) kinds refl j m)

-- orders ascend along the table
abbrev pub order_key : Kind → List ℕ
order_key k = k.order ∷ []

pub kinds-ascend : Ascending order_key kinds
kinds-ascend = (inl (omega arith), (inl (omega arith), (inl (omega arith), (inl (omega arith), (tt, tt)))))

-- a kind of the table is known by its order
pub kind-by-order : (k j : Kind) → k ∈ kinds → j ∈ kinds → k.order ≡ j.order → k ≡ j
kind-by-order k j m n e = ascending-once order_key kinds kinds-ascend k j m n (ap (λ (o : ℕ). o ∷ []) e)

pub kind-at : (j : Kind) → j ∈ kinds → kind_at j.order ≡ j
kind-at j m = kind-by-order (kind_at j.order) j (kind-in j.order (order_below j m)) m (order-at j.order (order_below j m))

-- a column of the table
pub column-at : (f : Kind → ℕ) (k : ℕ) → k < kind_count → number (map f kinds) k ≡ f (kind_at k)
column-at f k h = get_d_map f kinds k kind_s 0 h

small_at : (m : ℕ) (l : List ℕ) → all (λ n. leb n m) l ≡ true → (i : ℕ) → number l i ≤ m
small_at m [] e i = omega arith
small_at m (x ∷ l) e zero = leb-true x m (and-true (leb x m) (all (λ n. leb n m) l) e).0
small_at m (x ∷ l) e (suc i) = small_at m l (and-true (leb x m) (all (λ n. leb n m) l) e).1 i

pub widths-small : (i : ℕ) → number (map width kinds) i ≤ 8
widths-small i = small_at 8 (map width kinds) refl i
