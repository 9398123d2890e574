-- Laws of waits and crossings: all that the crates above know of the definitions, with proofs/Moves.antt, which says that what leaves a place crosses.
-- A cost has three figures; on a valid sheet a crossing has one cost, and no figure is above 60,000; a crossing is by one of the corridors, which the
-- array counts.
use Rattle.std.specs.Prelude.{◌≡◌, true, List, [], ◌∷◌, ◌⊎◌, ℕ, zero, suc, ◌/◌, ◌+◌, ◌≤◌, ◌<◌, length, get_or, take}
use Rattle.std.proofs.Common.{sym, ◌∙◌, ap, subst, inl, inr, arith, zero-add}
use Rattle.std.proofs.Math.ListN.{get_or-eq_default}
use Rattle.sheet.specs.Lists.{◌∈◌, number, numbers_from}
use Rattle.sheet.specs.Kinds.{width, kind_c}
use Rattle.sheet.specs.Sheet.{Sheet, places, place_of, from, to}
use Rattle.sheet.specs.Valid.{Valid}
use Rattle.sheet.specs.Store.{SomeStore, part_of, sheet_in}
use Rattle.sheet.specs.Laws.Members.{mem-at, position-of}
use Rattle.sheet.specs.Laws.Ascending.{ascending-once}
use Rattle.sheet.specs.Laws.Decided.{yes_of, is-yes, lt-or-le, from-length}
use Rattle.sheet.specs.Laws.Turns.{turned-at}
use Rattle.sheet.specs.Laws.Rows.{rows-count}
use Rattle.sheet.specs.Laws.Store.{store-numbers}
use Rattle.costs.specs.Costs.{Cost, figures, fig}
use Rattle.costs.specs.Moves.{wait_of, cost_of, Closed, Crossing}
use Rattle.costs.specs.Priced.{CrossingBy, CorridorIs}
use Rattle.costs.specs.declared.Corridor.{Corridor}

pub wait-three : (s : Sheet) (v : ℕ) → length (wait_of s v) ≡ figures
unfolding wait_of
wait-three s v = from-length figures 1 (get_or s.waits v [])

-- the W line at position v is that of place v
pub wait-line : (s : Sheet) → Valid s → (v : ℕ) → v < places s → (get_or s.waits v [] ∈ s.waits) × (place_of (get_or s.waits v []) ≡ v)
wait-line s h v l =
    let b : v < length s.waits = omega (arith, h.each-place) in
    (mem-at [] s.waits v b, turned-at 0 s.waits h.waits-turn v b ∙ zero-add v)

pub cost-three : (k : List ℕ) → length (cost_of k) ≡ figures
unfolding cost_of
cost-three k = from-length figures 2 k

pub crossing-three : {s : Sheet} {u v t : ℕ} {c : Cost} → Crossing s u v t c → length c ≡ figures
crossing-three k = ap length k.price ∙ cost-three k.line

-- a figure of n numbers that stand from position i on is one of them, or past the end
from-within : (n i m : ℕ) (l : List ℕ) → ((j : ℕ) → i ≤ j → j < i + n → number l j ≤ m) → (j : ℕ) → fig (numbers_from n i l) j ≤ m
from-within zero i m l h j = omega arith
from-within (suc n) i m l h zero = h i (omega arith) (omega arith)
from-within (suc n) i m l h (suc j) = from-within n (suc i) m l (λ k p q. h k (omega arith) (omega arith)) j

-- no figure of a valid sheet is above 60,000
pub wait-bounded : (s : Sheet) → Valid s → (v i : ℕ) → fig (wait_of s v) i ≤ 60000
unfolding wait_of
wait-bounded s h v i = from-within figures 1 60000 (get_or s.waits v []) (λ j p q. small j p (lt-or-le v (length s.waits))) i
  where
    small : (j : ℕ) → 1 ≤ j → (v < length s.waits) ⊎ (length s.waits ≤ v) → number (get_or s.waits v []) j ≤ 60000
    small j p (inl b) = (h.waits (get_or s.waits v []) (mem-at [] s.waits v b)).cost j p
    small j p (inr b) = rw (get_or-eq_default s.waits [] b) (omega arith)

pub crossing-bounded : (s : Sheet) → Valid s → (u v t : ℕ) (c : Cost) → Crossing s u v t c → (i : ℕ) → fig c i ≤ 60000
unfolding cost_of
crossing-bounded s h u v t c x i = rw x.price (from-within figures 2 60000 x.line (λ j p q. (h.corridors x.line x.listed).cost j p) i)

-- on a valid sheet at most one corridor has these ends, and it never leads to its own place
ends-key : (k l : List ℕ) → length k ≡ 5 → length l ≡ 5 → from k ≡ from l → to k ≡ to l → take 2 k ≡ take 2 l
ends-key [] l p q f t = absurd (omega arith)
ends-key (a ∷ []) l p q f t = absurd (omega arith)
ends-key (a ∷ b ∷ k) [] p q f t = absurd (omega arith)
ends-key (a ∷ b ∷ k) (c ∷ []) p q f t = absurd (omega arith)
ends-key (a ∷ b ∷ k) (c ∷ d ∷ l) p q f t = cc

pub crossing-once : (s : Sheet) → Valid s → (u v t : ℕ) (c d : Cost) → Crossing s u v t c → Crossing s u v t d → c ≡ d
crossing-once s h u v t c d x y =
    let e : x.line ≡ y.line =
    ascending-once (take 2) s.corridors h.corridors-ascend x.line y.line x.listed y.listed
    (ends-key x.line y.line (h.corridors x.line x.listed).wide (h.corridors y.line y.listed).wide (x.leaves ∙ sym y.leaves) (x.enters ∙ sym y.enters)) in
    x.price ∙ ap cost_of e ∙ sym y.price

pub crossing-apart : (s : Sheet) → Valid s → (u v t : ℕ) (c : Cost) → Crossing s u v t c → u ≡ v → ⊥
crossing-apart s h u v t c x e = (h.corridors x.line x.listed).apart (x.leaves ∙ e ∙ sym x.enters)

-- a crossing is by one of the corridors
pub by-crossing : (s : Sheet) (k u v t : ℕ) (c : Cost) → CrossingBy s k u v t c → Crossing s u v t c
by-crossing s k u v t c x =
    record { line = get_or s.corridors k []; listed = mem-at [] s.corridors k x.listed; leaves = x.leaves; enters = x.enters; price = x.price; opens = x.opens }

pub crossing-by : (s : Sheet) (u v t : ℕ) (c : Cost) → Crossing s u v t c → (k : ℕ) × CrossingBy s k u v t c
crossing-by s u v t c x =
    let r = position-of [] x.line s.corridors x.listed in
    (r.0, record { listed = r.1; leaves = ap from r.2 ∙ x.leaves; enters = ap to r.2 ∙ x.enters; price = x.price ∙ ap cost_of (sym r.2); opens = x.opens })

-- a corridor that can be departed by at another step too has the same ends and the same cost then
pub crossing-also : (s : Sheet) (k u v t : ℕ) (c : Cost) → CrossingBy s k u v t c → (u' v' t' : ℕ) (c' : Cost) → CrossingBy s k u' v' t' c' → CrossingBy s k u v t' c
crossing-also s k u v t c x u' v' t' c' y =
    record {
      listed = x.listed;
      leaves = x.leaves;
      enters = x.enters;
      price = x.price;
      opens = λ m. y.opens (subst (λ (w : ℕ). Closed s w v' t') (sym x.leaves ∙ y.leaves) (subst (λ (w : ℕ). Closed s u w t') (sym x.enters ∙ y.enters) m));
    }

-- a corridor that is open is crossed, and what crosses by it is the corridor
module _ {s : Sheet} {k t : ℕ} {r : Corridor} (d : CorridorIs s k t r) where
  pub corridor-crosses : r.open ≡ true → CrossingBy s k r.from.0 r.to.0 t r.cost
  corridor-crosses e = record { listed = d.listed; leaves = sym d.leaves; enters = sym d.enters; price = d.price; opens = yes_of d.opens e }

  pub crosses-corridor : (u v : ℕ) (c : Cost) → CrossingBy s k u v t c → (r.open ≡ true) × (r.from.0 ≡ u) × (r.to.0 ≡ v) × (r.cost ≡ c)
  crosses-corridor u v c x =
      let f = d.leaves ∙ x.leaves in
      let g = d.enters ∙ x.enters in (
        is-yes d.opens (λ m. x.opens (subst (λ (w : ℕ). Closed s w v t) f (subst (λ (w : ℕ). Closed s r.from.0 w t) g m))),
        f,
        g,
        d.price ∙ sym x.price,
      )

-- how many corridors the sheet in the array has
pub corridor-count : {lines all : List ℕ} → SomeStore lines all → number lines kind_c.order ≡ length (sheet_in lines all).corridors
corridor-count {lines} {all} S =
    let cs = part_of lines all kind_c.order in
    let e : number lines kind_c.order ≡ length cs / width kind_c = omega (arith, store-numbers S.store kind_c.order (omega arith)) in
    e ∙ sym (rows-count (width kind_c) (length cs / width kind_c) cs)
