-- Marks in the table of first steps: steps written one by one, lines marked one by one.
-- Assumes nothing.
use mathlib.Core.Path.{◌≡◌, refl, sym, ◌∙◌, ap}
use mathlib.Core.Bool.{Bool, true, false, ◌&&◌, true≢false}
use mathlib.Core.List.{List}
use Prim.Native.Nat.{ℕ, ◌+◌, ◌*◌, ◌-◌, ◌/◌, ◌≤◌, ◌<◌}
use native.Mathlib.Omega.{arith}
use lib.Dec.{leb, eqb}
use lib.ListN.{length, set, length-set}
use lib.Seq.{get_or-set_same, get_or-set_other}
use borrow.Author.Tests.{eqb-true, eqb-false, eq-eqb, leb-true, le-leb}
use Rattle.sheet.specs.Lists.{number}
use Rattle.sheet.specs.Laws.Order.{and-true, true-and}
use Rattle.std.specs.Simd.{first_chunks}
use Rattle.std.specs.Prelude.{[], get_or}
use Rattle.costs.specs.Laws.Rows.{row, row_number, mem-rows, chunk_number}
use Rattle.intervals.specs.Inner.{coversb, entry, Blank, MarkableLine, MarkedSteps, Marked}
use Rattle.intervals.specs.FirstSteps.{ValidGroup}

-- the entries of the steps f up to t are x, and the others as before
pub record Steps (x row f t : ℕ) (before after : List ℕ) : Type 0 where
  pub sized : length after ≡ 16384
  pub hit : (i : ℕ) → row + f ≤ i → i < row + t → number after i ≡ x
  pub kept : (i : ℕ) → (row + f ≤ i → i < row + t → ⊥) → number after i ≡ number before i

pub steps-none : (x row f : ℕ) (l : List ℕ) → length l ≡ 16384 → Steps x row f f l l
steps-none x row f l e = record { sized = e; hit = λ i p q. absurd (omega arith); kept = λ i n. refl }

pub steps-more : (x row f t : ℕ) (l k : List ℕ) → row + t < 16384 → f ≤ t → Steps x row f t l k → Steps x row f (t + 1) l (set k (row + t) x)
steps-more x row f t l k b h m =
    record {
      sized = length-set k (row + t) x ∙ m.sized;
      hit = λ i p q. at i p q (eqb i (row + t)) refl;
      kept = λ i n. get_or-set_other k (row + t) i x 0 (λ e. n (omega arith) (omega arith)) ∙ m.kept i (λ p q. n p (omega arith));
    }
  where
    at : (i : ℕ) → row + f ≤ i → i < row + (t + 1) → (c : Bool) → eqb i (row + t) ≡ c → number (set k (row + t) x) i ≡ x
    at i p q true e = rw (eqb-true i (row + t) e) (get_or-set_same k (row + t) x 0 (omega (arith, m.sized)))
    at i p q false e =
        let d : i ≡ row + t → ⊥ = eqb-false i (row + t) e in
        get_or-set_other k (row + t) i x 0 d ∙ m.hit i p (omega arith)

-- the tests of a line, taken apart and put together
pub covers-true : (l : List ℕ) (v t k : ℕ) → coversb l v t k ≡ true → (number l (k * 3) ≡ v) × (number l (k * 3 + 1) ≤ t) × (t ≤ number l (k * 3 + 2))
covers-true l v t k h =
    let p = and-true (eqb (number l (k * 3)) v && leb (number l (k * 3 + 1)) t) (leb t (number l (k * 3 + 2))) h in
    let q = and-true (eqb (number l (k * 3)) v) (leb (number l (k * 3 + 1)) t) p.0 in
    (eqb-true _ _ q.0, leb-true _ _ q.1, leb-true _ _ p.1)

pub true-covers : (l : List ℕ) (v t k : ℕ) → number l (k * 3) ≡ v → number l (k * 3 + 1) ≤ t → t ≤ number l (k * 3 + 2) → coversb l v t k ≡ true
true-covers l v t k a b c = true-and _ _ (true-and _ _ (eq-eqb _ _ a) (le-leb _ _ b)) (le-leb _ _ c)

-- all steps from a to b are marked
pub steps-marked : (w a b t : ℕ) (before after : List ℕ) → b ≤ 255 → b < t → t ≤ a + (b + 1 - a) → Steps 256 (w * 256) a t before after → MarkedSteps w a b before after
steps-marked w a b t before after e g h m =
    record {
      hit = λ u p q r. m.hit (w * 256 + u) (omega arith) (omega arith);
      kept = λ v u p q n. m.kept (v * 256 + u) (λ x y. n (omega arith) (omega arith) (omega arith));
    }

-- w, a and b are the place, the first step and the last step of line k, as the rows of the group have them
pub record LineIs (l : List ℕ) (k w a b : ℕ) : Type 0 where
  pub place : w ≡ number l (k * 3)
  pub first : a ≡ number l (k * 3 + 1)
  pub last : b ≡ number l (k * 3 + 2)

pub line_is : (l : List ℕ) (t : List (List ℕ)) → t ≡ first_chunks 3 (length l / 3) l → (k : ℕ) → k < length l / 3
    → LineIs l k (number (get_or t k []) 0) (number (get_or t k []) 1) (number (get_or t k []) 2)
line_is l t e k h =
    let n : k * 3 + 0 ≡ k * 3 = omega arith in
    record {
      place = chunk_number 3 l t e k 0 h (omega arith) ∙ ap (number l) n;
      first = chunk_number 3 l t e k 1 h (omega arith);
      last = chunk_number 3 l t e k 2 h (omega arith);
    }

-- the lines of a valid group can be marked
pub markable : (l : List ℕ) (k : ℕ) → ValidGroup l → k < length l / 3 → MarkableLine l k
markable l k h b =
    let m = mem-rows 3 (length l / 3) l k b in
    let e : k * 3 + 0 ≡ k * 3 = omega arith in
    record {
      place = omega (arith, h.place (row 3 l k) m, row_number 3 l k 0 (omega arith), ap (number l) e);
      step = omega (arith, h.step (row 3 l k) m, row_number 3 l k 2 (omega arith));
    }

-- one line more
pub marked-none : (l since : List ℕ) → Blank since → Marked l 0 since
marked-none l since h = record { hit = λ v t k p q b c. absurd (omega arith); free = λ v t p q c. h.every (v * 256 + t) (omega arith) }

pub marked_more : (l : List ℕ) (n : ℕ) (before after : List ℕ) → {w a b : ℕ} → LineIs l n w a b → Marked l n before → MarkedSteps w a b before after
    → Marked l (n + 1) after
marked_more l n before after i m h =
    record {
      hit = λ v t k p q b c. at v t k p q b c (coversb l v t n) refl;
      free = λ v t p q c. other v t p q (c n (omega arith)) ∙ m.free v t p q (λ k b. c k (omega arith));
    }
  where
    other : (v t : ℕ) → v < 64 → t < 256 → coversb l v t n ≡ false → entry after v t ≡ entry before v t
    other v t p q e = h.kept v t p q (λ x y z. true≢false (sym (true-covers l v t n (sym (x ∙ i.place)) (omega (arith, i.first)) (omega (arith, i.last))) ∙ e))

    at : (v t k : ℕ) → v < 64 → t < 256 → k < n + 1 → coversb l v t k ≡ true → (d : Bool) → coversb l v t n ≡ d → entry after v t ≡ 256
    at v t k p q b c true e =
        let r = covers-true l v t n e in
        ap (λ (w : ℕ). entry after w t) (sym (i.place ∙ r.0)) ∙ h.hit t q (omega (arith, r.1, i.first)) (omega (arith, r.2, i.last))
    at v t k p q b c false e = other v t p q e ∙ earlier (eqb k n) refl
      where
        earlier : (d : Bool) → eqb k n ≡ d → entry before v t ≡ 256
        earlier true f = absurd (true≢false (sym c ∙ ap (coversb l v t) (eqb-true k n f) ∙ e))
        earlier false f = let d : k ≡ n → ⊥ = eqb-false k n f in m.hit v t k p q (omega arith) c
