-- Marks raised: what a table with marks keeps, and what two raisings, one after the other, make.
-- Assumes nothing.
use mathlib.Core.Path.{◌≡◌, refl, sym, ◌∙◌, ap, subst}
use mathlib.Core.Logic.{◌⊎◌, inl, inr, ◌≢◌, ⊎_elim}
use mathlib.Core.Bool.{Bool, true, false}
use mathlib.Core.List.{List}
use Prim.Native.Nat.{ℕ, ◌+◌, ◌*◌, ◌/◌, ◌%◌, ◌≤◌, ◌<◌}
use native.Mathlib.Omega.{arith}
use lib.ListN.{length, get_or, set, length-set}
use lib.Seq.{get_or-set_same, get_or-set_other, ext_get_or}
use lib.Dec.{eqb}
use borrow.Author.Tests.{eqb-true, eqb-false}
use Rattle.sheet.specs.Sheet.{Sheet}
use Rattle.sheet.specs.Lists.{Lex}
use Rattle.sheet.specs.Laws.Decided.{from-same, lt-or-le}
use Rattle.costs.specs.Costs.{figures}
use Rattle.arrivals.specs.Arrivals.{Arrival, Leading, key_of}
use Rattle.arrivals.specs.Laws.Leading.{arrival-path}
use Rattle.journeys.specs.Inner.Lookup.{place_at, mark_at, stand_at, Sorted}
use Rattle.journeys.specs.Inner.Waits.{Rows, Rowed}
use Rattle.journeys.specs.Inner.Marks.{SameButMarks, Raised, Bared}

-- the rows are the same but for the marks
pub same_refl : {n : ℕ} {xs : List ℕ} → SameButMarks n xs xs
same_refl = record { size = refl; place = λ k. refl; others = λ i h. refl }

module _ {n : ℕ} {xs ys : List ℕ} (r : SameButMarks n xs ys) where
  pub same-trans : {zs : List ℕ} → SameButMarks n ys zs → SameButMarks n xs zs
  same-trans q = record { size = q.size ∙ r.size; place = λ k. q.place k ∙ r.place k; others = λ i h. q.others i h ∙ r.others i h }

  pub same-stand : (k : ℕ) → stand_at ys k ≡ stand_at xs k
  same-stand k =
      arrival-path (stand_at ys k) (stand_at xs k) (r.place k) (r.others (k * 5 + 1) (λ j h e. omega arith))
      (from-same figures (k * 5 + 2) (k * 5 + 2) ys xs (λ j h. r.others (k * 5 + 2 + j) (λ i l e. omega arith)))

  same-sorted : Sorted n xs → Sorted n ys
  same-sorted s =
      record {
        room = omega (arith, s.room, r.size);
        ascends = λ i j h l. subst (λ (a : Arrival). Lex (key_of a) (key_of (stand_at ys j))) (sym (same-stand i)) (subst (λ (a : Arrival). Lex (key_of (stand_at xs i)) (key_of a)) (sym (same-stand j)) (s.ascends i j h l));
      }

  same_rows : {s : Sheet} → Rows s n xs → Rows s n ys
  same_rows {s} x =
      record {
        sorted = same-sorted x.sorted;
        each = λ k h. subst (Leading s) (sym (same-stand k)) (x.each k h);
        every = λ e l. let q = x.every e l in (q.0, q.1, same-stand q.0 ∙ q.2);
      }

  pub same-rowed : {s : Sheet} {since : List ℕ} → Rowed s since n xs → Rowed s since n ys
  same-rowed x = record { derived = x.derived; rows = same_rows x.rows }

-- one raising
module _ {n : ℕ} {xs : List ℕ} {t : ℕ} where
  pub raised-none : {P : ℕ → Type 0} → ((k : ℕ) → k < n → P k → ⊥) → Raised n xs xs t P
  raised-none f = record { rows = same_refl; either = λ k h. inl refl; every = λ k h p. absurd (f k h p) }

  pub raised-as : {ys : List ℕ} {P Q : ℕ → Type 0} → ((k : ℕ) → k < n → P k → Q k) → ((k : ℕ) → k < n → Q k → P k) → Raised n xs ys t P → Raised n xs ys t Q
  raised-as f g r =
      record {
        rows = r.rows;
        either = λ k h. ⊎_elim inl (λ x. inr (x.0, x.1, f k h x.2)) (r.either k h);
        every = λ k h q. r.every k h (g k h q);
      }

  -- no mark falls, and none past t is new
  pub raised-higher : {ys : List ℕ} {P : ℕ → Type 0} → Raised n xs ys t P → (j k : ℕ) → k < n → j < mark_at xs k → j < mark_at ys k
  raised-higher r j k h l = ⊎_elim (λ e. omega (arith, e)) (λ x. omega (arith, x.0, x.1)) (r.either k h)

  pub raised-past : {ys : List ℕ} {P : ℕ → Type 0} → Raised n xs ys t P → (j k : ℕ) → t ≤ j → k < n → j < mark_at ys k → j < mark_at xs k
  raised-past r j k m h l = ⊎_elim (λ e. omega (arith, e)) (λ x. absurd (omega (arith, x.1))) (r.either k h)

  -- one raising after the other
  pub raised_both : {ys zs : List ℕ} {P Q : ℕ → Type 0} → Raised n xs ys t P → Raised n ys zs t Q → Raised n xs zs t (λ k. P k ⊎ Q k)
  raised_both {ys} {zs} {P} {Q} p q = record { rows = same-trans p.rows q.rows; either = λ k h. either k (p.either k h) (q.either k h); every = every }
    where
      either : (k : ℕ) → (mark_at ys k ≡ mark_at xs k) ⊎ ((mark_at xs k < t) × (mark_at ys k ≡ t) × P k) → (mark_at zs k ≡ mark_at ys k) ⊎ ((mark_at ys k < t) × (mark_at zs k ≡ t) × Q k)
          → (mark_at zs k ≡ mark_at xs k) ⊎ ((mark_at xs k < t) × (mark_at zs k ≡ t) × (P k ⊎ Q k))
      either k (inl a) (inl b) = inl (b ∙ a)
      either k (inr a) (inl b) = inr (a.0, b ∙ a.1, inl a.2)
      either k (inl a) (inr b) = inr (omega (arith, a, b.0), b.1, inr b.2)
      either k (inr a) (inr b) = absurd (omega (arith, a.1, b.0))

      later : (k : ℕ) → k < n → t ≤ mark_at ys k → t ≤ mark_at zs k
      later k h l = ⊎_elim (λ e. omega (arith, e)) (λ x. omega (arith, x.1)) (q.either k h)

      every : (k : ℕ) → k < n → P k ⊎ Q k → t ≤ mark_at zs k
      every k h (inl a) = later k h (p.every k h a)
      every k h (inr b) = q.every k h b

-- raisings one after the other, for each number below m
pub record Below (Q : ℕ → ℕ → Type 0) (m k : ℕ) : Type 0 where
  pub at : ℕ
  pub below : at < m
  pub holds : Q at k

module _ {n : ℕ} {xs : List ℕ} {t : ℕ} {Q : ℕ → ℕ → Type 0} where
  pub raised-start : Raised n xs xs t (Below Q 0)
  raised-start = raised-none (λ k h x. omega (arith, x.below))

  pub raised-more : {ys zs : List ℕ} {m : ℕ} {R : ℕ → Type 0} → Raised n xs ys t (Below Q m) → Raised n ys zs t R
      → ((k : ℕ) → k < n → R k → Q m k) → ((k : ℕ) → k < n → Q m k → R k) → Raised n xs zs t (Below Q (m + 1))
  raised-more {ys} {zs} {m} {R} p q f g = raised-as (λ k h. to k h) (λ k h x. from k h x (eqb x.at m) refl) (raised_both p q)
    where
      to : (k : ℕ) → k < n → Below Q m k ⊎ R k → Below Q (m + 1) k
      to k h (inl x) = record { at = x.at; below = omega (arith, x.below); holds = x.holds }
      to k h (inr x) = record { at = m; below = omega arith; holds = f k h x }

      from : (k : ℕ) → k < n → (x : Below Q (m + 1) k) → (b : Bool) → eqb x.at m ≡ b → Below Q m k ⊎ R k
      from k h x true e = inr (g k h (subst (λ (i : ℕ). Q i k) (eqb-true x.at m e) x.holds))
      from k h x false e = let d : x.at ≢ m = eqb-false x.at m e in inl (record { at = x.at; below = omega (arith, x.below); holds = x.holds })

-- one row's mark is written
module _ {n k m : ℕ} {xs : List ℕ} (h : k < n) (room : n * 5 ≤ length xs) where
  pub raised-not : m ≤ mark_at xs k → Raised n xs xs m (λ j. j ≡ k)
  raised-not l = record { rows = same_refl; either = λ j i. inl refl; every = λ j i e. subst (λ (i : ℕ). m ≤ mark_at xs i) (sym e) l }

  pub raised-one : mark_at xs k < m → Raised n xs (set xs (k * 5) (place_at xs k + m * 64)) m (λ j. j ≡ k)
  raised-one l =
      record {
        rows = record { size = length-set xs (k * 5) x; place = λ j. place j (eqb j k) refl; others = λ i f. get_or-set_other xs (k * 5) i x 0 (λ e. f k h e) };
        either = λ j i. either j (eqb j k) refl;
        every = λ j i e. subst (λ (i : ℕ). m ≤ mark_at ys i) (sym e) (omega (arith, here));
      }
    where
      x : ℕ
      x = place_at xs k + m * 64

      ys : List ℕ
      ys = set xs (k * 5) x

      here : get_or ys (k * 5) 0 ≡ x
      here = get_or-set_same xs (k * 5) x 0 (omega arith)

      other : (j : ℕ) → j ≢ k → get_or ys (j * 5) 0 ≡ get_or xs (j * 5) 0
      other j d = get_or-set_other xs (k * 5) (j * 5) x 0 (λ e. d (omega arith))

      place : (j : ℕ) (b : Bool) → eqb j k ≡ b → place_at ys j ≡ place_at xs j
      place j true e = subst (λ (i : ℕ). place_at ys i ≡ place_at xs i) (sym (eqb-true j k e)) (omega (arith, here))
      place j false e = ap (λ (y : ℕ). y % 64) (other j (eqb-false j k e))

      either : (j : ℕ) (b : Bool) → eqb j k ≡ b → (mark_at ys j ≡ mark_at xs j) ⊎ ((mark_at xs j < m) × (mark_at ys j ≡ m) × (j ≡ k))
      either j true e = let z = eqb-true j k e in inr (subst (λ (i : ℕ). mark_at xs i < m) (sym z) l, subst (λ (i : ℕ). mark_at ys i ≡ m) (sym z) (omega (arith, here)), z)
      either j false e = inl (ap (λ (y : ℕ). y / 64) (other j (eqb-false j k e)))

-- the marks taken off, row by row
pub bared-none : {xs : List ℕ} → Bared 0 xs xs
bared-none = record { size = refl; place = λ k h. absurd (omega arith); others = λ i f. refl }

pub bared-all : {n k : ℕ} {xs ys : List ℕ} → n ≡ k → Bared k xs ys → Bared n xs ys
bared-all {n} {k} {xs} {ys} e b = subst (λ (j : ℕ). Bared j xs ys) (sym e) b

pub bared-more : {k : ℕ} {xs ys : List ℕ} → k * 5 < length ys → Bared k xs ys → Bared (k + 1) xs (set ys (k * 5) (get_or ys (k * 5) 0 % 64))
bared-more {k} {xs} {ys} room b =
    record {
      size = length-set ys (k * 5) x ∙ b.size;
      place = λ j h. place j h (eqb j k) refl;
      others = λ i f. get_or-set_other ys (k * 5) i x 0 (λ e. f k (omega arith) e) ∙ b.others i (λ j h e. f j (omega arith) e);
    }
  where
    x : ℕ
    x = get_or ys (k * 5) 0 % 64

    place : (j : ℕ) → j < k + 1 → (c : Bool) → eqb j k ≡ c → get_or (set ys (k * 5) x) (j * 5) 0 ≡ place_at xs j
    place j h true e =
        let z = eqb-true j k e in
        subst (λ (i : ℕ). get_or (set ys (k * 5) x) (i * 5) 0 ≡ place_at xs i) (sym z)
        (get_or-set_same ys (k * 5) x 0 room ∙ ap (λ (y : ℕ). y % 64) (b.others (k * 5) (λ i l q. omega arith)))
    place j h false e =
        let d : j ≢ k = eqb-false j k e in
        get_or-set_other ys (k * 5) (j * 5) x 0 (λ q. d (omega arith)) ∙ b.place j (omega arith)

-- without marks the table is what it was
pub bared-back : {n : ℕ} {xs ys zs : List ℕ} → ((k : ℕ) → k < n → get_or xs (k * 5) 0 < 64) → SameButMarks n xs ys → Bared n ys zs → zs ≡ xs
bared-back {n} {xs} {ys} {zs} low r b = ext_get_or 0 zs xs (b.size ∙ r.size) (λ i h. cell i (eqb (i / 5 * 5) i) refl)
  where
    kept : (i : ℕ) → ((k : ℕ) → k < n → i ≡ k * 5 → ⊥) → get_or zs i 0 ≡ get_or xs i 0
    kept i f = b.others i f ∙ r.others i f

    cell : (i : ℕ) (c : Bool) → eqb (i / 5 * 5) i ≡ c → get_or zs i 0 ≡ get_or xs i 0
    cell i true e = ⊎_elim (column i (eqb-true (i / 5 * 5) i e)) (past i (eqb-true (i / 5 * 5) i e)) (lt-or-le (i / 5) n)
      where
        column : (i : ℕ) → i / 5 * 5 ≡ i → i / 5 < n → get_or zs i 0 ≡ get_or xs i 0
        column i e l =
            subst (λ (j : ℕ). get_or zs j 0 ≡ get_or xs j 0) e
            (b.place (i / 5) l ∙ r.place (i / 5) ∙ omega (arith, low (i / 5) l))

        past : (i : ℕ) → i / 5 * 5 ≡ i → n ≤ i / 5 → get_or zs i 0 ≡ get_or xs i 0
        past i e l = kept i (λ k h q. omega arith)
    cell i false e = let d = eqb-false (i / 5 * 5) i e in kept i (λ k h q. d (omega arith))
