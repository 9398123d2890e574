-- Total, least and greatest of numbers: what they mean (the least is one of the numbers and above none of them, the greatest is one of them and below none),
-- how large a total is at most, and each with one number more at the end. Least and greatest are the first by a test: what is said of both is said of it.
use Rattle.std.specs.Prelude.{◌≡◌, refl, ◌⊎◌, Bool, true, false, List, [], ◌∷◌, ◌++◌, ℕ, suc, ◌+◌, ◌*◌, ◌≤◌, leb, length}
use Rattle.std.proofs.Common.{sym, ◌∙◌, ap, subst, inl, inr, ⊎_elim, true≢false, arith, suc-mul, leb-true, leb-false, le-leb}
use Rattle.sheet.specs.Lists.{pick, ◌∈◌}
use Rattle.costs.specs.Costs.{Cost, fig}
use Rattle.costs.specs.Priced.{Within}
use Rattle.month.specs.Month.{Month, figures_at, total, least, greatest}
use Rattle.month.specs.Inner.{better, best_from, above}

-- a test that puts numbers into an order
pub record Ordering (t : ℕ → ℕ → Bool) : Type 0 where
  pub linear : (a b : ℕ) → t a b ≡ false → t b a ≡ true
  pub trans : (a b c : ℕ) → t a b ≡ true → t b c ≡ true → t a c ≡ true
  pub same : (a b : ℕ) → t a b ≡ true → t b a ≡ true → a ≡ b

pub by-least : Ordering leb
by-least =
    record {
      linear = λ a b e. le-leb b a (omega (arith, leb-false a b e));
      trans = λ a b c e f. le-leb a c (omega (arith, leb-true a b e, leb-true b c f));
      same = λ a b e f. omega (arith, leb-true a b e, leb-true b a f);
    }

pub by-greatest : Ordering above
by-greatest =
    record {
      linear = λ a b e. le-leb a b (omega (arith, leb-false b a e));
      trans = λ a b c e f. le-leb c a (omega (arith, leb-true b a e, leb-true c b f));
      same = λ a b e f. omega (arith, leb-true b a e, leb-true a b f);
    }

module _ {t : ℕ → ℕ → Bool} (O : Ordering t) where
  reflexive : (a : ℕ) → t a a ≡ true
  reflexive a = go (t a a) refl
    where
      go : (p : Bool) → t a a ≡ p → t a a ≡ true
      go true e = e
      go false e = O.linear a a e

  -- the first of two stands before both, and is one of them
  before-both : (a b : ℕ) → (t (better t a b) a ≡ true) × (t (better t a b) b ≡ true) × ((better t a b ≡ a) ⊎ (better t a b ≡ b))
  before-both a b = go (t a b) refl
    where
      go : (p : Bool) → t a b ≡ p → (t (pick p a b) a ≡ true) × (t (pick p a b) b ≡ true) × ((pick p a b ≡ a) ⊎ (pick p a b ≡ b))
      go true e = (reflexive a, e, inl refl)
      go false e = (O.linear a b e, reflexive b, inr refl)

  swapped : (a b : ℕ) → better t a b ≡ better t b a
  swapped a b = go (t a b) (t b a) refl refl
    where
      go : (p q : Bool) → t a b ≡ p → t b a ≡ q → pick p a b ≡ pick q b a
      go true true e f = O.same a b e f
      go true false e f = refl
      go false true e f = refl
      go false false e f = absurd (true≢false (sym (O.linear a b e) ∙ f))

  around : (a b c : ℕ) → better t a (better t b c) ≡ better t (better t a b) c
  around a b c = go (t b c) (t a b) refl refl (t a c) refl
    where
      go : (p q : Bool) → t b c ≡ p → t a b ≡ q → (r : Bool) → t a c ≡ r → better t a (pick p b c) ≡ better t (pick q a b) c
      go true true e f r g = rw (f, O.trans a b c f e)
      go true false e f r g = rw (f, e)
      go false true e f r g = refl
      go false false e f true g = rw (g, e) (O.same a c g (O.trans c b a (O.linear b c e) (O.linear a b f)))
      go false false e f false g = rw (g, e)

  -- with one number more at the end
  pub best-more : (k : ℕ) (ns : List ℕ) (x : ℕ) → best_from t k (ns ++ (x ∷ [])) ≡ better t (best_from t k ns) x
  best-more k [] x = swapped x k
  best-more k (n ∷ ns) x = ap (better t n) (best-more k ns x) ∙ around n (best_from t k ns) x

-- the least of numbers, none of which is above k, may begin with k; the greatest with 0
pub least-from : (k : ℕ) (ns : List ℕ) → 1 ≤ length ns → ((n : ℕ) → n ∈ ns → n ≤ k) → best_from leb k ns ≡ least ns
least-from k [] p h = absurd (omega arith)
least-from k (n ∷ []) p h = rw (le-leb n k (h n (inl refl)))
least-from k (n ∷ j ∷ ns) p h = ap (better leb n) (least-from k (j ∷ ns) (omega arith) (λ i m. h i (inr m)))

pub greatest-from : (ns : List ℕ) → best_from above 0 ns ≡ greatest ns
greatest-from [] = refl
greatest-from (n ∷ ns) = ap (better above n) (greatest-from ns)

-- the least is one of the numbers, and above none of them
pub least-in : (ns : List ℕ) → 1 ≤ length ns → least ns ∈ ns
least-in [] h = absurd (omega arith)
least-in (n ∷ []) h = inl refl
least-in (n ∷ k ∷ ns) h =
    ⊎_elim inl (λ e. inr (subst (λ (r : ℕ). r ∈ (k ∷ ns)) (sym e) (least-in (k ∷ ns) (omega arith)))) (before-both by-least n (least (k ∷ ns))).2

pub least-below : (ns : List ℕ) (n : ℕ) → n ∈ ns → least ns ≤ n
least-below [] n m = absurd m
least-below (k ∷ []) n (inl e) = omega arith
least-below (k ∷ []) n (inr m) = absurd m
least-below (k ∷ j ∷ ns) n (inl e) = omega (arith, leb-true (least (k ∷ j ∷ ns)) k (before-both by-least k (least (j ∷ ns))).0)
least-below (k ∷ j ∷ ns) n (inr m) =
    omega (arith, leb-true (least (k ∷ j ∷ ns)) (least (j ∷ ns)) (before-both by-least k (least (j ∷ ns))).1, least-below (j ∷ ns) n m)

-- the greatest is one of the numbers, and below none of them
pub greatest-in : (ns : List ℕ) → 1 ≤ length ns → greatest ns ∈ ns
greatest-in [] h = absurd (omega arith)
greatest-in (n ∷ []) h = inl (rw (le-leb 0 n (omega arith)))
greatest-in (n ∷ k ∷ ns) h =
    ⊎_elim inl (λ e. inr (subst (λ (r : ℕ). r ∈ (k ∷ ns)) (sym e) (greatest-in (k ∷ ns) (omega arith)))) (before-both by-greatest n (greatest (k ∷ ns))).2

pub greatest-above : (ns : List ℕ) (n : ℕ) → n ∈ ns → n ≤ greatest ns
greatest-above [] n m = absurd m
greatest-above (k ∷ ns) n (inl e) = omega (arith, leb-true k (greatest (k ∷ ns)) (before-both by-greatest k (greatest ns)).0)
greatest-above (k ∷ ns) n (inr m) =
    omega (arith, leb-true (greatest ns) (greatest (k ∷ ns)) (before-both by-greatest k (greatest ns)).1, greatest-above ns n m)

-- the total, with one number more, and of numbers none of which is above k
pub total-more : (ns : List ℕ) (x : ℕ) → total (ns ++ (x ∷ [])) ≡ total ns + x
total-more [] x = omega arith
total-more (n ∷ ns) x = omega (arith, total-more ns x)

pub total-most : (k : ℕ) (ns : List ℕ) → ((n : ℕ) → n ∈ ns → n ≤ k) → total ns ≤ length ns * k
total-most k [] h = omega arith
total-most k (n ∷ ns) h = omega (arith, h n (inl refl), total-most k ns (λ i m. h i (inr m)), suc-mul (length ns) k)

-- the figures at a position: of one cost more, how many, and none above what no cost has above
pub figures-more : (i : ℕ) (m : Month) (c : Cost) → figures_at i (m ++ (c ∷ [])) ≡ figures_at i m ++ (fig c i ∷ [])
figures-more i [] c = refl
figures-more i (d ∷ m) c = ap (λ (l : List ℕ). fig d i ∷ l) (figures-more i m c)

pub figures-count : (i : ℕ) (m : Month) → length (figures_at i m) ≡ length m
figures-count i [] = refl
figures-count i (c ∷ m) = ap suc (figures-count i m)

pub figures-within : (k i : ℕ) (m : Month) → ((c : Cost) → c ∈ m → Within k c) → (n : ℕ) → n ∈ figures_at i m → n ≤ k
figures-within k i [] h n p = absurd p
figures-within k i (c ∷ m) h n (inl e) = rw e ((h c (inl refl)).every i)
figures-within k i (c ∷ m) h n (inr p) = figures-within k i m (λ d q. h d (inr q)) n p
