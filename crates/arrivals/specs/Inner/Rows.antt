-- The rows of a table below row n, and the d rows from row a on, the newest first.
use Rattle.std.specs.Prelude.{◌≡◌, refl, List, [], ◌∷◌, ◌++◌, length, get_or, replicate}
use Rattle.std.proofs.Common.{ap, ap₂, ◌∙◌, arith, add-one, not-suc-le-zero}
use Rattle.std.proofs.Math.Path.{subst}
use Rattle.std.proofs.Math.Logic.{⊎_elim}
use Prim.Native.Nat.{ℕ, zero, suc, ◌+◌, ◌*◌, ◌-◌, ◌≤◌, ◌<◌}
use Rattle.std.proofs.lemmas.List.{length-replicate, get_or-replicate}
use Rattle.std.proofs.Math.ListN.{get_or-eq_default}
use Rattle.sheet.specs.Laws.Decided.{lt-or-le, Any, All, here, there, any-cons, any-nil, all_head, all_tail, from-same}
use Rattle.costs.specs.Costs.{figures}
use Rattle.costs.specs.Priced.{Within}
use Rattle.arrivals.specs.Rows.{Row, row_at, Put}
use Rattle.arrivals.specs.Laws.Rows.{row-path, row_kept}

unfoldable pub rows_of : List ℕ → ℕ → List Row
rows_of xs zero = []
rows_of xs (suc n) = row_at xs n ∷ rows_of xs n

pub rows-zero : (xs : List ℕ) → rows_of xs 0 ≡ []
unfolding rows_of
rows-zero xs = refl

pub rows_more : (xs : List ℕ) (n : ℕ) → rows_of xs (n + 1) ≡ row_at xs n ∷ rows_of xs n
unfolding rows_of
rows_more xs n = ap (rows_of xs) (add-one n)

module _ (P : Row → Type 0) (xs : List ℕ) where
  pub none_below : (n : ℕ) → ((j : ℕ) → j < n → P (row_at xs j) → ⊥) → Any P (rows_of xs n) → ⊥
  unfolding rows_of
  none_below zero f a = any-nil a
  none_below (suc n) f a = ⊎_elim (f n (omega arith)) (none_below n (λ j l. f j (omega arith))) (any-cons a)

  pub none-down : (k n : ℕ) → 0 < k → ((j : ℕ) → k ≤ j → j < n → P (row_at xs j) → ⊥) → (P (row_at xs (k - 1)) → ⊥) → (j : ℕ) → k - 1 ≤ j → j < n → P (row_at xs j) → ⊥
  none-down k n o f g j l m p = ⊎_elim (λ lt. f j (omega arith) m p) (λ ge. g (subst (λ (i : ℕ). P (row_at xs i)) (omega arith) p)) (lt-or-le (k - 1) j)

  pub any_at : (n i : ℕ) → i < n → P (row_at xs i) → Any P (rows_of xs n)
  unfolding rows_of
  any_at zero i l p = absurd (not-suc-le-zero l)
  any_at (suc n) i l p = ⊎_elim (λ lt. there (any_at n i lt p)) (λ ge. here (subst (λ (k : ℕ). P (row_at xs k)) (omega arith) p)) (lt-or-le i n)

  pub all-at : (n i : ℕ) → i < n → All P (rows_of xs n) → P (row_at xs i)
  unfolding rows_of
  all-at zero i l a = absurd (not-suc-le-zero l)
  all-at (suc n) i l a = ⊎_elim (λ lt. all-at n i lt (all_tail a)) (λ ge. subst (λ (k : ℕ). P (row_at xs k)) (omega arith) (all_head a)) (lt-or-le i n)

-- a row's cost has three figures, each at most 60000 for each step
pub record Bounded (r : Row) : Type 0 where
  pub within : Within (60000 * r.step) r.cost
  pub three : length r.cost ≡ figures

-- the rows below n are made of the numbers below n * 5
pub rows-kept : (xs ys : List ℕ) (n : ℕ) → ((j : ℕ) → j < n * 5 → get_or ys j 0 ≡ get_or xs j 0) → rows_of ys n ≡ rows_of xs n
unfolding rows_of
rows-kept xs ys zero h = refl
rows-kept xs ys (suc n) h =
    ap₂ ◌∷◌
    (row-path (h (n * 5) (omega arith)) (h (n * 5 + 1) (omega arith)) (from-same figures (n * 5 + 2) (n * 5 + 2) ys xs (λ i l. h (n * 5 + 2 + i) (omega arith))))
    (rows-kept xs ys n (λ j l. h j (omega arith)))

pub put-rows : {xs ys : List ℕ} {n : ℕ} {r : Row} → Put xs ys n r → rows_of ys (n + 1) ≡ r ∷ rows_of xs n
put-rows {xs} {ys} {n} {r} p = rows_more ys n ∙ ap₂ ◌∷◌ p.row (rows-kept xs ys n p.below)

pub count-rows : (xs : List ℕ) (n : ℕ) → length (rows_of xs n) ≡ n
unfolding rows_of
count-rows xs zero = refl
count-rows xs (suc n) = ap suc (count-rows xs n)

-- the d rows from row a on, the newest first
unfoldable pub tail_of : List ℕ → ℕ → ℕ → List Row
tail_of xs a zero = []
tail_of xs a (suc d) = row_at xs (a + d) ∷ tail_of xs a d

pub tail-zero : (xs : List ℕ) (a : ℕ) → tail_of xs a 0 ≡ []
unfolding tail_of
tail-zero xs a = refl

pub tail_more : (xs : List ℕ) (a d : ℕ) → tail_of xs a (d + 1) ≡ row_at xs (a + d) ∷ tail_of xs a d
unfolding tail_of
tail_more xs a d = ap (tail_of xs a) (add-one d)

pub tail-kept : (xs ys : List ℕ) (a d : ℕ) → ((j : ℕ) → a * 5 ≤ j → j < (a + d) * 5 → get_or ys j 0 ≡ get_or xs j 0) → tail_of ys a d ≡ tail_of xs a d
unfolding tail_of
tail-kept xs ys a zero h = refl
tail-kept xs ys a (suc d) h = ap₂ ◌∷◌ (row_kept xs ys (a + d) (λ j l m. h j (omega arith) (omega arith))) (tail-kept xs ys a d (λ j l m. h j l (omega arith)))

pub put-tail : {xs ys : List ℕ} {r : Row} (a d : ℕ) → Put xs ys (a + d) r → tail_of ys a (d + 1) ≡ r ∷ tail_of xs a d
put-tail {xs} {ys} {r} a d p = tail_more ys a d ∙ ap₂ ◌∷◌ p.row (tail-kept xs ys a d (λ j l m. p.below j m))

pub rows-tail : (xs : List ℕ) (a d : ℕ) → rows_of xs (a + d) ≡ tail_of xs a d ++ rows_of xs a
unfolding tail_of rows_of
rows-tail xs a zero = let e : a + 0 ≡ a = omega arith in ap (rows_of xs) e
rows-tail xs a (suc d) = let e : a + suc d ≡ suc (a + d) = omega arith in ap (rows_of xs) e ∙ ap (λ (rs : List Row). row_at xs (a + d) ∷ rs) (rows-tail xs a d)

module _ (P : Row → Type 0) (xs : List ℕ) (a : ℕ) where
  pub tail_none : Any P (tail_of xs a 0) → ⊥
  unfolding tail_of
  tail_none x = any-nil x

  pub tail-none-more : (d : ℕ) → (Any P (tail_of xs a d) → ⊥) → (P (row_at xs (a + d)) → ⊥) → Any P (tail_of xs a (d + 1)) → ⊥
  tail-none-more d f g x = ⊎_elim g f (any-cons (subst (Any P) (tail_more xs a d) x))

  pub tail-none-end : (d i : ℕ) → i ≤ d → d ≤ i → (Any P (tail_of xs a i) → ⊥) → Any P (tail_of xs a d) → ⊥
  tail-none-end d i l m f x = f (subst (λ (j : ℕ). Any P (tail_of xs a j)) (omega arith) x)

  pub tail-any : (d i : ℕ) → i < d → P (row_at xs (a + i)) → Any P (tail_of xs a d)
  unfolding tail_of
  tail-any zero i l p = absurd (not-suc-le-zero l)
  tail-any (suc d) i l p = ⊎_elim (λ lt. there (tail-any d i lt p)) (λ ge. here (subst (λ (k : ℕ). P (row_at xs (a + k))) (omega arith) p)) (lt-or-le i d)

-- from a list of rows to a number
pub record Found (P : Row → Type 0) (xs : List ℕ) (a d : ℕ) : Type 0 where
  pub at : ℕ
  pub from : a ≤ at
  pub upto : at < a + d
  pub fits : P (row_at xs at)

pub tail-find : {P : Row → Type 0} (xs : List ℕ) (a d : ℕ) → Any P (tail_of xs a d) → Found P xs a d
unfolding tail_of
tail-find xs a zero x = absurd (any-nil x)
tail-find {P = P} xs a (suc d) x =
    ⊎_elim (λ p. record { at = a + d; from = omega arith; upto = omega arith; fits = p })
    (λ (y : Any P (tail_of xs a d)).
    let f : Found P xs a d = tail-find xs a d y in
    record { at = f.at; from = f.from; upto = omega (arith, f.upto); fits = f.fits })
    (any-cons x)

pub rows-find : {P : Row → Type 0} (xs : List ℕ) (n : ℕ) → Any P (rows_of xs n) → Found P xs 0 n
unfolding rows_of
rows-find xs zero x = absurd (any-nil x)
rows-find {P = P} xs (suc n) x =
    ⊎_elim (λ p. record { at = n; from = omega arith; upto = omega arith; fits = p })
    (λ (y : Any P (rows_of xs n)).
    let f : Found P xs 0 n = rows-find xs n y in
    record { at = f.at; from = f.from; upto = omega (arith, f.upto); fits = f.fits })
    (any-cons x)

pub zeros-at : (n j : ℕ) → ◌≡◌ {A = ℕ} (get_or (replicate n 0) j 0) 0
zeros-at n j = ⊎_elim (λ l. get_or-replicate n j 0 0 l) (λ l. get_or-eq_default (replicate n 0) 0 (omega (arith, length-replicate {A = ℕ} n 0))) (lt-or-le j n)
