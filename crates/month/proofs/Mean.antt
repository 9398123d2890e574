-- The mean is a nearest whole number, of two that are equally near the even one, and the only such number. How near a whole number k is to t / n is told
-- without division, by how far n times k is from t. With t = q n + r that is r for q and n - r for q + 1, and n or more for every other number.
-- Assumes nothing.
use Rattle.std.specs.Prelude.{◌≡◌, refl, ℕ, suc, ◌+◌, ◌*◌, ◌-◌, ◌/◌, ◌%◌, ◌≤◌, ◌<◌}
use Rattle.std.proofs.Common.{sym, ap, ⊎_elim, arith, suc-mul, mul-le-mul_right, div-add-mod', div-le_self, mod-lt}
use Rattle.std.proofs.Math.Decide.{ℕ_discrete}
use borrow.Author.Tests.{eq-eqb}
use Rattle.sheet.specs.Laws.Decided.{lt-or-le}
use Rattle.month.specs.Month.{mean}
use Rattle.month.specs.Laws.Mean.{apart, mean-stays, mean-up}

module _ (t n : ℕ) (h : 1 ≤ n) where
  abbrev q : ℕ
  q = t / n

  abbrev r : ℕ
  r = t % n

  whole : t ≡ q * n + r
  whole = sym (div-add-mod' t n)

  rest : r < n
  rest = mod-lt t h

  -- where k stands to the two whole numbers about t / n
  below : (k : ℕ) → k < q → n + r ≤ apart t (k * n)
  below k l =
      let a : suc k * n ≤ q * n = mul-le-mul_right n l in
      omega (arith, whole, suc-mul k n)

  at-whole : (k : ℕ) → k ≡ q → apart t (k * n) ≡ r
  at-whole k e =
      let a : k * n ≡ q * n = ap (λ (j : ℕ). j * n) e in
      omega (arith, whole)

  at_next : (k : ℕ) → k ≡ suc q → apart t (k * n) ≡ n - r
  at_next k e =
      let a : k * n ≡ suc q * n = ap (λ (j : ℕ). j * n) e in
      omega (arith, whole, rest, suc-mul q n)

  beyond : (k : ℕ) → suc q < k → n + (n - r) ≤ apart t (k * n)
  beyond k l =
      let a : suc (suc q) * n ≤ k * n = mul-le-mul_right n l in
      omega (arith, whole, rest, suc-mul (suc q) n, suc-mul q n)

  -- what is shown of each of the four is shown of every number
  every : {P : ℕ → Type 0} → ((k : ℕ) → k < q → P k) → ((k : ℕ) → k ≡ q → P k) → ((k : ℕ) → k ≡ suc q → P k) → ((k : ℕ) → suc q < k → P k) → (k : ℕ) → P k
  every a b c d k =
      ⊎_elim
      (a k)
      (λ g. ⊎_elim (λ l. b k (omega arith)) (λ m. ⊎_elim (λ l. c k (omega arith)) (λ l. d k (omega arith)) (lt-or-le k (suc (suc q)))) (lt-or-le k (suc q)))
      (lt-or-le k q)

  -- what is shown below a half, at it and above it is shown
  by-rest : {P : Type 0} → (2 * r < n → P) → (2 * r ≡ n → P) → (n < 2 * r → P) → P
  by-rest a b c = ⊎_elim a (λ g. ⊎_elim c (λ l. b (omega arith)) (lt-or-le n (2 * r))) (lt-or-le (2 * r) n)

  -- the mean is one of the two, by twice the rest; at a half the one that is even
  pub mean-half : 2 * r ≡ n → (q ≤ mean t n) × (mean t n ≤ suc q) × (mean t n % 2 ≡ 0)
  unfolding mean
  mean-half e = rw (eq-eqb (2 * r) n e) (omega arith)

  -- the mean is at most one more than the total
  pub mean-most : mean t n ≤ suc t
  mean-most =
      let l = div-le_self t n in
      by-rest (λ g. omega (arith, mean-stays t n h g)) (λ g. omega (arith, mean-half g)) (λ g. omega (arith, mean-up t n h g))

  -- it is as near as either
  abbrev AsNear : Type 0
  AsNear = (apart t (mean t n * n) ≤ r) × (apart t (mean t n * n) ≤ n - r)

  as-near : AsNear
  as-near = by-rest stays half up
    where
      stays : 2 * r < n → AsNear
      stays g = let e = at-whole (mean t n) (mean-stays t n h g) in omega arith

      up : n < 2 * r → AsNear
      up g = let e = at_next (mean t n) (mean-up t n h g) in omega arith

      half : 2 * r ≡ n → AsNear
      half g =
          ⊎_elim
          (λ l. let e = at-whole (mean t n) (omega (arith, mean-half g)) in omega arith)
          (λ l. let e = at_next (mean t n) (omega (arith, mean-half g)) in omega arith)
          (lt-or-le (mean t n) (suc q))

  -- no whole number is nearer
  pub mean-nearest : (k : ℕ) → apart t (mean t n * n) ≤ apart t (k * n)
  mean-nearest =
      every
      (λ k p. omega (arith, as-near, below k p))
      (λ k p. omega (arith, as-near, at-whole k p))
      (λ k p. omega (arith, as-near, at_next k p))
      (λ k p. omega (arith, as-near, beyond k p))

  -- one that is as near is one of the two
  about : (k : ℕ) → apart t (k * n) ≡ apart t (mean t n * n) → (q ≤ k) × (k ≤ suc q)
  about =
      every
      (λ k p e. absurd (omega (arith, as-near, below k p)))
      (λ k p e. omega (arith, p))
      (λ k p e. omega (arith, p))
      (λ k p e. absurd (omega (arith, as-near, beyond k p)))

  -- where another one is as near, the mean is even
  pub half-even : (k : ℕ) → apart t (k * n) ≡ apart t (mean t n * n) → (k ≡ mean t n → ⊥) → mean t n % 2 ≡ 0
  half-even k e other = by-rest stays (λ g. (mean-half g).2) up
    where
      stays : 2 * r < n → mean t n % 2 ≡ 0
      stays g =
          let m = mean-stays t n h g in
          absurd (omega (arith, e, at-whole (mean t n) m, at_next k (omega (arith, m, other, about k e))))

      up : n < 2 * r → mean t n % 2 ≡ 0
      up g =
          let m = mean-up t n h g in
          absurd (omega (arith, e, at_next (mean t n) m, at-whole k (omega (arith, m, other, about k e))))

  -- the mean is the only nearest number that is even where another one is as near
  pub mean-only :
      (k : ℕ) →
      ((j : ℕ) → apart t (k * n) ≤ apart t (j * n)) →
      ((j : ℕ) → apart t (j * n) ≡ apart t (k * n) → (j ≡ k → ⊥) → k % 2 ≡ 0) →
      k ≡ mean t n
  mean-only k nearest even = go (ℕ_discrete k (mean t n))
    where
      e : apart t (k * n) ≡ apart t (mean t n * n)
      e = omega (arith, nearest (mean t n), mean-nearest k)

      go : Dec (k ≡ mean t n) → k ≡ mean t n
      go (yes same) = same
      go (no other) =
          let a = half-even k e other in
          let b = even (mean t n) (sym e) (λ z. other (sym z)) in
          absurd (omega (arith, a, b, other, about k e, about (mean t n) refl))
