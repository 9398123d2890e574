-- Where twice the rest of the division is not the count, the mean is one of the two whole numbers about it. That it is a nearest one, of two that are equally
-- near the even one, and the only such number, is shown in proofs/Mean.antt.
use Rattle.std.specs.Prelude.{◌≡◌, ℕ, suc, ◌+◌, ◌*◌, ◌-◌, ◌/◌, ◌%◌, ◌≤◌, ◌<◌}
use Rattle.std.proofs.Common.{arith}
use borrow.Author.Tests.{le-leb, lt-leb, ne_eqb}
use Rattle.month.specs.Month.{mean}

-- how far two numbers are apart
abbrev pub apart : ℕ → ℕ → ℕ
apart a b = (a - b) + (b - a)

module _ (t n : ℕ) (h : 1 ≤ n) where
  abbrev q : ℕ
  q = t / n

  abbrev r : ℕ
  r = t % n

  -- the mean below a half and above it
  pub mean-stays : 2 * r < n → mean t n ≡ q
  unfolding mean
  mean-stays l = rw (ne_eqb (2 * r) n (λ z. omega arith), lt-leb n (2 * r) l)

  pub mean-up : n < 2 * r → mean t n ≡ suc q
  unfolding mean
  mean-up l = rw (ne_eqb (2 * r) n (λ z. omega arith), le-leb n (2 * r) (omega arith))
