-- No number on the page of a served month loses a digit: all are at most one more than the greatest total.
-- Assumes nothing.
use Rattle.std.specs.Prelude.{◌≡◌, ℕ, suc, ◌≤◌, List, length}
use Rattle.std.proofs.Common.{inl, inr, arith}
use Rattle.std.proofs.Math.Option.{some}
use Rattle.sheet.specs.Lists.{◌∈◌}
use Rattle.sheet.specs.Decimal.{number_of, digits_of}
use Rattle.sheet.specs.Laws.Decimal.{write_read}
use Rattle.month.specs.Month.{Month, collected, month_of, figures_at, total, least, greatest, total_digits}
use Rattle.month.specs.Inner.{most_total}
use Rattle.month.specs.Laws.Figures.{least-in, greatest-in, figures-count, figures-within}
use Rattle.month.specs.Laws.Page.{total-small}
use Rattle.month.specs.Laws.Served.{MonthIs, served-is, printed_of}
use Rattle.month.proofs.Mean.{mean-most}

numbers-small : (b : List ℕ) (m : Month) (i : ℕ) → month_of b ≡ collected m → (n : ℕ) → n ∈ printed_of m i → n ≤ suc most_total
numbers-small b m i e n p = go p
  where
    r : MonthIs m b
    r = served-is b m e

    some_number : 1 ≤ length (figures_at i m)
    some_number = omega (arith, r.some-line, figures-count i m)

    below : (k : ℕ) → k ∈ figures_at i m → k ≤ 15300000
    below = figures-within 15300000 i m r.inside

    small : total (figures_at i m) ≤ most_total
    small = total-small i m r.few r.inside

    go : n ∈ printed_of m i → n ≤ suc most_total
    go (inl q) = omega (arith, q, small)
    go (inr (inl q)) = omega (arith, q, below (least (figures_at i m)) (least-in (figures_at i m) some_number))
    go (inr (inr (inl q))) = omega (arith, q, below (greatest (figures_at i m)) (greatest-in (figures_at i m) some_number))
    go (inr (inr (inr (inl q)))) = omega (arith, q, small, mean-most (total (figures_at i m)) (length (figures_at i m)) some_number)
    go (inr (inr (inr (inr q)))) = absurd q

pub numbers-whole : (b : List ℕ) (m : Month) (i : ℕ) → month_of b ≡ collected m → (n : ℕ) → n ∈ printed_of m i → number_of total_digits (digits_of total_digits n) ≡ some n
numbers-whole b m i e n p = write_read total_digits n (omega arith) (omega (arith, numbers-small b m i e n p))
