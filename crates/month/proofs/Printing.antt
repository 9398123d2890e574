-- The page of a month from its sums: each line has the figures that the sums hold, since the least may begin with the most of a figure and the greatest with 0.
-- Assumes nothing.
use mathlib.Core.Path.{◌≡◌, refl, sym, ◌∙◌, ap, ap₂}
use mathlib.Core.List.{List, [], ◌∷◌}
use Prim.Native.Nat.{ℕ, zero, suc, ◌+◌, ◌*◌, ◌≤◌, ◌<◌}
use native.Mathlib.Omega.{arith}
use lib.ListN.{length, take, get_or, replicate}
use Rattle.sheet.specs.Lists.{bind}
use Rattle.sheet.specs.Text.{printed, refusal_line}
use Rattle.sheet.specs.Laws.Puts.{Puts, puts-as, puts-more, puts-all, puts-filled}
use Rattle.costs.specs.Costs.{figures, fig}
use Rattle.month.specs.Month.{Month, refused, collected, told, whole, judge, month_of, figures_at, total, least, greatest, mean, total_digits, figure_line, figure_lines, page, page_room, held}
use Rattle.month.specs.declared.sums.Sums.{Sums}
use Rattle.month.specs.Inner.{most_figure, most_lines, most_total, Holds, Gathered, Reached, PutsFigure, PutsFigures}
use Rattle.month.specs.Laws.Figures.{least-from, greatest-from, figures-count, figures-within}
use Rattle.month.specs.Laws.Page.{figure-long, page-fits, total-small}

-- the numbers of a line
module _ {m : Month} {n : ℕ} {s : Sums} (h : Holds m s) (e : n ≡ length m) (p : 1 ≤ n) (i : ℕ) (l : i < figures) where
  abbrev ns : List ℕ
  ns = figures_at i m

  is-total : fig s.totals i ≡ total ns
  is-total = h.totals-are.so_far i l

  is-least : fig s.leasts i ≡ least ns
  is-least =
      h.leasts-are.so_far i l
      ∙ least-from most_figure ns (omega (arith, figures-count i m)) (figures-within most_figure i m h.inside)

  is-greatest : fig s.greatests i ≡ greatest ns
  is-greatest = h.greatests-are.so_far i l ∙ greatest-from ns

  is-mean : mean (fig s.totals i) n ≡ mean (total ns) (length ns)
  is-mean = ap₂ mean is-total (e ∙ sym (figures-count i m))

  numbers-same : ◌≡◌ {A = List ℕ}
      ((i + 1) ∷ fig s.totals i ∷ fig s.leasts i ∷ fig s.greatests i ∷ mean (fig s.totals i) n ∷ [])
      (suc i ∷ total ns ∷ least ns ∷ greatest ns ∷ mean (total ns) (length ns) ∷ [])
  numbers-same =
      let a : i + 1 ≡ suc i = omega arith in
      let b = is-total in
      let c = is-least in
      let d = is-greatest in
      let f = is-mean in
      cc

  pub figure-line : printed total_digits 65 ((i + 1) ∷ fig s.totals i ∷ fig s.leasts i ∷ fig s.greatests i ∷ mean (fig s.totals i) n ∷ []) ≡ figure_line m i
  unfolding figure_line
  figure-line = ap (printed total_digits 65) numbers-same

-- what the mean asks for
pub gathered-small : {n : ℕ} {s : Sums} → Gathered n s → (i : ℕ) → i < figures → (fig s.totals i ≤ most_total) × (n ≤ most_lines)
gathered-small G i l =
    (omega (arith, G.holds.totals-are.so_far i l, total-small i G.month G.holds.few G.holds.inside), omega (arith, G.count, G.holds.few))

-- the lines of the figures, one more at a time
abbrev pub positions : List ℕ
positions = 0 ∷ 1 ∷ 2 ∷ []

pub record PutsUpTo (n : ℕ) (s : Sums) (i : ℕ) (out out' : List ℕ) (r : ℕ) : Type 0 where
  pub of : (m : Month) → Holds m s → n ≡ length m → Puts (bind (take i positions) (figure_line m)) out 0 out' r
  pub room : r ≤ i * 62

position-is : (i : ℕ) → i < 3 → get_or positions i 0 ≡ i
position-is zero h = refl
position-is (suc zero) h = refl
position-is (suc (suc zero)) h = refl
position-is (suc (suc (suc i))) h = absurd (omega arith)

pub more-put : {n : ℕ} {s : Sums} {i : ℕ} {out out₁ out₂ : List ℕ} {a b : ℕ} → Gathered n s → i < 3 → PutsUpTo n s i out out₁ a → PutsFigure n s i out₁ a out₂ b
    → PutsUpTo n s (i + 1) out out₂ b
more-put {n} {s} {i} {out} {out₁} {out₂} {a} {b} G l p q =
    record {
      of = λ m h e. puts-more (figure_line m) 0 positions i l (p.of m h e) (puts-as (ap (figure_line m) (sym (position-is i l))) (q.of m h e));
      room = omega (arith, p.room, (q.of G.month G.holds G.count).next-is, figure-long G.month i);
    }

pub all-put : {n : ℕ} {s : Sums} {i : ℕ} {out out' : List ℕ} {r : ℕ} → 3 ≤ i → PutsUpTo n s i out out' r → PutsFigures n s out out' r
unfolding figure_lines
all-put {n} {s} {i} l p = record { of = λ m h e. puts-all (figure_line m) 0 positions i l (p.of m h e) }

-- the page, by what the month was read as
module _ (src : List ℕ) where
  pub page-refused : {k n : ℕ} → month_of src ≡ refused k n → page src ≡ refusal_line k n
  unfolding page
  page-refused e = ap (told refusal_line figure_lines) e

  read-month : {s : Sums} {n : ℕ} (R : Reached (month_of src) [] n s) → month_of src ≡ whole R.month
  unfolding judge
  read-month R = sym R.same

  pub page-none : {s : Sums} {n : ℕ} → Reached (month_of src) [] n s → n ≡ 0 → page src ≡ refusal_line 14 0
  unfolding page
  page-none R z = ap (told refusal_line figure_lines) (read-month R ∙ none-whole R.month (sym z ∙ R.count))
    where
      none-whole : (m : Month) → 0 ≡ length m → whole m ≡ refused 14 0
      none-whole [] e = refl
      none-whole (c ∷ m) e = absurd (omega arith)

  pub page-served : {s : Sums} {n : ℕ} (R : Reached (month_of src) [] n s) → (n ≡ 0 → ⊥) → figure_lines R.month ≡ page src
  unfolding page
  page-served R y = sym (ap (told refusal_line figure_lines) (read-month R ∙ some-whole R.month (λ e. y (R.count ∙ sym e))))
    where
      some-whole : (m : Month) → (0 ≡ length m → ⊥) → whole m ≡ collected m
      some-whole [] f = absurd (f refl)
      some-whole (c ∷ m) f = refl

-- a page in a buffer of zeros is the page as the program holds it
pub page-held : (b out : List ℕ) (n : ℕ) → Puts (page b) (replicate page_room 0) 0 out n → record { bytes = out; count = n } ≡ held b
unfolding held
page-held b out n p =
    let f = puts-filled page_room (page-fits b) p in
    λ i. record { bytes = f.0 i; count = f.1 i }
