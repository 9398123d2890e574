-- How long a page can be, and how large a total: no page is longer than the room that the program has for it, and 4,096 figures have at most the total of
-- 4,096 of the greatest.
use Rattle.std.specs.Prelude.{◌≡◌, List, [], ◌∷◌, ℕ, suc, ◌*◌, ◌≤◌, length}
use Rattle.std.proofs.Common.{sym, subst, arith, mul-le-mul_right}
use Rattle.sheet.specs.Lists.{number, ◌∈◌}
use Rattle.sheet.specs.Text.{refusal_line}
use Rattle.sheet.specs.Laws.Stores.{length-filled}
use Rattle.sheet.specs.Laws.Printed.{bind-long, printed-most, refusal-long}
use Rattle.costs.specs.Costs.{Cost}
use Rattle.costs.specs.Priced.{Within}
use Rattle.month.specs.Month.{Month, Outcome, refused, collected, told, month_of, figures_at, total, least, greatest, mean, total_digits, figure_line, figure_lines, page, page_room, held}
use Rattle.month.specs.Inner.{most_figure, most_lines, most_total}
use Rattle.month.specs.Laws.Figures.{total-most, figures-count, figures-within}
use Rattle.sheet.specs.declared.printed.Printed.{Printed}

-- the line of a figure, the lines of all, and any page
pub figure-long : (m : Month) (i : ℕ) → length (figure_line m i) ≤ 62
unfolding figure_line
figure-long m i =
    let ns = figures_at i m in
    printed-most total_digits 65 (suc i ∷ total ns ∷ least ns ∷ greatest ns ∷ mean (total ns) (length ns) ∷ [])

lines_long : (m : Month) → length (figure_lines m) ≤ page_room
unfolding figure_lines
lines_long m = omega (arith, bind-long (figure_line m) 62 0 (0 ∷ 1 ∷ 2 ∷ []) (λ i k. figure-long m (number (0 ∷ 1 ∷ 2 ∷ []) i)))

pub page-fits : (b : List ℕ) → length (page b) ≤ page_room
unfolding page
page-fits b = go (month_of b)
  where
    go : (o : Outcome) → length (told refusal_line figure_lines o) ≤ page_room
    go (refused k n) = omega (arith, refusal-long k n)
    go (collected m) = lines_long m

-- the page that the program holds lies within its bytes
pub held-within : (b : List ℕ) (r : Printed page_room) → r ≡ held b → r.count ≤ length r.bytes
unfolding held
held-within b r e = subst (λ (x : Printed page_room). x.count ≤ length x.bytes) (sym e) (omega (arith, page-fits b, length-filled page_room (page b) (page-fits b)))

-- the total of at most 4,096 figures, none above the most, has no more digits than are printed
pub total-small : (i : ℕ) (m : Month) → length m ≤ most_lines → ((c : Cost) → c ∈ m → Within most_figure c) → total (figures_at i m) ≤ most_total
total-small i m l h =
    let a : length m * most_figure ≤ most_lines * most_figure = mul-le-mul_right most_figure l in
    omega (arith, total-most most_figure (figures_at i m) (figures-within most_figure i m h), figures-count i m)
