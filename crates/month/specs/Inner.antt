-- What the functions that read a month and print its page promise each other. The contract of `page_of` cites nothing of this file.
use Rattle.std.specs.Prelude.{◌≡◌, Bool, List, [], ◌∷◌, ℕ, suc, ◌+◌, ◌*◌, ◌≤◌, ◌<◌, leb, length, drop, Option as Found, Some, None, Result, Ok, Err}
use Rattle.std.proofs.Math.Option.{Option}
use Rattle.sheet.specs.Lists.{pick, ◌∈◌}
use Rattle.sheet.specs.Kinds.{Kind}
use Rattle.sheet.specs.Lines.{Line, line_of, text_lines}
use Rattle.sheet.specs.Laws.Puts.{Puts}
use Rattle.costs.specs.Costs.{Cost, figures, fig}
use Rattle.costs.specs.Priced.{Within}
use Rattle.costs.specs.Laws.Figures.{Stored}
use Rattle.month.specs.Month.{kind_m, figure_digits, Month, Outcome, refused, judge, month_of, figures_at, total, figure_line, figure_lines}
use Rattle.sheet.specs.Refusals.{number_of}
use Rattle.sheet.specs.declared.refusal.Refusal.{Refusal}
use Rattle.sheet.specs.declared.refusal.Refused.{Refused}
use Rattle.month.specs.declared.sums.Sums.{Sums}

abbrev pub most_figure : ℕ
most_figure = 15300000

abbrev pub most_lines : ℕ
most_lines = 4096

abbrev pub most_total : ℕ
most_total = 4096 * 15300000

-- of two numbers the one that the test puts first, and of k and the numbers
abbrev pub better : (ℕ → ℕ → Bool) → ℕ → ℕ → ℕ
better t a b = pick (t a b) a b

abbrev pub best_from : (ℕ → ℕ → Bool) → ℕ → List ℕ → ℕ
best_from t k [] = k
best_from t k (n ∷ ns) = better t n (best_from t k ns)

abbrev pub above : ℕ → ℕ → Bool
above a b = leb b a

-- s has the sums of the costs of a month; the least begins with the most of a figure
pub record Holds (m : Month) (s : Sums) : Type 0 where
  pub few : length m ≤ most_lines
  pub inside : (c : Cost) → c ∈ m → Within most_figure c
  pub totals-are : Stored figures (λ i. total (figures_at i m)) figures s.totals
  pub leasts-are : Stored figures (λ i. best_from leb most_figure (figures_at i m)) figures s.leasts
  pub greatests-are : Stored figures (λ i. best_from above 0 (figures_at i m)) figures s.greatests

pub record Summed (s : Sums) : Type 0 where
  pub month : Month
  pub holds : Holds month s

-- the same, of n costs
pub record Gathered (n : ℕ) (s : Sums) : Type 0 where
  pub month : Month
  pub holds : Holds month s
  pub count : n ≡ length month

-- r has each figure of c besides those that s has
pub record WithCost (s : Sums) (c : Cost) (r : Sums) : Type 0 where
  pub totals-are : Stored figures (λ i. fig s.totals i + fig c i) figures r.totals
  pub leasts-are : Stored figures (λ i. better leb (fig s.leasts i) (fig c i)) figures r.leasts
  pub greatests-are : Stored figures (λ i. better above (fig s.greatests i) (fig c i)) figures r.greatests

-- s has the sums of n lines after which the lines `todo` are judged as `end`
pub record Reached (end : Outcome) (todo : List (Option Line)) (n : ℕ) (s : Sums) : Type 0 where
  pub month : Month
  pub holds : Holds month s
  pub count : n ≡ length month
  pub same : judge month todo ≡ end

-- the line after n lines is refused as `end` says, or taken: s has the sums with it
abbrev pub Went : Outcome → List (Option Line) → ℕ → Result (Unit {0}) Refusal → Sums → Type 0
Went end rest n (Ok a) s = Reached end rest (n + 1) s
Went end rest n (Err e) s = end ≡ refused (number_of e) (suc n)

abbrev pub kinds_of_month : List Kind
kinds_of_month = kind_m ∷ []

-- t tells what became of the line with the bytes p, whatever comes after it
pub record TakenIs (p : List ℕ) (n : ℕ) (s r : Sums) (t : Result (Unit {0}) Refusal) : Type 0 where
  pub of : (end : Outcome) (rest : List (Option Line)) → Reached end (line_of figure_digits kinds_of_month p ∷ rest) n s → Went end rest n t r

-- the lines left of a month's bytes from `at` on
abbrev pub left : List ℕ → ℕ → List (Option Line)
left src at = text_lines figure_digits kinds_of_month (drop at src)

-- the line from some position on, after n lines, is refused as `end` says, or taken up to the position a; or nothing is left
abbrev pub WentOn : Outcome → List ℕ → ℕ → Result (Found ℕ) Refusal → Sums → Type 0
WentOn end src n (Ok (Some a)) s = Reached end (left src a) (n + 1) s
WentOn end src n (Ok None) s = Reached end [] n s
WentOn end src n (Err e) s = end ≡ refused (number_of e) (suc n)

-- a position further on in the bytes
abbrev pub Further : List ℕ → ℕ → Result (Found ℕ) Refusal → Type 0
Further src at (Ok (Some a)) = (at < a) × (a ≤ length src)
Further src at (Ok None) = Unit {0}
Further src at (Err e) = Unit {0}

-- t tells what became of the line from `at` on
pub record NextIs (src : List ℕ) (at n : ℕ) (s r : Sums) (t : Result (Found ℕ) Refusal) : Type 0 where
  pub of : (end : Outcome) → Reached end (left src at) n s → WentOn end src n t r
  pub further : Further src at t

-- v tells what the month was read as
abbrev pub ReadIs : List ℕ → Sums → Result ℕ Refused → Type 0
ReadIs src s (Ok n) = Reached (month_of src) [] n s
ReadIs src s (Err r) = month_of src ≡ refused (number_of r.refusal) r.line

-- the line of the figure at position i was written, of any costs that s has the sums of; and the lines of all
pub record PutsFigure (n : ℕ) (s : Sums) (i : ℕ) (out : List ℕ) (at : ℕ) (out' : List ℕ) (r : ℕ) : Type 0 where
  pub of : (m : Month) → Holds m s → n ≡ length m → Puts (figure_line m i) out at out' r

pub record PutsFigures (n : ℕ) (s : Sums) (out out' : List ℕ) (r : ℕ) : Type 0 where
  pub of : (m : Month) → Holds m s → n ≡ length m → Puts (figure_lines m) out 0 out' r
