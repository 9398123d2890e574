-- One line of a month: what is parsed is a line with three figures or none, its faults are told by the tests of the code, and what is judged after it.
-- Assumes nothing.
use mathlib.Core.Path.{◌≡◌, refl, sym, ◌∙◌, ap}
use mathlib.Core.Bool.{Bool, true, false, not, ◌&&◌, ◌||◌}
use mathlib.Core.List.{List, [], ◌∷◌, ◌++◌}
use mathlib.Core.Option.{Option, some, none}
use Prim.Native.Nat.{ℕ, zero, suc, ◌≤◌, ◌<◌}
use native.Mathlib.Omega.{arith}
use lib.Dec.{ltb, leb}
use lib.ListN.{length, take, replicate, length-append}
use borrow.Author.Tests.{leb-true, leb-false, lt-ltb, le-ltb, lt-leb, ne_eqb}
use Rattle.sheet.specs.Lists.{number, numbers_from}
use Rattle.sheet.specs.Lines.{Line, line, line_of}
use Rattle.sheet.specs.Sheet.{outside}
use Rattle.sheet.specs.Forms.{Forms, LineIs}
use Rattle.sheet.specs.declared.lines.Parsed.{Parsed}
use Rattle.std.specs.Prelude.{Some, None, Ok, Err}
use Rattle.sheet.specs.Refusals.{number_of}
use Rattle.sheet.specs.declared.refusal.Refusal.{Refusal}
use Rattle.sheet.specs.declared.refusal.Refusal.TheVariants.{Malformed}
use Rattle.costs.specs.Costs.{Cost}
use Rattle.costs.specs.Priced.{Within}
use Rattle.costs.specs.Computed.{at_most_b}
use Rattle.costs.specs.Laws.Figures.{at_most_b-true}
use Rattle.month.specs.Month.{kind_m, figure_digits, Month, refused, tests, fault, judge}
use Rattle.month.specs.declared.sums.Sums.{Sums}
use Rattle.month.specs.Inner.{most_figure, most_lines, kinds_of_month, WithCost, TakenIs}
use Rattle.month.proofs.Holding.{held_more}

-- the letter and the count of numbers of the one kind
pub month-forms : Forms kinds_of_month (77 ∷ []) (3 ∷ [])
month-forms = record { letters-are = refl; widths-are = refl; narrow = narrow }
  where
    narrow : (i : ℕ) → number (3 ∷ []) i ≤ 8
    narrow zero = omega arith
    narrow (suc i) = omega arith

-- what was parsed
take-three : (v : List ℕ) → 3 ≤ length v → take 3 v ≡ numbers_from 3 0 v
take-three [] h = absurd (omega arith)
take-three (x ∷ []) h = absurd (omega arith)
take-three (x ∷ y ∷ []) h = absurd (omega arith)
take-three (x ∷ y ∷ z ∷ v) h = refl

module _ {p : List ℕ} where
  pub parsed-none : LineIs figure_digits (77 ∷ []) (3 ∷ []) p None → line_of figure_digits kinds_of_month p ≡ none
  parsed-none L = sym (L.of kinds_of_month month-forms)

  pub parsed-some : {q : Parsed} → LineIs figure_digits (77 ∷ []) (3 ∷ []) p (Some q) → 3 ≤ length q.values
      → line_of figure_digits kinds_of_month p ≡ some (line kind_m (numbers_from 3 0 q.values))
  parsed-some {q} L h =
      let z : q.kind ≡ 0 = omega (arith, L.known q refl) in
      sym (L.of kinds_of_month month-forms) ∙ rw z (ap (λ (c : Cost). some (line kind_m c)) (take-three q.values h))

-- test 4 is that a figure is above the most
beyond-or : (x : ℕ) (u v : Bool) → u ≡ not v → (ltb x 0 || ltb most_figure x) || u ≡ not (leb x most_figure && v)
beyond-or x u v e = go (leb x most_figure) refl
  where
    go : (t : Bool) → leb x most_figure ≡ t → (ltb x 0 || ltb most_figure x) || u ≡ not (t && v)
    go true h = rw (le-ltb x 0 (omega arith), le-ltb most_figure x (leb-true x most_figure h)) e
    go false h = rw (le-ltb x 0 (omega arith), lt-ltb most_figure x (leb-false x most_figure h))

outside-is : (c : Cost) → length c ≡ 3 → outside 0 kind_m.limits c ≡ not (at_most_b c (replicate 3 most_figure))
outside-is [] e = absurd (omega arith)
outside-is (x ∷ []) e = absurd (omega arith)
outside-is (x ∷ y ∷ []) e = absurd (omega arith)
outside-is (x ∷ y ∷ z ∷ []) e = beyond-or x _ _ (beyond-or y _ _ (beyond-or z _ _ refl))
outside-is (x ∷ y ∷ z ∷ w ∷ c) e = absurd (omega arith)

-- the three answers of the tests after 2
module _ (m : Month) (c : Cost) (e : length c ≡ 3) where
  pub fault-range : at_most_b c (replicate 3 most_figure) ≡ false → fault m c ≡ 4
  unfolding fault tests
  fault-range b = rw (outside-is c e, b)

  pub fault-count : at_most_b c (replicate 3 most_figure) ≡ true → length m ≡ most_lines → fault m c ≡ 14
  unfolding fault tests
  fault-count b n = rw (outside-is c e, b, n)

  pub fault-none : at_most_b c (replicate 3 most_figure) ≡ true → length m < most_lines → fault m c ≡ 0
  unfolding fault tests
  fault-none b n = rw (outside-is c e, b, lt-leb most_lines (length m) n)

-- no figure above the most
pub within-most : (c : Cost) → at_most_b c (replicate 3 most_figure) ≡ true → Within most_figure c
within-most c b = record { every = λ i. omega (arith, (at_most_b-true c (replicate 3 most_figure) b).every i, three i) }
  where
    three : (i : ℕ) → number (replicate 3 most_figure) i ≤ most_figure
    three zero = omega arith
    three (suc zero) = omega arith
    three (suc (suc zero)) = omega arith
    three (suc (suc (suc i))) = omega arith

-- what is judged by a line
judge-fault : (m : Month) (l : Line) (rest : List (Option Line)) (f : ℕ) → fault m l.numbers ≡ f → (f ≡ 0 → ⊥) → judge m (some l ∷ rest) ≡ refused f (suc (length m))
unfolding judge
judge-fault m l rest f e z = rw (e, ne_eqb f 0 z)

judge-next : (m : Month) (l : Line) (rest : List (Option Line)) → fault m l.numbers ≡ 0 → judge m (some l ∷ rest) ≡ judge (m ++ (l.numbers ∷ [])) rest
unfolding judge
judge-next m l rest e = rw e

pub judge-bad : (m : Month) (rest : List (Option Line)) → judge m (none ∷ rest) ≡ refused 2 (suc (length m))
unfolding judge
judge-bad m rest = refl

-- the line refused, or taken
module _ {p : List ℕ} {n : ℕ} {s : Sums} where
  pub taken-bad : line_of figure_digits kinds_of_month p ≡ none → TakenIs p n s s (Err Malformed)
  taken-bad e =
      record { of = λ end rest R. sym R.same ∙ ap (λ (o : Option Line). judge R.month (o ∷ rest)) e ∙ judge-bad R.month rest ∙ ap (λ (k : ℕ). refused 2 (suc k)) (sym R.count) }

  module _ (c : Cost) (e : line_of figure_digits kinds_of_month p ≡ some (line kind_m c)) where
    pub taken-fault : (f : Refusal) → (number_of f ≡ 0 → ⊥) → ((m : Month) → n ≡ length m → fault m c ≡ number_of f) → TakenIs p n s s (Err f)
    taken-fault f z h =
        record {
          of = λ end rest R.
              sym R.same
              ∙ ap (λ (o : Option Line). judge R.month (o ∷ rest)) e
              ∙ judge-fault R.month (line kind_m c) rest (number_of f) (h R.month R.count) z
              ∙ ap (λ (k : ℕ). refused (number_of f) (suc k)) (sym R.count);
        }

    pub taken-added : {r : Sums} → n < most_lines → Within most_figure c → ((m : Month) → n ≡ length m → fault m c ≡ 0) → WithCost s c r → TakenIs p n s r (Ok tt)
    taken-added {r} l w h g =
        record {
          of = λ end rest R. record {
            month = R.month ++ (c ∷ []);
            holds = held_more R.month s r c (omega (arith, R.count)) w R.holds g;
            count = omega (arith, R.count, length-append R.month (c ∷ []));
            same = sym (judge-next R.month (line kind_m c) rest (h R.month R.count)) ∙ ap (λ (o : Option Line). judge R.month (o ∷ rest)) (sym e) ∙ R.same;
          };
        }
