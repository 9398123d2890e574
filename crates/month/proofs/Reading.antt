-- The lines of a month one after another: by where the line from a position on ends it is over, cut or taken, and what is left is judged as the whole.
-- Assumes nothing.
use mathlib.Core.Path.{◌≡◌, refl, sym, ◌∙◌, ap, ap₂, subst}
use mathlib.Core.List.{List, [], ◌∷◌}
use mathlib.Core.Option.{Option}
use Prim.Native.Nat.{ℕ, suc, ◌+◌, ◌-◌}
use native.Mathlib.Omega.{arith}
use lib.ListN.{length, take, drop}
use Rattle.std.specs.Prelude.{Ok, Err, Some}
use Rattle.sheet.specs.Refusals.{number_of}
use Rattle.sheet.specs.declared.refusal.Refusal.{Refusal}
use Rattle.sheet.specs.Lines.{Line, text_lines}
use Rattle.sheet.specs.LineEnds.{EndIs}
use Rattle.sheet.specs.Laws.LineEnding.{end-inside}
use Rattle.month.specs.Month.{figure_digits, Month, Outcome, refused, judge, month_of}
use Rattle.month.specs.declared.sums.Sums.{Sums}
use Rattle.month.specs.Inner.{kinds_of_month, Gathered, Reached, TakenIs, left, NextIs}
use Rattle.month.proofs.Taking.{judge-bad}

-- the same lines, said in another way
reached-as : {end : Outcome} {todo other : List (Option Line)} {n : ℕ} {s : Sums} → todo ≡ other → Reached end todo n s → Reached end other n s
reached-as {end} {todo} {other} {n} {s} e R = subst (λ (l : List (Option Line)). Reached end l n s) e R

module _ {src : List ℕ} {at n : ℕ} {s : Sums} where
  pub next-cut : (f : Refusal) → EndIs src at (Err f) → NextIs src at n s s (Err f)
  next-cut f E =
      record {
        of = λ end R.
            sym R.same
            ∙ ap (judge R.month) (E.lines figure_digits kinds_of_month)
            ∙ judge-bad R.month []
            ∙ ap₂ (λ (k l : ℕ). refused k (suc l)) (sym (ap number_of (end-inside src at (Err f) E.found).1)) (sym R.count);
        further = tt;
      }

  module _ (e : ℕ) {r : Sums} (E : EndIs src at (Ok (Some e))) where
    pub next-refused : (f : Refusal) → TakenIs (take (e - at) (drop at src)) n s r (Err f) → NextIs src at n s r (Err f)
    next-refused f T = record { of = λ end R. T.of end (left src (e + 1)) (reached-as (E.lines figure_digits kinds_of_month) R); further = tt }

    pub next-line : TakenIs (take (e - at) (drop at src)) n s r (Ok tt) → NextIs src at n s r (Ok (Some (e + 1)))
    next-line T =
        record {
          of = λ end R. T.of end (left src (e + 1)) (reached-as (E.lines figure_digits kinds_of_month) R);
          further = let i = end-inside src at (Ok (Some e)) E.found in (omega (arith, i.0), omega (arith, i.1));
        }

-- all lines, from the first on
no-month : (m : Month) → 0 ≡ length m → m ≡ []
no-month [] e = refl
no-month (c ∷ m) e = absurd (omega arith)

pub read-begun : (src : List ℕ) {s : Sums} → Gathered 0 s → Reached (month_of src) (left src 0) 0 s
unfolding month_of
read-begun src G =
    record {
      month = G.month;
      holds = G.holds;
      count = G.count;
      same = ap (λ (m : Month). judge m (text_lines figure_digits kinds_of_month src)) (no-month G.month G.count);
    }
