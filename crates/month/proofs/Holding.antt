-- The sums of a month, kept line by line: of no costs, and of one cost more.
-- Assumes nothing.
use mathlib.Core.Path.{◌≡◌, sym, ◌∙◌, ap}
use mathlib.Core.Logic.{⊎_elim}
use mathlib.Core.List.{List, [], ◌∷◌, ◌++◌}
use Prim.Native.Nat.{ℕ, ◌+◌, ◌≤◌, ◌<◌}
use native.Mathlib.Omega.{arith}
use lib.Dec.{leb}
use lib.ListN.{length, set, length-append}
use lib.Seq.{get_or-set_other}
use Rattle.sheet.specs.Laws.Members.{mem-append}
use Rattle.costs.specs.Costs.{Cost, figures, fig}
use Rattle.costs.specs.Priced.{Within}
use Rattle.costs.specs.Laws.Figures.{Stored, stored_more}
use Rattle.month.specs.Month.{Month, figures_at, total}
use Rattle.month.specs.declared.sums.Sums.{Sums}
use Rattle.month.specs.Inner.{most_figure, most_lines, most_total, better, best_from, above, Holds, Summed, WithCost}
use Rattle.month.specs.Laws.Page.{total-small}
use Rattle.month.specs.Laws.Figures.{by-least, by-greatest, best-more, total-more, figures-more}

-- what is stored by one rule is stored by another that says the same
stored-as : {f g : ℕ → ℕ} {r : List ℕ} → ((i : ℕ) → i < figures → f i ≡ g i) → Stored figures f figures r → Stored figures g figures r
stored-as e h = record { sized = h.sized; so_far = λ i l. h.so_far i l ∙ e i l }

-- one cost more
pub held_more : (m : Month) (s r : Sums) (c : Cost) → length m < most_lines → Within most_figure c → Holds m s → WithCost s c r → Holds (m ++ (c ∷ [])) r
held_more m s r c l w h g =
    record {
      few = omega (arith, length-append m (c ∷ []));
      inside = λ d p. ⊎_elim (h.inside d) (λ q. ⊎_elim (λ e. rw e w) (λ z. absurd z) q) (mem-append d m (c ∷ []) p);
      totals-are =
          stored-as
          (λ i p. ap (λ (k : ℕ). k + fig c i) (h.totals-are.so_far i p) ∙ sym (total-more (figures_at i m) (fig c i)) ∙ ap total (sym (figures-more i m c)))
          g.totals-are;
      leasts-are =
          stored-as
          (λ i p. ap (λ (k : ℕ). better leb k (fig c i)) (h.leasts-are.so_far i p) ∙ sym (best-more by-least most_figure (figures_at i m) (fig c i)) ∙ ap (best_from leb most_figure) (sym (figures-more i m c)))
          g.leasts-are;
      greatests-are =
          stored-as
          (λ i p. ap (λ (k : ℕ). better above k (fig c i)) (h.greatests-are.so_far i p) ∙ sym (best-more by-greatest 0 (figures_at i m) (fig c i)) ∙ ap (best_from above 0) (sym (figures-more i m c)))
          g.greatests-are;
    }

-- numbers of which the first i are stored anew and the rest are as they were
pub record Stepped (f : ℕ → ℕ) (old : List ℕ) (i : ℕ) (r : List ℕ) : Type 0 where
  pub stored : Stored figures f i r
  pub rest : (k : ℕ) → i ≤ k → fig r k ≡ fig old k

pub stepped-more : (f : ℕ → ℕ) (old : List ℕ) (i : ℕ) (r : List ℕ) (x : ℕ) → i < figures → x ≡ f i → Stepped f old i r → Stepped f old (i + 1) (set r i x)
stepped-more f old i r x l e h =
    record {
      stored = rw e (stored_more figures f i r l h.stored);
      rest = λ k g. get_or-set_other r i k x 0 (λ z. omega arith) ∙ h.rest k (omega arith);
    }

-- no total is above the most
pub summed-small : {s : Sums} → Summed s → (i : ℕ) → i < figures → fig s.totals i ≤ most_total
summed-small S i l = omega (arith, S.holds.totals-are.so_far i l, total-small i S.month S.holds.few S.holds.inside)
