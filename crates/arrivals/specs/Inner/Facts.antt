-- Facts about tests, costs and their order that the search leans on.
use Rattle.std.specs.Prelude.{◌≡◌, Bool, List, ℕ, ◌≤◌}
use Rattle.std.proofs.Common.{sym, ap, ◌∙◌, subst, ⊎_elim, arith}
use Rattle.sheet.specs.Lists.{Lex}
use Rattle.sheet.specs.Laws.Order.{Lex-trans}
use Rattle.sheet.specs.Laws.Decided.{Decided, decided-by}
use Rattle.costs.specs.Costs.{Cost, fig, AtMost}
use Rattle.costs.specs.Priced.{Within}
use Rattle.costs.specs.Computed.{at_most_b}
use Rattle.costs.specs.Laws.Figures.{at_most_b-true, at-most-at_most_b, Lex-compared}

pub at-most-decided : (a b : Cost) (r : Bool) → r ≡ at_most_b a b → Decided (AtMost a b) r
at-most-decided a b r e = decided-by r (λ t. at_most_b-true a b (sym e ∙ t)) (λ l. e ∙ at-most-at_most_b a b l)

-- the ascending order of costs
pub not-Lex-trans : (a b d : List ℕ) → (Lex a b → ⊥) → (Lex b d → ⊥) → Lex a d → ⊥
not-Lex-trans a b d f g p =
    ⊎_elim (λ e. g (subst (λ (x : List ℕ). Lex x d) e p)) (λ o. ⊎_elim f (λ l. g (Lex-trans b a d l p)) o) (Lex-compared a b)

-- bounds on every figure
pub within_of : {g h : Cost} (m n : ℕ) → g ≡ h → m ≤ n → Within m h → Within n g
within_of m n e le w = record { every = λ i. omega (arith, w.every i, ap (λ (x : Cost). fig x i) e) }
