-- `arrivals::offers::precedes` meets its contract: the order of g and the last row's cost, where there is a row.
-- Assumes nothing.
use mathlib.Core.List.{List}
use mathlib.Core.Path.{subst, sym}
use Prim.Native.Nat.{ℕ}
use native.Mathlib.Omega.{arith}
use Rattle.sheet.specs.Laws.Decided.{decided-as, fails, lex-decided}
use Rattle.sheet.specs.Lists.{Lex}
use Rattle.arrivals.proofs.offers.precedes.Goals as goal

pub returns-then-k-eq0 : goal.returns-then-k-eq0
returns-then-k-eq0 c = fails (λ p. omega (arith, p.0))

pub returns : goal.returns
returns c = decided-as (λ p. (omega arith, subst (λ (x : List ℕ). Lex c.args.g x) c.row_cost.ensures p)) (λ p. subst (λ (x : List ℕ). Lex c.args.g x) (sym c.row_cost.ensures) p.1) (lex-decided c.args.g c.row_cost.result _ c.before-2.ensures)
