-- `arrivals::offers::beaten` meets its contract: a row of the group is nowhere above g, or none is. Assumes nothing.
use mathlib.Core.List.{List}
use mathlib.Core.Path.{subst, sym}
use Prim.Native.Nat.{ℕ}
use native.Mathlib.Omega.{arith}
use Rattle.sheet.specs.Laws.Decided.{fails, holds, no_of, yes_of}
use Rattle.costs.specs.Costs.{AtMost}
use Rattle.arrivals.specs.Inner.Facts.{at-most-decided}
use Rattle.arrivals.specs.Inner.Rows.{tail-any, tail_none, tail-none-end, tail-none-more}
use Rattle.arrivals.proofs.offers.beaten.Goals as goal

pub loop-i-init : goal.loop-i-init
loop-i-init c = (omega arith, tail_none _ _ _)

pub returns-then-at_most : goal.returns-then-at_most
returns-then-at_most c = holds (tail-any _ _ _ _ c.loop-i.i (omega arith) (subst (λ (x : List ℕ). AtMost x c.args.g) c.row_cost.ensures (yes_of (at-most-decided _ _ _ c.at_most.ensures) c.if-at_most.true)))

pub loop-i-preserved : goal.loop-i-preserved
loop-i-preserved c = (omega arith, tail-none-more _ _ _ _ c.loop-i.invariant.1 (λ p. no_of (at-most-decided _ _ _ c.at_most.ensures) c.if-at_most.false (subst (λ (x : List ℕ). AtMost x c.args.g) (sym c.row_cost.ensures) p)))

pub returns : goal.returns
returns c = fails (tail-none-end _ _ _ _ _ c.loop-i.invariant.0 c.loop-i-test.false c.loop-i.invariant.1)
