-- `arrivals::offers::thin_row` meets its contract: the row is dropped or kept, as the test says; where all before it
-- were kept, it stays where it is.
-- Assumes nothing.
use mathlib.Core.List.{List}
use mathlib.Core.Path.{subst, sym}
use Prim.Native.Nat.{ℕ}
use Rattle.sheet.specs.Laws.Decided.{no_of, yes_of}
use Rattle.costs.specs.Costs.{AtMost}
use Rattle.arrivals.specs.Inner.Facts.{at-most-decided}
use Rattle.arrivals.specs.Inner.Offering.{thinned-drop, thinned-keep, thinned-stay}
use Rattle.arrivals.proofs.offers.thin_row.Goals as goal

pub returns-then-at_most : goal.returns-then-at_most
returns-then-at_most c = thinned-drop _ _ _ _ _ (subst (λ (x : List ℕ). AtMost c.args.g x) c.row_cost.ensures (yes_of (at-most-decided _ _ _ c.at_most.ensures) c.if-at_most.true))

pub returns-then-k-i : goal.returns-then-k-i
returns-then-k-i c = thinned-stay _ _ _ _ _ c.if-k-i.true (λ p. no_of (at-most-decided _ _ _ c.at_most.ensures) c.if-at_most.false (subst (λ (x : List ℕ). AtMost c.args.g x) (sym c.row_cost.ensures) p))

pub returns : goal.returns
returns c = thinned-keep _ _ _ _ _ _ c.requires.1 (λ p. no_of (at-most-decided _ _ _ c.at_most.ensures) c.if-at_most.false (subst (λ (x : List ℕ). AtMost c.args.g x) (sym c.row_cost.ensures) p)) c.move_row.ensures
