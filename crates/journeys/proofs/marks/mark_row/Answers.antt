-- `journeys::marks::mark_row` meets its contract: where the row stands at step t is what it becomes by waiting until then; where it is marked past the
-- step after, what crosses to it then is marked, since that step is passed.
-- Assumes nothing.
use native.Mathlib.Omega.{arith}
use mathlib.Core.Path.{◌≡◌, sym, ◌∙◌, ap}
use mathlib.Core.Bool.{Bool, ◌&&◌}
use Prim.Native.Nat.{ℕ}
use lib.Dec.{leb, ltb}
use Rattle.std.proofs.Common.{nat_cmp}
use Rattle.std.specs.Ordering.{is_le}
use Rattle.journeys.proofs.Orders.{le-is}
use borrow.Author.Tests.{leb-true, ltb-true}
use Rattle.sheet.specs.Laws.Order.{and-true}
use Rattle.costs.specs.Costs.{Cost, add}
use Rattle.journeys.proofs.Waiting.{wait-within, wait-is}
use Rattle.journeys.proofs.Crossings.{row-off, row_on, row-enters, row-counted, waits-counted}
use Rattle.journeys.proofs.marks.mark_row.Goals as goal

-- the test of the steps, as the definitions say it
tested : (s t m : ℕ) {b d : Bool} → b ≡ is_le (nat_cmp s t) → b && ltb t m ≡ d → leb s t && ltb t m ≡ d
tested s t m e f = ap (λ (x : Bool). x && ltb t m) (sym (e ∙ le-is s t)) ∙ f

pub returns-then-not-le-t : goal.returns-then-not-le-t
returns-then-not-le-t c = row-off c.row_at-e.ensures c.mark_of-mark.ensures (tested _ _ _ c.le.ensures c.if-not-le-t.true)

pub overflow_sub-t : goal.overflow_sub-t
overflow_sub-t c = leb-true _ _ (and-true _ _ (tested _ _ _ c.le.ensures c.if-not-le-t.false)).0

pub multiple-requires : goal.multiple-requires
multiple-requires c = (omega (arith, c.requires.0.day), wait-within c.requires.0.rowed.derived.valid _ c.wait_at-wait.ensures)

pub sum-cost-requires : goal.sum-cost-requires
sum-cost-requires c = (row-counted c.requires.0.rowed c.requires.1 c.row_at-e.ensures, waits-counted (omega (arith, c.requires.0.day)) (wait-within c.requires.0.rowed.derived.valid _ c.wait_at-wait.ensures) c.multiple.ensures)

pub mark_into-requires : goal.mark_into-requires
mark_into-requires c =
    row-enters c.requires.0 c.requires.1 c.row_at-e.ensures c.mark_of-mark.ensures (tested _ _ _ c.le.ensures c.if-not-le-t.false) (wait-is _ c.row_at-e.result.place c.wait_at-wait.ensures) (c.sum-cost.ensures ∙ ap (λ (m : Cost). add c.row_at-e.result.cost m) c.multiple.ensures) (λ e. ltb-true _ _ e)

pub returns : goal.returns
returns c =
    row_on c.row_at-e.ensures c.mark_of-mark.ensures (tested _ _ _ c.le.ensures c.if-not-le-t.false) (wait-is _ c.row_at-e.result.place c.wait_at-wait.ensures) (c.sum-cost.ensures ∙ ap (λ (m : Cost). add c.row_at-e.result.cost m) c.multiple.ensures) c.mark_into.ensures
