-- `page::offers::put_journey` meets its contract: the row says the cost and the arrival step, the journey is laid into the path buffer from them, and
-- the two lines are written one after the other.
-- Assumes nothing.
use mathlib.Core.Path.{refl, sym}
use native.Mathlib.Omega.{arith}
use lib.Seq.{length-take-le}
use Rattle.page.specs.Laws.Offers.{printable-row, printable-short, printable-lays, printable-path}
use Rattle.page.proofs.Printing.{first_fits, second_fits, prints}
use Rattle.page.proofs.offers.put_journey.Goals as goal

pub bounds-row-3 : goal.bounds-row-3
bounds-row-3 c = omega (arith, printable-row c.requires)

pub cost_from-cost-requires : goal.cost_from-cost-requires
cost_from-cost-requires c = omega (arith, printable-row c.requires)

pub lay_path-requires : goal.lay_path-requires
lay_path-requires c = printable-lays c.requires _ c.cost_from-cost.ensures _ refl

pub put_row-next-requires : goal.put_row-next-requires
put_row-next-requires c = first_fits c.requires

pub overflow_cast-e : goal.overflow_cast-e
overflow_cast-e c = omega (arith, printable-short c.requires)

pub overflow_add-e : goal.overflow_add-e
overflow_add-e c = omega (arith, printable-short c.requires)

pub slice_bounds-path-end : goal.slice_bounds-path-end
slice_bounds-path-end c = omega (arith, printable-short c.requires, printable-path c.requires _ c.cost_from-cost.ensures _ c.lay_path.ensures.1)

pub slice_bounds-put_row-end : goal.slice_bounds-put_row-end
slice_bounds-put_row-end c = sym (length-take-le _ _ (omega (arith, printable-short c.requires, printable-path c.requires _ c.cost_from-cost.ensures _ c.lay_path.ensures.1)))

pub put_row-requires : goal.put_row-requires
put_row-requires c = second_fits c.requires _ c.cost_from-cost.ensures _ c.lay_path.ensures.1 c.put_row-next.ensures

pub returns : goal.returns
returns c = (c.lay_path.ensures.0, prints c.requires _ c.cost_from-cost.ensures _ c.lay_path.ensures.1 c.put_row-next.ensures c.put_row.ensures)
