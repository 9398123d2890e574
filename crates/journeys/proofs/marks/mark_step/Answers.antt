-- `journeys::marks::mark_step` meets its contract. Assumes nothing.
use mathlib.Core.Path.{ap}
use native.Mathlib.Omega.{arith}
use Rattle.arrivals.specs.Arrivals.{Arrival}
use Rattle.journeys.proofs.Marking.{same-stand, raised-start}
use Rattle.journeys.proofs.Crossings.{no-sooner, onto-more, onto-all, passable-kept}
use Rattle.journeys.proofs.marks.mark_step.Goals as goal

pub loop-k-init : goal.loop-k-init
loop-k-init c = (omega arith, raised-start)

pub overflow_mul-k : goal.overflow_mul-k
overflow_mul-k c = omega (arith, c.requires.rowed.rows.sorted.room)

pub bounds-table-k : goal.bounds-table-k
bounds-table-k c = omega (arith, c.requires.rowed.rows.sorted.room, c.loop-k.invariant.1.rows.size)

pub shape_of-table-then-t-table : goal.shape_of-table-then-t-table
shape_of-table-then-t-table c = c.loop-k.invariant.1.rows.size

pub returns-then-t-table : goal.returns-then-t-table
returns-then-t-table c =
    let l = c.loop-k in
    onto-all l.invariant.0 (λ j h m. omega (arith, no-sooner c.requires.rowed.rows.sorted l.k j h m, ap (λ (a : Arrival). a.step) (same-stand l.invariant.1.rows l.k))) l.invariant.1

pub mark_row-requires : goal.mark_row-requires
mark_row-requires c = (passable-kept c.loop-k.invariant.1 c.requires, omega arith)

pub loop-k-preserved : goal.loop-k-preserved
loop-k-preserved c = (omega arith, onto-more (omega arith) c.loop-k.invariant.1 c.mark_row.ensures)

pub shape_of-table : goal.shape_of-table
shape_of-table c = c.loop-k.invariant.1.rows.size

pub returns : goal.returns
returns c = onto-all c.loop-k.invariant.0 (λ j h m. omega arith) c.loop-k.invariant.1
