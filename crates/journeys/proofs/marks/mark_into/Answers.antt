-- `journeys::marks::mark_into` meets its contract. Assumes nothing.
use native.Mathlib.Omega.{arith}
use Rattle.journeys.proofs.Marking.{raised-start}
use Rattle.journeys.proofs.Crossings.{cross-more, cross-all, enterable-kept}
use Rattle.journeys.proofs.marks.mark_into.Goals as goal

pub loop-l-init : goal.loop-l-init
loop-l-init c = (omega arith, c.count-count.ensures.counted, raised-start)

pub mark_over-requires : goal.mark_over-requires
mark_over-requires c = (enterable-kept c.loop-l.invariant.2 c.requires, omega (arith, c.loop-l.invariant.1))

pub overflow_step-l : goal.overflow_step-l
overflow_step-l c = omega (arith, c.loop-l.invariant.1, c.requires.rowed.derived.valid.most-corridors)

pub loop-l-preserved : goal.loop-l-preserved
loop-l-preserved c = (omega arith, c.loop-l.invariant.1, cross-more c.loop-l.invariant.2 c.mark_over.ensures)

pub shape_of-table : goal.shape_of-table
shape_of-table c = c.loop-l.invariant.2.rows.size

pub returns : goal.returns
returns c = cross-all (omega (arith, c.loop-l.invariant.1)) c.loop-l.invariant.2
