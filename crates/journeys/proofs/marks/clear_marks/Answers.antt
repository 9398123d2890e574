-- `journeys::marks::clear_marks` meets its contract. Assumes nothing.
use native.Mathlib.Omega.{arith}
use Rattle.journeys.proofs.Marking.{bared-none, bared-more, bared-all}
use Rattle.journeys.proofs.marks.clear_marks.Goals as goal

pub loop-k-init : goal.loop-k-init
loop-k-init c = (omega arith, bared-none)

pub overflow_mul-table : goal.overflow_mul-table
overflow_mul-table c = omega (arith, c.requires)

pub offset_bounds-table-k : goal.offset_bounds-table-k
offset_bounds-table-k c = omega (arith, c.requires)

pub bounds-table-k : goal.bounds-table-k
bounds-table-k c = omega (arith, c.requires, c.loop-k.invariant.1.size)

pub overflow_mul-table-in-loop-k : goal.overflow_mul-table-in-loop-k
overflow_mul-table-in-loop-k c = omega (arith, c.requires)

pub offset_bounds-table-k-in-loop-k : goal.offset_bounds-table-k-in-loop-k
offset_bounds-table-k-in-loop-k c = omega (arith, c.requires)

pub bounds-table-k-in-loop-k : goal.bounds-table-k-in-loop-k
bounds-table-k-in-loop-k c = omega (arith, c.requires, c.loop-k.invariant.1.size)

pub loop-k-preserved : goal.loop-k-preserved
loop-k-preserved c = (omega arith, bared-more (omega (arith, c.requires, c.loop-k.invariant.1.size)) c.loop-k.invariant.1)

pub shape_of-table : goal.shape_of-table
shape_of-table c = c.loop-k.invariant.1.size

pub returns : goal.returns
returns c = bared-all (omega arith) c.loop-k.invariant.1
