-- `arrivals::lists::shift` meets its contract: cost after cost is moved down, and as `to` is not above `from`, each is still the old one when it is read.
-- Assumes nothing.
use native.Mathlib.Omega.{arith}
use Rattle.arrivals.proofs.Steps.{moved_none, moved_more, moved_all, shifted_none}
use Rattle.arrivals.proofs.lists.shift.Goals as goal

pub returns-then-from-to : goal.returns-then-from-to
returns-then-from-to c = shifted_none _ _ _ _ c.if-from-to.true

pub loop-i-init : goal.loop-i-init
loop-i-init c = (omega arith, moved_none _ _ _)

pub cost_from-c-requires : goal.cost_from-c-requires
cost_from-c-requires c = omega (arith, c.loop-i.invariant.1.others.size, c.requires.1, c.loop-i-test.true)

pub put_figures-requires : goal.put_figures-requires
put_figures-requires c = omega (arith, c.loop-i.invariant.1.others.size, c.requires, c.loop-i-test.true)

pub loop-i-preserved : goal.loop-i-preserved
loop-i-preserved c =
    (omega (arith, c.loop-i-test.true), moved_more c.requires.0 c.loop-i.invariant.1 c.cost_from-c.ensures c.put_figures.ensures)

pub shape_of-live : goal.shape_of-live
shape_of-live c = c.loop-i.invariant.1.others.size

pub returns : goal.returns
returns c = moved_all c.requires.0 c.loop-i.invariant.0 c.loop-i-test.false c.loop-i.invariant.1
