-- `arrivals::fill::fill_slow` meets its contract: the rows are chosen one after another.
-- Assumes nothing.
use native.Mathlib.Omega.{arith}
use Rattle.arrivals.specs.Inner.Filling.{visiting-stands}
use Rattle.arrivals.proofs.fill.fill_slow.Goals as goal

pub first_step-requires : goal.first_step-requires
first_step-requires c = let p = c.requires.0 in (omega (arith, p.inside, p.given.places), p.last, p.given.intervals)

pub wait_of-requires : goal.wait_of-requires
wait_of-requires c = let p = c.requires.0 in (omega (arith, p.inside, p.given.places), p.given.size)

pub fill_place-requires : goal.fill_place-requires
fill_place-requires c = (c.requires.0, visiting-stands _ c.requires.0 c.requires.1 c.first_step.ensures c.wait_of.ensures)

pub returns : goal.returns
returns c = c.fill_place.ensures
