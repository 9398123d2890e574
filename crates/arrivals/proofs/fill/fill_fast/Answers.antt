-- `arrivals::fill::fill_fast` meets its contract: every cost of entering is offered, or, where the room ran out on the way, chosen.
-- Assumes nothing.
use mathlib.Core.Path.{sym, subst}
use native.Mathlib.Omega.{arith}
use borrow.Author.Rules.{rules}
use Rattle.arrivals.specs.Inner.Filling.{visiting-kept, visiting-reach, visiting-stands}
use Rattle.arrivals.specs.Inner.Gather.{grown-base, swept-filled}
use Rattle.arrivals.specs.Inner.Index.{Covers}
use Rattle.arrivals.proofs.fill.fill_fast.Goals as goal

pub first_step-requires : goal.first_step-requires
first_step-requires c = let p = c.requires.visiting in (omega (arith, p.inside, p.given.places), p.last, p.given.intervals)

pub wait_of-requires : goal.wait_of-requires
wait_of-requires c = let p = c.requires.visiting in (omega (arith, p.inside, p.given.places), p.given.size)

pub from_links-requires : goal.from_links-requires
from_links-requires c = let p = c.requires in let a = visiting-reach _ p.visiting (visiting-stands _ p.visiting p.vacant c.first_step.ensures c.wait_of.ensures) in (a, record { room = omega (arith, p.visiting.room); ready = a.ready; indexed = p.indexed; covers = subst (Covers _ _ _ _ _) (sym c.wait_of.ensures) (p.covered _ a.ready.inside) }, p.covered)

pub returns-in-Ok : goal.returns-in-Ok
returns-in-Ok c = let p = c.requires in swept-filled _ _ _ _ _ _ p.visiting.given.legal (visiting-stands _ p.visiting p.vacant c.first_step.ensures c.wait_of.ensures) p.visiting.filled c.in-Ok.ensures

pub fill_place-requires : goal.fill_place-requires
fill_place-requires c = let p = c.requires in (visiting-kept (search rules) c.from_links.ensures.below p.visiting, visiting-stands _ p.visiting p.vacant c.first_step.ensures c.wait_of.ensures)

pub returns : goal.returns
returns c = record { result = c.fill_place.ensures.result; grown = grown-base _ _ _ _ _ _ _ c.from_links.ensures.below c.fill_place.ensures.grown }
