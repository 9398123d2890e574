-- `arrivals::by_lists::visit_live` meets its contract: every cost of entering is offered, the live costs of the place showing what older rows lead; then the new
-- rows are added to those costs.
-- Assumes nothing.
use mathlib.Core.Path.{refl}
use native.Mathlib.Omega.{arith}
use Rattle.arrivals.specs.Inner.Filling.{visiting-reach, visiting-stands}
use Rattle.arrivals.specs.Inner.Gather.{fresh-of, swept-filled}
use Rattle.arrivals.specs.Inner.Standing.{live-refused, shows-own, visited-modest, visited-new, visited-none}
use Rattle.arrivals.proofs.by_lists.visit_live.Goals as goal

pub first_step-requires : goal.first_step-requires
first_step-requires c = let p = c.requires.0 in (omega (arith, p.inside, p.given.places), p.last, p.given.intervals)

pub wait_of-requires : goal.wait_of-requires
wait_of-requires c = let p = c.requires.0 in (omega (arith, p.inside, p.given.places), p.given.size)

pub own_of-own-requires : goal.own_of-own-requires
own_of-own-requires c = let p = c.requires in (omega (arith, p.0.inside, p.0.given.places), omega (arith, p.2.sourcing.size))

pub over_links-requires : goal.over_links-requires
over_links-requires c =
    let p = c.requires in
    let st = visiting-stands _ p.0 p.1 c.first_step.ensures c.wait_of.ensures in
    (visiting-reach _ p.0 st, shows-own _ _ p.0.given st p.2.sourcing (fresh-of _ _ _ _ _ p.0.filled) c.own_of-own.ensures, p.2)

pub returns-in_err-d : goal.returns-in_err-d
returns-in_err-d c = live-refused _ c.from_residual.ensures.0 refl c.over_links.ensures.below

pub returns-then-d-eq0 : goal.returns-then-d-eq0
returns-then-d-eq0 c =
    let p = c.requires in
    let st = visiting-stands _ p.0 p.1 c.first_step.ensures c.wait_of.ensures in
    visited-none c.if-d-eq0.true (swept-filled _ _ _ _ _ _ p.0.given.legal st p.0.filled c.in_ok-d.ensures)

pub add_new-requires : goal.add_new-requires
add_new-requires c =
    let p = c.requires in
    let st = visiting-stands _ p.0 p.1 c.first_step.ensures c.wait_of.ensures in
    let r = visiting-reach _ p.0 st in
    let w = swept-filled _ _ _ _ _ _ p.0.given.legal st p.0.filled c.in_ok-d.ensures in
    (c.in_ok-d.ensures.room, r.ready.inside, r.ready.steps, r.ready.waits, visited-modest p.0.last w, omega (arith, p.2.sourcing.size, p.0.inside), (p.2.sourcing.lists _ p.0.inside).few)

pub returns : goal.returns
returns c =
    let p = c.requires in
    let st = visiting-stands _ p.0 p.1 c.first_step.ensures c.wait_of.ensures in
    visited-new _ _ (visiting-reach _ p.0 st).ready.inside c.wait_of.ensures
    (swept-filled _ _ _ _ _ _ p.0.given.legal st p.0.filled c.in_ok-d.ensures) c.in_ok-add_new.ensures

pub returns-in_err-add_new : goal.returns-in_err-add_new
returns-in_err-add_new c = live-refused _ c.from_residual-in_err-add_new.ensures.0 c.in_err-add_new.ensures.size c.over_links.ensures.below
