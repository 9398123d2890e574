-- `arrivals::by_lists::live_steps` meets its contract: the steps are filled in one after another, unless one gives up. Assumes nothing.
use mathlib.Core.Path.{refl}
use native.Mathlib.Omega.{arith}
use borrow.Author.Rules.{rules}
use Rattle.arrivals.specs.Inner.Due.{onward-all}
use Rattle.arrivals.specs.Inner.Filling.{filled-as, filled-last, result-done}
use Rattle.arrivals.specs.Inner.Lent.{given-linked}
use Rattle.arrivals.specs.Inner.Rows.{rows-kept}
use Rattle.arrivals.proofs.by_lists.live_steps.Goals as goal

pub loop-t-init : goal.loop-t-init
loop-t-init c = let p = c.requires in (omega arith, omega arith, p.0.room, refl, refl, p.0.filled, p.1, onward-all _ _ _ (given-linked p.0.given))

pub live_step-requires : goal.live_step-requires
live_step-requires c =
    let inv = c.loop-t.invariant in
    let p = c.requires in
    (record { given = p.0.given; inside = p.0.inside; first = inv.0; last = omega (arith, p.2); room = inv.2; filled = inv.5 }, inv.6, p.3, inv.7)

pub returns-in_default : goal.returns-in_default
returns-in_default c =
    let inv = c.loop-t.invariant in
    let b = c.live_step.ensures.below in
    (inv.0, record { upto = omega arith; room = omega (arith, inv.2, c.live_step.auto.table); filled = filled-as (rows-kept _ _ _ b) inv.5 })

pub loop-t-preserved : goal.loop-t-preserved
loop-t-preserved c =
    let r = c.in-Ok.ensures in
    let z = r.result refl in
    (omega arith, omega arith, z.room, search rules, search rules, z.done refl, r.sourcing refl, r.onward refl)

pub shape_of-table : goal.shape_of-table
shape_of-table c = c.loop-t.invariant.3

pub shape_of-live : goal.shape_of-live
shape_of-live c = c.loop-t.invariant.4

pub returns : goal.returns
returns c = let inv = c.loop-t.invariant in result-done _ _ _ _ _ inv.2 (filled-last _ _ _ _ inv.1 (omega arith) inv.5)
