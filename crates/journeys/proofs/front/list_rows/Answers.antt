-- `journeys::front::list_rows` meets its contract. Assumes nothing.
use Rattle.journeys.proofs.Listing.{listable-next}
use native.Mathlib.Omega.{arith}
use mathlib.Core.Path.{refl, ◌∙◌}
use Rattle.journeys.proofs.front.list_rows.Goals as goal

pub loop-s-init : goal.loop-s-init
loop-s-init c = (refl, refl, c.requires, record { of = λ base fs p l. (p, l) })

pub list_row-s-requires : goal.list_row-s-requires
list_row-s-requires c = (c.loop-s-test.true, c.loop-s.invariant.2)

pub loop-s-smaller : goal.loop-s-smaller
loop-s-smaller c = omega (arith, c.list_row-s.ensures.less)

pub loop-s-preserved : goal.loop-s-preserved
loop-s-preserved c = let q = c.list_row-s.ensures in
    (c.list_row-s.auto.table ∙ c.loop-s.invariant.0, c.list_row-s.auto.list ∙ c.loop-s.invariant.1, listable-next c.loop-s.invariant.2 q.on, record { of = λ base fs p l. (let w = c.loop-s.invariant.3.of base fs p l in q.on.of base fs w.0 w.1) })

pub shape_of-table : goal.shape_of-table
shape_of-table c = c.loop-s.invariant.0

pub shape_of-list : goal.shape_of-list
shape_of-list c = c.loop-s.invariant.1

pub returns : goal.returns
returns c = record { on = c.loop-s.invariant.3; end = omega (arith, c.loop-s-test.false) }
