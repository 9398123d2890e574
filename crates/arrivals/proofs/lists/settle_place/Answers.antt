-- `arrivals::lists::settle_place` meets its contract: where the old costs of the place count no more, the new ones are moved down over them; else those that
-- no new one undercuts are kept, and the new ones are moved down behind them.
-- Assumes nothing.
use Rattle.std.proofs.Common.{arith, refl}
use Rattle.arrivals.specs.Inner.Settled.{settled-anew, settled_on}
use Rattle.arrivals.proofs.lists.settle_place.Goals as goal

pub returns-then-live-v : goal.returns-then-live-v
returns-then-live-v c =
    let p = c.requires in
    settled-anew p.0 p.3 c.list_at-at.ensures refl (omega (arith, p.3.order))
    (omega (arith, c.first_step-since.ensures, c.if-live-v.true)) c.shift.ensures c.head.ensures

pub returns : goal.returns
returns c =
    let p = c.requires in
    settled_on p.0 p.3 c.list_at-at.ensures refl (omega (arith, p.3.order))
    (omega (arith, c.first_step-since.ensures, c.if-live-v.false)) c.retain-k.ensures c.shift-2.ensures c.head-2.ensures
