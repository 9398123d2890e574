-- `arrivals::expand::from_rows` meets its contract: the rows of the span are gone through. Assumes nothing.
use mathlib.Core.Path.{◌∙◌, refl, subst, sym}
use Prim.Native.Nat.{◌<◌}
use native.Mathlib.Omega.{arith}
use borrow.Author.Rules.{rules}
use Rattle.arrivals.specs.Inner.Offering.{swept_none}
use Rattle.arrivals.specs.Inner.Rows.{Bounded, all-at}
use Rattle.arrivals.specs.Inner.Sweeps.{from_end, from_more, from-none, ready-kept, swept-refused, sweepable-kept}
use Rattle.arrivals.specs.Laws.Rows.{row_kept}
use Rattle.arrivals.specs.Rows.{Row}
use Rattle.arrivals.proofs.expand.from_rows.Goals as goal

pub loop-i-init : goal.loop-i-init
loop-i-init c = (omega arith, c.requires.2.order, refl, swept_none c.requires.0.room (from-none _ _ _ _ _))

pub reach_cost-g-requires : goal.reach_cost-g-requires
reach_cost-g-requires c = let inv = c.loop-i.invariant in let p = c.requires in let a = c.args in let r = ready-kept {ys = c.loop-i.table} inv.2 inv.3.below p.0.ready in let k = row_kept a.table.now c.loop-i.table c.loop-i.i (λ j l m. inv.3.below j (omega (arith, p.2.upto))) in (omega (arith, r.room, p.2.upto), r.steps, p.1, all-at Bounded c.loop-i.table a.a c.loop-i.i (omega (arith, p.2.upto)) r.bounded, subst (λ (q : Row). q.step < a.here.step.0) (sym k) (p.2.early c.loop-i.i inv.0 (omega arith)))

pub offer-requires : goal.offer-requires
offer-requires c = let inv = c.loop-i.invariant in sweepable-kept inv.2 inv.3 c.requires.0

pub returns-in_err-e : goal.returns-in_err-e
returns-in_err-e c = swept-refused _ c.from_residual.ensures.0 (λ j l. c.offer.ensures.below j l ∙ c.loop-i.invariant.3.below j l) (omega (arith, c.offer.ensures.room))

pub loop-i-preserved : goal.loop-i-preserved
loop-i-preserved c = let inv = c.loop-i.invariant in (omega arith, omega arith, search rules, from_more _ _ _ _ _ _ _ c.loop-i.i _ _ _ _ _ inv.0 (omega (arith, c.requires.2.upto)) c.reach_cost-g.ensures inv.3 c.in_ok-e.ensures)

pub shape_of-table : goal.shape_of-table
shape_of-table c = c.loop-i.invariant.2

pub returns : goal.returns
returns c = from_end _ _ _ _ _ _ c.loop-i.i _ _ _ c.loop-i.invariant.1 c.loop-i-test.false c.loop-i.invariant.3
