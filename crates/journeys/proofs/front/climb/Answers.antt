-- `journeys::front::climb` meets its contract. Assumes nothing.
use Rattle.journeys.proofs.Climbing.{climbing-start, tested, climb-room, climb-led, climb-next, climb-stop, climb-end}
use Rattle.journeys.specs.declared.chain.Gap.{Gap}
use Rattle.arrivals.specs.Rows.{cost_at}
use Rattle.costs.specs.Costs.{Cost, fig}
use native.Mathlib.Omega.{arith}
use Prim.Native.Nat.{◌≤◌, ◌<◌}
use mathlib.Core.Path.{sym, subst}
use Rattle.journeys.proofs.front.climb.Goals as goal

pub row_cost-g-requires : goal.row_cost-g-requires
row_cost-g-requires c = c.requires.room

pub loop-gap-init : goal.loop-gap-init
loop-gap-init c = climbing-start _ _ _ _ _ c.start-gap.ensures

pub row_cost-h-requires : goal.row_cost-h-requires
row_cost-h-requires c = (climb-room c.requires c.loop-gap.invariant c.loop-gap-test.true).room

pub returns-then-at_most : goal.returns-then-at_most
returns-then-at_most c = climb-led c.requires c.loop-gap.invariant c.loop-gap-test.true (tested _ _ _ _ _ _ c.row_cost-h.ensures c.row_cost-g.ensures c.at_most.ensures c.if-at_most.true)

pub returns-then-g-h : goal.returns-then-g-h
returns-then-g-h c = climb-stop c.requires c.loop-gap.invariant c.loop-gap-test.true (tested _ _ _ _ _ _ c.row_cost-h.ensures c.row_cost-g.ensures c.at_most.ensures c.if-at_most.false)
    (subst (λ (g : Cost). fig g 2 ≤ fig (cost_at c.args.table.now c.loop-gap.gap.right) 2) c.row_cost-g.ensures (subst (λ (h : Cost). fig c.row_cost-g.result 2 ≤ fig h 2) c.row_cost-h.ensures c.if-g-h.true))

pub next_gap-gap-requires : goal.next_gap-gap-requires
next_gap-gap-requires c = (c.loop-gap-test.true, (climb-room c.requires c.loop-gap.invariant c.loop-gap-test.true).room)

pub loop-gap-smaller : goal.loop-gap-smaller
loop-gap-smaller c = subst (λ (g : Gap). g.rest < c.loop-gap.gap.rest) (sym c.next_gap-gap.ensures) (omega (arith, c.loop-gap-test.true))

pub loop-gap-preserved : goal.loop-gap-preserved
loop-gap-preserved c = rw c.next_gap-gap.ensures
    (climb-next c.requires c.loop-gap.invariant c.loop-gap-test.true (tested _ _ _ _ _ _ c.row_cost-h.ensures c.row_cost-g.ensures c.at_most.ensures c.if-at_most.false)
    (subst (λ (g : Cost). fig (cost_at c.args.table.now c.loop-gap.gap.right) 2 < fig g 2) c.row_cost-g.ensures (subst (λ (h : Cost). fig h 2 < fig c.row_cost-g.result 2) c.row_cost-h.ensures c.if-g-h.false)))

pub returns : goal.returns
returns c = climb-end c.requires c.loop-gap.invariant (omega (arith, c.loop-gap-test.false))
