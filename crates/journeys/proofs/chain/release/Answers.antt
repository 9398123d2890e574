-- `journeys::chain::release` meets its contract. Assumes nothing.
use Rattle.journeys.proofs.Chains.{after-room, gone-none, gone-next}
use Rattle.journeys.specs.declared.chain.Gap.{Gap}
use Rattle.costs.specs.Costs.{Cost, fig}
use native.Mathlib.Omega.{arith}
use Prim.Native.Nat.{◌<◌, ◌≤◌}
use mathlib.Core.Path.{sym, subst}
use Rattle.journeys.proofs.chain.release.Goals as goal

pub loop-at-init : goal.loop-at-init
loop-at-init c = (c.requires, gone-none _ _ _ _)

pub row_cost-h-requires : goal.row_cost-h-requires
row_cost-h-requires c = (after-room c.loop-at.invariant.0 c.loop-at-test.true).room

pub shape_of-table-then-h-bound : goal.shape_of-table-then-h-bound
shape_of-table-then-h-bound c = c.loop-at.invariant.1.differ.same_length

pub returns-then-h-bound : goal.returns-then-h-bound
returns-then-h-bound c = record { rows = c.loop-at.invariant.1; cheap = λ h. subst (λ (g : Cost). fig g 1 < c.args.bound) c.row_cost-h.ensures c.if-h-bound.true }

pub release_row-at-requires : goal.release_row-at-requires
release_row-at-requires c = (c.loop-at-test.true, c.loop-at.invariant.0.few, (after-room c.loop-at.invariant.0 c.loop-at-test.true).room)

pub loop-at-smaller : goal.loop-at-smaller
loop-at-smaller c = let e = c.release_row-at.ensures.1 in subst (λ (g : Gap). g.rest < c.loop-at.at.rest) (sym e) (omega (arith, c.loop-at-test.true))

pub loop-at-preserved : goal.loop-at-preserved
loop-at-preserved c = gone-next _ _ _ _ _ _ c.loop-at.invariant.1 c.loop-at.invariant.0 c.loop-at-test.true _ _ c.release_row-at.ensures.0 c.release_row-at.ensures.1 (subst (λ (g : Cost). c.args.bound ≤ fig g 1) c.row_cost-h.ensures c.if-h-bound.false)

pub shape_of-table : goal.shape_of-table
shape_of-table c = c.loop-at.invariant.1.differ.same_length

pub returns : goal.returns
returns c = record { rows = c.loop-at.invariant.1; cheap = λ h. absurd (omega (arith, c.loop-at-test.false)) }
