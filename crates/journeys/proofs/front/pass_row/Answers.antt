-- `journeys::front::pass_row` meets its contract: the row is left out or taken.
-- Assumes nothing.
use Rattle.journeys.proofs.Passing.{pass-room, pass-climbable, sweeps-led, pass-releasable, pass-linkable, sweeps-taken}
use Rattle.journeys.specs.Inner.Chain.{Released}
use Rattle.costs.specs.Costs.{Cost, fig}
use native.Mathlib.Omega.{arith}
use mathlib.Core.Logic.{inl, inr}
use mathlib.Core.Path.{refl, subst}
use Rattle.journeys.proofs.front.pass_row.Goals as goal

pub bounds-table-k : goal.bounds-table-k
bounds-table-k c = omega (arith, (pass-room c.requires.1.sweeps c.requires.0).room)

pub climb-c-requires : goal.climb-c-requires
climb-c-requires c = pass-climbable c.requires.1.sweeps c.requires.0

pub bounds-table-k-then-c : goal.bounds-table-k-then-c
bounds-table-k-then-c c = omega (arith, (pass-room c.requires.1.sweeps c.requires.0).room)

pub returns-then-c : goal.returns-then-c
returns-then-c c = record { on = record { of = λ base fs p. sweeps-led p c.requires.0 c.climb-c.ensures c.if-c.true }; less = omega (arith, c.requires.0); more = inl refl }

pub row_cost-g-requires : goal.row_cost-g-requires
row_cost-g-requires c = (pass-room c.requires.1.sweeps c.requires.0).room

pub release-low-requires : goal.release-low-requires
release-low-requires c = pass-releasable c.requires.1.sweeps c.requires.0 c.climb-c.ensures c.if-c.false

pub link_in-stair-requires : goal.link_in-stair-requires
link_in-stair-requires c = pass-linkable c.requires.1.sweeps c.requires.0 c.climb-c.ensures c.if-c.false (subst (λ (g : Cost). Released c.args.v.0 (fig g 1) c.args.table.now c.release-low.new.table c.climb-c.result.gap c.release-low.result) c.row_cost-g.ensures c.release-low.ensures)

pub returns : goal.returns
returns c = record { on = record { of = λ base fs p. sweeps-taken p c.requires.0 c.climb-c.ensures c.if-c.false (subst (λ (g : Cost). Released c.args.v.0 (fig g 1) c.args.table.now c.release-low.new.table c.climb-c.result.gap c.release-low.result) c.row_cost-g.ensures c.release-low.ensures) _ _ c.link_in-stair.ensures.0 c.link_in-stair.ensures.1 }; less = omega (arith, c.requires.0); more = inr refl }
