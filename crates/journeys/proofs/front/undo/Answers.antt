-- `journeys::front::undo` meets its contract: the rows ahead and those of the stair are all that differ.
-- Assumes nothing.
use Rattle.journeys.proofs.FrontRows.{undo-ahead, undo-stair, undone}
use Rattle.journeys.specs.declared.chain.Gap.{Gap}
use Rattle.journeys.specs.Inner.Chain.{Released}
use mathlib.Core.Path.{subst}
use Rattle.journeys.proofs.front.undo.Goals as goal

pub release-requires : goal.release-requires
release-requires c = rw c.start.ensures (undo-ahead c.requires.sweeps)

pub release-requires-2 : goal.release-requires-2
release-requires-2 c = rw c.start-2.ensures (undo-stair c.requires.sweeps (subst (λ (g : Gap). Released c.args.v.0 0 c.args.table.now c.release.new.table g c.release.result) c.start.ensures c.release.ensures))

pub returns : goal.returns
returns c = record { of = λ base fs p. undone p (subst (λ (g : Gap). Released c.args.v.0 0 c.args.table.now c.release.new.table g c.release.result) c.start.ensures c.release.ensures) (subst (λ (g : Gap). Released c.args.v.0 0 c.release.new.table c.release-2.new.table g c.release-2.result) c.start-2.ensures c.release-2.ensures) }
