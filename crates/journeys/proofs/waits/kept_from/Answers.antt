-- `journeys::waits::kept_from` meets its contract: the row whose cost is what is left after the steps waited, or none where nothing is left.
-- Assumes nothing.
use mathlib.Core.Path.{sym, ◌∙◌}
use Rattle.costs.specs.Laws.Figures.{at_most_b-true}
use Rattle.arrivals.specs.Computed.{arrival}
use Rattle.journeys.specs.Inner.Lookup.{RowIs}
use Rattle.journeys.specs.Inner.Waits.{KeptFrom}
use Rattle.journeys.proofs.Waiting.{row-as, waited-more, waited-left}
use Rattle.journeys.proofs.waits.kept_from.Goals as goal

pub returns-then-not-at_most : goal.returns-then-not-at_most
returns-then-not-at_most c = waited-more c.multiple-waited.ensures c.at_most.ensures c.if-not-at_most.true

pub less-cost-requires : goal.less-cost-requires
less-cost-requires c = at_most_b-true _ _ (sym c.at_most.ensures ∙ c.if-not-at_most.false)

pub returns : goal.returns
returns c =
    let a = c.args in
    row-as a.n (RowIs a.n a.table.now (arrival a.here.place.0 a.step.0 c.less-cost.result)) (KeptFrom a.n a.table.now a.here a.h a.step.0)
    (λ k x. waited-left c.multiple-waited.ensures _ c.less-cost.ensures x) c.row_of.result c.row_of.ensures
