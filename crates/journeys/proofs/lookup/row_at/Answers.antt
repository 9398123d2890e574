-- `journeys::lookup::row_at` meets its contract: the place, the step and the cost are those of the row.
-- Assumes nothing.
use mathlib.Core.Path.{refl}
use Rattle.arrivals.specs.Laws.Leading.{arrival-path}
use Rattle.journeys.proofs.lookup.row_at.Goals as goal

pub returns : goal.returns
returns c = arrival-path _ _ refl refl c.row_cost.ensures
