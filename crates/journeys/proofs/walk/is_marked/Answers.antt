-- `journeys::walk::is_marked` meets its contract: the row from which a cart waits is marked past the step, or there is none.
-- Assumes nothing.
use native.Mathlib.Omega.{arith}
use Rattle.sheet.specs.Laws.Decided.{fails}
use Rattle.journeys.proofs.Choosing.{marked_row, marked-none}
use Rattle.journeys.proofs.walk.is_marked.Goals as goal

pub returns-in_default : goal.returns-in_default
returns-in_default c = fails (marked-none c.in_default.ensures (omega arith))

pub returns : goal.returns
returns c = marked_row c.in-Some.ensures.1 c.in-Some.ensures.0 c.mark_of.ensures
