-- `journeys::marks::raise` meets its contract: the mark is written where it is the greater, beside the place, which stays.
-- Assumes nothing.
use Rattle.journeys.proofs.Marking.{raised-one, raised-not}
use Rattle.journeys.proofs.marks.raise.Goals as goal

pub returns-then-x-m : goal.returns-then-x-m
returns-then-x-m c = raised-one c.requires.0 c.requires.1 c.if-x-m.true

pub returns-else-x-m : goal.returns-else-x-m
returns-else-x-m c = raised-not c.requires.0 c.requires.1 c.if-x-m.false
