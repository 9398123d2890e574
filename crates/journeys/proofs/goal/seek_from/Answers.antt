-- `journeys::goal::seek_from` meets its contract.
-- Assumes nothing.
use Rattle.journeys.proofs.Ordering.{compared, left-room, sought-here, sought-start, sought-on}
use Rattle.journeys.proofs.goal.seek_from.Goals as goal

pub returns-then-gap : goal.returns-then-gap
returns-then-gap c = sought-here c.if-gap.true

pub row_cost-left-requires : goal.row_cost-left-requires
row_cost-left-requires c = (left-room c.requires c.if-gap.false).room

pub returns-then-before : goal.returns-then-before
returns-then-before c = sought-start _ c.start.ensures

pub returns : goal.returns
returns c = sought-on (compared c.args.g _ _ _ _ c.row_cost-left.ensures c.before-2.ensures c.if-before.false)
