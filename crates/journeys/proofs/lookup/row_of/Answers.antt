-- `journeys::lookup::row_of` meets its contract: the first row that does not come before a is a, unless a comes before it.
-- Assumes nothing.
use Rattle.journeys.proofs.Finding.{row_here, row-none}
use Rattle.journeys.proofs.lookup.row_of.Goals as goal
use Rattle.journeys.proofs.lookup.row_of.Goals.{Start}

pub returns-then-comes_before : goal.returns-then-comes_before
returns-then-comes_before c =
    let z = (goal.at.returns-then-comes_before c).Start in
    row-none z.requires c.rows_before-k.ensures c.if-n-k.false c.row_at.ensures c.comes_before.ensures c.if-comes_before.true

pub returns : goal.returns
returns c =
    let z = (goal.at.returns c).Start in
    (c.if-n-k.false, row_here z.requires c.rows_before-k.ensures c.if-n-k.false c.row_at.ensures c.comes_before.ensures c.if-comes_before.false)
