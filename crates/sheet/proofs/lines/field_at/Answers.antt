-- `sheet::lines::field_at` meets its contract: each test of the definition, in its order, on the digits that were read.
-- Assumes nothing.
use Rattle.sheet.proofs.Digits.{field-none, field-inside, field-sized, field-zeroed, field_is}
use Rattle.sheet.proofs.lines.field_at.Goals as goal

pub returns-then-n-most : goal.returns-then-n-most
returns-then-n-most c = field-none _ _ _ (field-sized _ _ _ _ c.in_ok-f.ensures c.if-n-most.true)

pub bounds-line-at : goal.bounds-line-at
bounds-line-at c = field-inside _ _ _ _ c.in_ok-f.ensures c.if-n-most.false

pub returns-then-n-line : goal.returns-then-n-line
returns-then-n-line c = field-none _ _ _ (field-zeroed _ _ _ _ c.in_ok-f.ensures c.if-n-most.false c.if-n-line.true)

pub returns : goal.returns
returns c = field_is _ _ _ _ c.in_ok-f.ensures c.if-n-most.false c.if-n-line.false
