-- `sheet::text::put_refusal` meets its contract: a refusal is one line of two numbers.
-- Assumes nothing.
use Rattle.std.proofs.Common.{[], ◌∷◌, arith}
use Rattle.sheet.specs.Text.{most_printed}
use Rattle.sheet.specs.Laws.Printed.{printed-most, refusal-puts}
use Rattle.sheet.proofs.text.put_refusal.Goals as goal

pub put_line-requires : goal.put_line-requires
put_line-requires c = omega (arith, c.requires, printed-most most_printed 82 (c.from.result ∷ c.from-2.result ∷ []))

pub returns : goal.returns
returns c = refusal-puts _ _ (rw (c.from.ensures, c.from-2.ensures) at c.put_line.ensures)
