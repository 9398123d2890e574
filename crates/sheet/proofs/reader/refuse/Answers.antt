-- `sheet::reader::refuse` meets its contract: the arrays are of zeros.
-- Assumes nothing.
use Rattle.std.proofs.Math.Path.{ap}
use Rattle.std.specs.Prelude.{ℕ}
use Rattle.sheet.specs.Sheet.{refused}
use Rattle.sheet.specs.Calls.{read_answer}
use Rattle.sheet.proofs.reader.refuse.Goals as goal

pub returns : goal.returns
unfolding read_answer
returns c = ap (λ (k : ℕ). read_answer (refused k c.args.r.line)) c.number.ensures
