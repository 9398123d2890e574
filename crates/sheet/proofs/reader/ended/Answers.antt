-- `sheet::reader::ended` meets its contract: nothing is left to judge but whether something is missing.
-- Assumes nothing.
use Rattle.std.proofs.Common.{arith}
use Rattle.sheet.proofs.Reached.{reached-short}
use Rattle.sheet.proofs.Reading.{verdict-refused, verdict-holds}
use Rattle.sheet.proofs.reader.ended.Goals as goal

pub returns-then-lacks : goal.returns-then-lacks
returns-then-lacks c = record { of = λ end R. verdict-refused 3 c.args.n (omega arith) (reached-short R c.lacks.ensures c.if-lacks.true) }

pub returns : goal.returns
returns c = record { of = λ end R. verdict-holds R c.lacks.result c.lacks.ensures c.if-lacks.false }
