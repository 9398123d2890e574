-- `sheet::line_reader::LineReader::after_line` meets its contract: the reader's next line ends at the number passed, so a byte stands there, and the number
-- after it fits.
-- Assumes nothing.
use Rattle.std.specs.Prelude.{Ok, Some}
use Rattle.std.proofs.Common.{arith}
use Rattle.sheet.specs.Laws.LineEnding.{end-inside}
use Rattle.sheet.proofs.line_reader.LineReader.after_line.Goals as goal

pub overflow_add-result : goal.overflow_add-result
overflow_add-result c = omega (arith, end-inside c.args.self.src.now c.args.self.at (Ok (Some c.args.end)) c.requires)
