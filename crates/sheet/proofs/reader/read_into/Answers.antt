-- `sheet::reader::read_into` meets its contract: the lines of the text are taken, and the input is judged that ends after them.
-- Assumes nothing.
use Rattle.std.proofs.Common.{arith}
use Rattle.sheet.proofs.Reading.{verdict-refused, read-long, text-start}
use Rattle.sheet.proofs.reader.read_into.Goals as goal

pub returns-then-src-gt-MOST_BYTES : goal.returns-then-src-gt-MOST_BYTES
returns-then-src-gt-MOST_BYTES c = verdict-refused 1 0 (omega arith) (read-long c.args.src.now c.if-src-gt-MOST_BYTES.true)

pub take_lines-requires : goal.take_lines-requires
take_lines-requires c = (c.forms-f.ensures, text-start c.args.src.now c.requires c.if-src-gt-MOST_BYTES.false)
