-- The text of lines that pass is no longer than a sheet may be: the laws of specs/Laws/TextBound.antt that rest on what `waiting` says.
-- Assumes nothing.
use Rattle.std.specs.Prelude.{List, [], ◌≤◌, length}
use Rattle.std.proofs.Common.{ap, arith}
use Rattle.sheet.specs.Lists.{bind}
use Rattle.sheet.specs.Decimal.{most_digits}
use Rattle.sheet.specs.Lines.{Line}
use Rattle.sheet.specs.Sheet.{sheet_of, most_bytes}
use Rattle.sheet.specs.Text.{line_text}
use Rattle.sheet.specs.Laws.Judge.{Passes}
use Rattle.sheet.specs.Laws.Shape.{AllShaped}
use Rattle.sheet.specs.Laws.Groups.{lines-sheet}
use Rattle.sheet.specs.Laws.Valid.{lines_runs}
use Rattle.sheet.specs.Laws.TextBound.{longest, sheet-longest}
use Rattle.sheet.proofs.Valid.{lines-turned}

pub text-longest : (ls : List Line) → AllShaped ls → Passes [] ls → 1 ≤ length ls → length (bind ls (line_text most_digits)) ≤ longest
text-longest ls f p h =
    let s = sheet_of ls in
    let r = lines_runs ls f p h in
    let q = ap (λ (k : List Line). length (bind k (line_text most_digits))) (lines-sheet ls f p h) in
    omega (arith, sheet-longest s r (lines-turned ls f p).0, q)

-- the longest sheet is short enough
pub text-bound : (ls : List Line) → AllShaped ls → Passes [] ls → 1 ≤ length ls → length (bind ls (line_text most_digits)) ≤ most_bytes
text-bound ls f p h = omega (arith, text-longest ls f p h)
