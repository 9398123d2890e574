-- `sheet::reader::take_lines` meets its contract. The loop's invariant: the reader holds the sheet's bytes, and they are read up to its position. What is
-- left of the text is the measure.
-- Assumes nothing.
use mathlib.Core.Path.{◌≡◌}
use Prim.Native.Nat.{◌-◌, ◌≤◌}
use lib.ListN.{length}
use Rattle.sheet.specs.LineEnds.{ReadUpTo}
use Rattle.sheet.proofs.reader.take_lines.Given as goal

abbrev pub invariant-loop-feed : goal.invariant-loop-feed
invariant-loop-feed l = (l.r.src.now ≡ l.src) × (l.r.at ≤ length l.src) × ReadUpTo l.src l.r.at l.lines l.all l.n

abbrev pub decreases-loop-feed : goal.decreases-loop-feed
decreases-loop-feed l = length l.src - l.r.at
