-- `sheet::text::put_group`. Invariant: the text of the first i lines is written.
use mathlib.Core.Path.{◌≡◌}
use Prim.Native.Nat.{◌≤◌, ◌*◌, ◌+◌}
use lib.ListN.{length, take}
use Rattle.sheet.specs.Lists.{bind}
use Rattle.sheet.specs.Decimal.{most_digits}
use Rattle.sheet.specs.Text.{line_text}
use Rattle.sheet.specs.Laws.Puts.{Puts}
use Rattle.sheet.proofs.PutText.{group_of}
use Rattle.sheet.proofs.text.put_group.Given as goal

abbrev pub invariant-loop-i : goal.invariant-loop-i
invariant-loop-i l =
    (l.w ≤ 8)
    × (l.base + l.n * l.w ≤ length l.all)
    × (length l.numbers ≡ 8)
    × Puts (bind (take l.i (group_of l.k l.n l.all)) (line_text most_digits)) l.initial.out l.at l.out l.next
