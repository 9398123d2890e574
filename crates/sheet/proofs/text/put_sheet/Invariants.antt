-- `sheet::text::put_sheet`. Invariant: the texts of the first k kinds' groups are written.
use Prim.Native.Nat.{◌≤◌, ◌-◌}
use lib.ListN.{take}
use Rattle.sheet.specs.Lists.{flat}
use Rattle.sheet.specs.Sheet.{Sheet}
use Rattle.sheet.specs.Store.{kind_count, StoreOf}
use Rattle.sheet.specs.Laws.Puts.{Puts}
use Rattle.sheet.proofs.PutText.{sheet_texts}
use Rattle.sheet.proofs.text.put_sheet.Given as goal

abbrev pub invariant-loop-k : goal.invariant-loop-k
invariant-loop-k l =
    (l.k ≤ kind_count) × ((s : Sheet) → StoreOf s l.lines l.all → Puts (flat (take l.k (sheet_texts s))) l.initial.out 0 l.out l.next)

abbrev pub decreases-loop-k : goal.decreases-loop-k
decreases-loop-k l = kind_count - l.k
