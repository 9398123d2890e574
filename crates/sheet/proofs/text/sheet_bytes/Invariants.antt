-- `sheet::text::sheet_bytes`. Invariant: the length of the texts of the first k kinds' groups.
use mathlib.Core.Path.{◌≡◌}
use Prim.Native.Nat.{◌≤◌, ◌-◌, ◌*◌}
use lib.ListN.{length, take}
use Rattle.sheet.specs.Lists.{flat}
use Rattle.sheet.specs.Sheet.{Sheet}
use Rattle.sheet.specs.Store.{kind_count, StoreOf}
use Rattle.sheet.specs.Inner.{group_bytes}
use Rattle.sheet.proofs.PutText.{sheet_texts}
use Rattle.sheet.proofs.text.sheet_bytes.Given as goal

abbrev pub invariant-loop-k : goal.invariant-loop-k
invariant-loop-k l =
    (l.k ≤ kind_count)
    × (l.bytes ≤ group_bytes * l.k)
    × ((s : Sheet) → StoreOf s l.lines l.all → l.bytes ≡ length (flat (take l.k (sheet_texts s))))

abbrev pub decreases-loop-k : goal.decreases-loop-k
decreases-loop-k l = kind_count - l.k
