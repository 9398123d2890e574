-- `sheet::reader::forms`. Invariant: the first k letters and counts are those of the first k kinds.
use mathlib.Core.Path.{◌≡◌}
use mathlib.Core.List.{map}
use Prim.Native.Nat.{◌≤◌}
use lib.ListN.{length, take}
use Rattle.sheet.specs.Kinds.{width, kinds}
use Rattle.sheet.specs.Store.{kind_count}
use Rattle.sheet.proofs.reader.forms.Given as goal

abbrev pub invariant-loop-k : goal.invariant-loop-k
invariant-loop-k l =
    (l.k ≤ kind_count) × (length l.letters ≡ kind_count) × (length l.widths ≡ kind_count) × (take l.k l.letters ≡ take l.k (map (λ j. j.letter) kinds)) × (take l.k l.widths ≡ take l.k (map width kinds))
