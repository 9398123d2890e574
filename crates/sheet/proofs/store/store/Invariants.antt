-- `sheet::store::store`. The loop's invariant: of the first w numbers, the first i are written.
use mathlib.Core.Path.{◌≡◌}
use Prim.Native.Nat.{◌≤◌}
use lib.ListN.{length, take}
use lib.Seq.{sets}
use Rattle.sheet.proofs.store.store.Given as goal

abbrev pub invariant-loop-i : goal.invariant-loop-i
invariant-loop-i l = (l.i ≤ 8) × (length l.v ≡ 8) × (length l.all ≡ length l.initial.all) × (l.all ≡ sets l.initial.all l.at (take l.i (take l.w l.v)))
