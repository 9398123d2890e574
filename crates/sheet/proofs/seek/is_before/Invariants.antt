-- `sheet::seek::is_before`. The loop's invariant: the first i numbers of both are the same, so the order of what is left is the order of the whole.
use mathlib.Core.Path.{◌≡◌}
use Prim.Native.Nat.{◌≤◌}
use lib.ListN.{length, take, drop}
use Rattle.sheet.specs.Computed.{lexb}
use Rattle.sheet.proofs.Passing.{lex_from}
use Rattle.sheet.proofs.seek.is_before.Given as goal

abbrev pub invariant-loop-i : goal.invariant-loop-i
invariant-loop-i l = (l.i ≤ l.n) × (length l.b ≡ 8) × (lex_from l.n l.a l.at l.b l.i ≡ lexb (take l.n (drop l.at l.a)) (take l.n l.b))
