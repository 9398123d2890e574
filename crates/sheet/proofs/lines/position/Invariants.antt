-- `sheet::lines::position`. Invariant: `found` is the position among the letters from k on, and one of them.
use Rattle.std.specs.Prelude.{◌≡◌, ◌≤◌, ◌<◌, ◌+◌, length, drop, IfSome}
use Rattle.sheet.specs.Inner.{position_of, found_at}
use Rattle.sheet.proofs.lines.position.Given as goal

abbrev pub invariant-loop-k : goal.invariant-loop-k
invariant-loop-k l =
    (l.k ≤ length l.letters)
    × (found_at (length l.letters) l.found ≡ l.k + position_of l.c (drop l.k l.letters))
    × IfSome l.found (λ k. k < length l.letters)
