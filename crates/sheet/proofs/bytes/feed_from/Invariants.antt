-- `sheet::bytes::feed_from`. Invariant, as for `near_feed`: i and the bytes that stand before the first line feed from there on make the position sought.
use mathlib.Core.Path.{◌≡◌}
use mathlib.Core.List.{List}
use Prim.Native.Nat.{ℕ, ◌≤◌, ◌-◌, ◌+◌}
use lib.ListN.{length, drop}
use Rattle.sheet.specs.Bytes.{line_feed}
use Rattle.sheet.specs.Inner.{span_of}
use Rattle.sheet.proofs.bytes.feed_from.Given as goal

-- the first line feed from `at` on is the first from i on
abbrev pub Ahead : List ℕ → ℕ → ℕ → Type 0
Ahead s at i = i + span_of line_feed (drop i s) ≡ at + span_of line_feed (drop at s)

abbrev pub invariant-loop-i : goal.invariant-loop-i
invariant-loop-i l = (l.i ≤ length l.s) × Ahead l.s l.at l.i

abbrev pub decreases-loop-i : goal.decreases-loop-i
decreases-loop-i l = length l.s - l.i
