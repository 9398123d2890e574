-- `sheet::bytes::near_feed`. Invariant: i and the bytes that stand before the first line feed from there on make the position sought.
use Rattle.std.specs.Prelude.{◌≡◌, ◌+◌, ◌≤◌, length, drop}
use Rattle.sheet.specs.Bytes.{line_feed}
use Rattle.sheet.specs.Inner.{span_of}
use Rattle.sheet.proofs.bytes.near_feed.Given as goal

abbrev pub invariant-loop-i : goal.invariant-loop-i
invariant-loop-i l = (l.i ≤ length l.s) × (l.i + span_of line_feed (drop l.i l.s) ≡ l.at + span_of line_feed (drop l.at l.s))
