-- `sheet::text::group_bytes`. Invariant: two bytes for each line, and the length of the text of the numbers so far, of at most six bytes each.
use Rattle.std.proofs.Common.{◌≡◌, ◌≤◌, ◌+◌, ◌*◌, length, take}
use Rattle.sheet.proofs.PutText.{numbers_text}
use Rattle.sheet.proofs.text.group_bytes.Given as goal

abbrev pub invariant-loop-number : goal.invariant-loop-number
invariant-loop-number l = record {
  counts : l.bytes ≡ 2 * l.n + length (numbers_text (take l.number-index l.number-items));
  few : l.bytes ≤ 2 * l.n + 6 * l.number-index;
}
