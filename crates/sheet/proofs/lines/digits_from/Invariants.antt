-- `sheet::lines::digits_from`. Invariant: the field ends where it ended, what is still to be read of it, from the value so far, is what the whole reads as,
-- and the value has at most end - at digits, of which there are at most eight before one more is read.
use Rattle.std.specs.Prelude.{◌≡◌, ◌≤◌, ◌<◌, ◌+◌, ◌-◌, ◌^◌, length, drop}
use Rattle.sheet.specs.Bytes.{comma}
use Rattle.sheet.specs.Decimal.{digits_from}
use Rattle.sheet.specs.Inner.{span_of, field_from}
use Rattle.sheet.proofs.lines.digits_from.Given as goal

abbrev pub invariant-loop-end : goal.invariant-loop-end
invariant-loop-end l =
    (l.at ≤ l.end)
    × (l.end ≤ length l.line)
    × (l.value < 10 ^ (l.end - l.at))
    × (l.end + span_of comma (drop l.end l.line) ≡ l.at + span_of comma (drop l.at l.line))
    × (digits_from l.value (field_from l.line l.end) ≡ digits_from 0 (field_from l.line l.at))
