-- `sheet::lines::numbers_in`. Invariant: the numbers so far, in front of what is left to read, are what the whole reads as.
use Rattle.std.specs.Prelude.{◌≡◌, ◌≤◌, length}
use Rattle.sheet.specs.Bytes.{comma}
use Rattle.sheet.specs.Lines.{numbers_of}
use Rattle.sheet.specs.Inner.{parts_from}
use Rattle.sheet.proofs.Fields.{so_far}
use Rattle.sheet.proofs.lines.numbers_in.Given as goal

abbrev pub invariant-loop-k : goal.invariant-loop-k
invariant-loop-k l =
    (l.k ≤ l.width) × (length l.values ≡ 8) × (numbers_of l.most l.width (parts_from comma 2 l.line) ≡ so_far l.most l.line l.values l.width l.k l.at comma)
