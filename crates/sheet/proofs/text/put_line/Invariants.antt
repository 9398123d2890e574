-- `sheet::text::put_line`. Invariant: the numbers so far are written after the letter.
use Rattle.std.proofs.Common.{◌+◌, take}
use Rattle.sheet.specs.Lists.{bind}
use Rattle.sheet.specs.Text.{number_text}
use Rattle.sheet.specs.Laws.Puts.{Puts}
use Rattle.sheet.proofs.text.put_line.Given as goal

abbrev pub invariant-loop-n : goal.invariant-loop-n
invariant-loop-n l = Puts (bind (take l.n-index l.numbers) (number_text l.most)) l.initial.out (l.at + 1) l.out l.next
