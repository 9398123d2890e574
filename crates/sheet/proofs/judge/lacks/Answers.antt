-- `sheet::judge::lacks` meets its contract: no line is there exactly where none of the first kind is, and then a W line is missing exactly where there
-- are fewer than places.
-- Assumes nothing.
use mathlib.Core.Path.{sym, ◌∙◌}
use borrow.Author.Tests.{eq-eqb, ne_eqb}
use Rattle.sheet.proofs.Standing.{lacks-count}
use Rattle.sheet.proofs.judge.lacks.Goals as goal

pub returns-then-lines-eq0 : goal.returns-then-lines-eq0
returns-then-lines-eq0 c = record { of = λ before S. sym (lacks-count S ∙ rw (eq-eqb _ 0 c.if-lines-eq0.true)) }

pub returns : goal.returns
returns c = record { of = λ before S. c.is_waiting.ensures ∙ sym (lacks-count S ∙ rw (ne_eqb _ 0 c.if-lines-eq0.false)) }
