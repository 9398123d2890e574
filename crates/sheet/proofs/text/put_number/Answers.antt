-- `sheet::text::put_number` meets its contract: a comma, and the digits after it.
-- Assumes nothing.
use mathlib.Core.Path.{◌∙◌}
use native.Mathlib.Omega.{arith}
use lib.ListN.{length-set}
use borrow.Author.Rules.{rules}
use Rattle.sheet.specs.Text.{number_text}
use Rattle.sheet.specs.Laws.Puts.{puts-byte, puts-append}
use Rattle.sheet.proofs.text.put_number.Goals as goal

pub bounds-out-at : goal.bounds-out-at
unfolding number_text
bounds-out-at c = search rules

pub overflow_add-at : goal.overflow_add-at
unfolding number_text
overflow_add-at c = search rules

pub put_digits-requires : goal.put_digits-requires
unfolding number_text
put_digits-requires c = simp length-set (omega arith)

pub shape_of-out : goal.shape_of-out
shape_of-out c = c.put_digits.auto.out ∙ simp length-set

pub returns : goal.returns
unfolding number_text
returns c = puts-append (puts-byte 44 _ _) c.put_digits.ensures
