-- `sheet::judge::is_unknown` meets its contract: a closure names a corridor where the corridors in the array, which ascend by their ends, hold its ends.
-- Assumes nothing.
use mathlib.Core.Path.{refl}
use native.Mathlib.Omega.{arith}
use borrow.Author.Rules.{rules}
use Rattle.sheet.specs.Kinds.{kind_c}
use Rattle.sheet.specs.Laws.Keys.{held-seekable}
use Rattle.sheet.proofs.Standing.{stored-held}
use Rattle.sheet.proofs.Tested.{unknown-sought}
use Rattle.sheet.proofs.judge.is_unknown.Goals as goal

pub holds-requires : goal.holds-requires
holds-requires c = held-seekable (stored-held c.requires.1.stored) kind_c.order (omega arith) (record { base-is = refl; width_is = refl; count-is = refl; key-is = refl })

pub returns : goal.returns
returns c = record { of = λ before S. unknown-sought S c.requires.0 c.args.values c.if-kind-ne-X_LINE.false (search rules) (record { base-is = refl; width_is = refl; count-is = refl; key-is = refl }) c.holds.ensures }
