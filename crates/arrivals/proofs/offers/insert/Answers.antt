-- `arrivals::offers::insert` meets its contract: the rows move up by one, the last first. Assumes nothing.
use mathlib.Core.Path.{refl}
use native.Mathlib.Omega.{arith}
use borrow.Author.Rules.{rules}
use Rattle.arrivals.specs.Inner.Offering.{moved-end, moved_more}
use Rattle.arrivals.proofs.offers.insert.Goals as goal

pub loop-k-init : goal.loop-k-init
loop-k-init c = (omega arith, refl, record { below = λ j l. refl; moved = λ i l m. absurd (omega arith) })

pub loop-k-preserved : goal.loop-k-preserved
loop-k-preserved c = let inv = c.loop-k.invariant in (omega arith, search rules, moved_more (omega arith) inv.2 c.move_row.ensures)

pub returns : goal.returns
returns c = moved-end c.loop-k-test.false c.loop-k.invariant.2 c.push_row.ensures
