-- `arrivals::offers::place_of` meets its contract: the place is searched from the end. Assumes nothing.
use native.Mathlib.Omega.{arith}
use Rattle.sheet.specs.Laws.Decided.{no_of, yes_of}
use Rattle.arrivals.specs.Inner.Offering.{after_more}
use Rattle.arrivals.proofs.offers.place_of.Goals as goal

pub loop-g-init : goal.loop-g-init
loop-g-init c = (omega arith, record { every = λ i l m. absurd (omega arith) })

pub overflow_sub-k : goal.overflow_sub-k
overflow_sub-k c = let y = yes_of c.precedes.ensures c.loop-g-test.true in omega (arith, y.0)

pub loop-g-smaller : goal.loop-g-smaller
loop-g-smaller c = let y = yes_of c.precedes.ensures c.loop-g-test.true in omega (arith, y.0)

pub loop-g-preserved : goal.loop-g-preserved
loop-g-preserved c = let y = yes_of c.precedes.ensures c.loop-g-test.true in (omega arith, after_more y.0 c.loop-g.invariant.1 y.1)

pub returns : goal.returns
returns c = record { most = c.loop-g.invariant.0; after = c.loop-g.invariant.1; last = no_of c.precedes.ensures c.loop-g-test.false }
