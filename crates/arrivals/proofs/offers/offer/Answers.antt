-- `arrivals::offers::offer` meets its contract: a cost that an older row leads changes nothing; any other is put in.
-- Assumes nothing.
use mathlib.Core.Logic.{inr}
use mathlib.Core.Path.{refl}
use Rattle.sheet.specs.Laws.Decided.{no_of, yes_of}
use Rattle.arrivals.specs.Inner.Offering.{offered-not, swept-one}
use Rattle.arrivals.proofs.offers.offer.Goals as goal

pub led_walk-requires : goal.led_walk-requires
led_walk-requires c = let p = c.requires in (p.ready, p.indexed, p.covers)

pub returns-then-led_walk : goal.returns-then-led_walk
returns-then-led_walk c = swept-one (λ j l. refl) c.requires.room (offered-not (inr (yes_of c.led_walk.ensures c.if-led_walk.true)))

pub put_in-requires : goal.put_in-requires
put_in-requires c = (c.requires.room, c.requires.sorted, no_of c.led_walk.ensures c.if-led_walk.false)

pub returns : goal.returns
returns c = c.put_in.ensures
