-- `arrivals::offers::led_group` meets its contract: a row that leads after waiting is one that is nowhere above what is left of g without the
-- waiting.
-- Assumes nothing.
use Rattle.sheet.specs.Laws.Decided.{fails, no_of, yes_of}
use Rattle.arrivals.specs.Inner.Facts.{at-most-decided}
use Rattle.arrivals.specs.Inner.Leaders.{lag-led, rest-led}
use Rattle.arrivals.proofs.offers.led_group.Goals as goal

pub less-requires : goal.less-requires
less-requires c = yes_of (at-most-decided _ _ _ c.at_most.ensures) c.if-at_most.true

pub returns-then-at_most : goal.returns-then-at_most
returns-then-at_most c = rest-led _ _ _ c.less.ensures.1 c.beaten.ensures

pub returns : goal.returns
returns c = fails (lag-led (no_of (at-most-decided _ _ _ c.at_most.ensures) c.if-at_most.false))
