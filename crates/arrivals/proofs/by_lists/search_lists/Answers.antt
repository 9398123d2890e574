-- `arrivals::by_lists::search_lists` meets its contract: whichever the lists, they have room for every place.
-- Assumes nothing.
use mathlib.Core.Path.{refl}
use native.Mathlib.Omega.{arith}
use Rattle.arrivals.proofs.by_lists.search_lists.Goals as goal

pub places_of-requires : goal.places_of-requires
places_of-requires c = c.requires.given.size

pub search_live-requires : goal.search_live-requires
search_live-requires c = (c.requires, omega (arith, c.places_of.ensures, c.if-places_of-le6.true), refl)

pub returns-then-places_of-le6 : goal.returns-then-places_of-le6
returns-then-places_of-le6 c = c.search_live.ensures

pub places_of-requires-2 : goal.places_of-requires-2
places_of-requires-2 c = c.requires.given.size

pub search_live-requires-then-places_of-le16 : goal.search_live-requires-then-places_of-le16
search_live-requires-then-places_of-le16 c = (c.requires, omega (arith, c.places_of-2.ensures, c.if-places_of-le16.true), refl)

pub returns-then-places_of-le16 : goal.returns-then-places_of-le16
returns-then-places_of-le16 c = c.search_live-then-places_of-le16.ensures

pub search_live-requires-2 : goal.search_live-requires-2
search_live-requires-2 c = (c.requires, omega (arith, c.requires.given.places), refl)

pub returns : goal.returns
returns c = c.search_live-2.ensures
