-- `arrivals::fill::search_all` meets its contract: what the search by lists finds stands; where it gives up, the search by the index goes on.
-- Assumes nothing.
use Rattle.arrivals.proofs.fill.search_all.Goals as goal

pub search_indexed-requires : goal.search_indexed-requires
search_indexed-requires c = (c.requires, c.in-Err.ensures)

pub returns-in-Ok : goal.returns-in-Ok
returns-in-Ok c = c.in-Ok.ensures
