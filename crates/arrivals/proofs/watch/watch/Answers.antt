-- `arrivals::watch::watch` meets its contract: what each of the three adds is kept by those after it.
-- Assumes nothing.
use Rattle.arrivals.specs.Inner.Due.{watches}
use Rattle.arrivals.proofs.watch.watch.Goals as goal

pub returns : goal.returns
returns c = watches _ _ _ _ _ _ c.requires.2 c.add_begins.ensures c.watch_links.ensures c.watch_closures.ensures
