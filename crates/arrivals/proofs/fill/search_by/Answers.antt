-- `arrivals::fill::search_by` meets its contract: without a halt there is nothing to go on from.
-- Assumes nothing.
use native.Mathlib.Omega.{arith}
use Rattle.arrivals.specs.Inner.Renoting.{indexed-zeros}
use Rattle.arrivals.proofs.fill.search_by.Goals as goal

pub search_anew-requires : goal.search_anew-requires
search_anew-requires c = let p = c.requires in (p.0, indexed-zeros p.1 (omega (arith, p.2)) (omega arith), p.2)

pub search_on-requires : goal.search_on-requires
search_on-requires c =
    let p = c.requires in
    let h = rw c.in-Some.is at p.3 in
    (p.0, p.1, p.2, h.0, h.1)
