-- `arrivals::fill::fill` meets its contract: after the rows, or instead of them, zeros.
-- Assumes nothing.
use mathlib.Core.Path.{refl}
use native.Mathlib.Omega.{arith}
use lib.ListN.{length}
use borrow.Author.Rules.{rules}
use Rattle.arrivals.specs.Inner.Ending.{search-full, search-ok}
use Rattle.arrivals.specs.Inner.Filling.{crowded-as}
use Rattle.arrivals.proofs.fill.fill.Goals as goal

pub search_all-requires : goal.search_all-requires
search_all-requires c = c.requires

pub returns-clause-ends : goal.returns-clause-ends
returns-clause-ends c = let r = c.in-Ok.ensures in search-ok _ _ _ _ _ _ (search rules) (omega (arith, r.room)) r.room (r.done refl) c.clear_from.ensures

pub returns-in_default-clause-ends : goal.returns-in_default-clause-ends
returns-in_default-clause-ends c = let r = c.in_default.ensures in search-full _ _ _ _ (length c.search_all.new.table) (search rules) c.clear.ensures (crowded-as (search rules) (r.full refl))
