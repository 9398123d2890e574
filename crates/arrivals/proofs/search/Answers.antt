-- `arrivals::search` meets its contract: the case that is searched is that of the sheet, and what the search of it leaves is what the definition says.
-- Assumes nothing.
use native.Mathlib.Omega.{arith}
use Rattle.arrivals.specs.Inner.Ending.{ends_as}
use Rattle.arrivals.proofs.Ending.{search-answer}
use Rattle.arrivals.specs.Inner.Lent.{given-linked}
use Rattle.arrivals.specs.Inner.OfSheet.{fits, given}
use Rattle.arrivals.specs.Inner.Rows.{zeros-at}
use Rattle.arrivals.proofs.search.Goals as goal

pub lay-requires : goal.lay-requires
lay-requires c = (omega arith, record { zero = λ i. zeros-at 4484 i })

pub watch-requires : goal.watch-requires
watch-requires c = let p = c.requires in let g = given p.valid _ _ p.firsts c.lay.ensures in (given-linked g, g.closing, omega arith)

pub fill-requires : goal.fill-requires
fill-requires c =
    let p = c.requires in
    record { given = given p.valid _ _ p.firsts c.lay.ensures; day = omega (arith, c.last_step.ensures, p.valid.most-steps); watching = c.watch.ensures.of _ p.firsts }

pub returns-clause-end : goal.returns-clause-end
returns-clause-end c =
    let p = c.requires in
    let f = c.fill in
    search-answer _ _ (fits p.valid _ _ p.firsts c.lay.ensures) c.args.table.now f.new.table f.result (ends_as c.last_step.ensures f.ensures.ends)
