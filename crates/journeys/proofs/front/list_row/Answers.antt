-- `journeys::front::list_row` meets its contract: where the count has grown, the row taken is listed.
-- Assumes nothing.
use Rattle.journeys.proofs.Listing.{list_same, list-room, list-fits, list_put}
use native.Mathlib.Omega.{arith}
use Rattle.journeys.proofs.front.list_row.Goals as goal

pub pass_row-r-requires : goal.pass_row-r-requires
pass_row-r-requires c = (c.requires.0, record { base = _; fs = _; sweeps = c.requires.1.sweeps })

pub returns-then-r-s : goal.returns-then-r-s
returns-then-r-s c = record { on = list_same c.pass_row-r.ensures _ c.if-r-s.true; less = c.pass_row-r.ensures.less }

pub row_cost-cost-requires : goal.row_cost-cost-requires
row_cost-cost-requires c = (list-room c.pass_row-r.ensures c.if-r-s.false c.requires.1).room

pub bounds-table-r : goal.bounds-table-r
bounds-table-r c = omega (arith, (list-room c.pass_row-r.ensures c.if-r-s.false c.requires.1).room)

pub put_cost-requires : goal.put_cost-requires
put_cost-requires c = list-fits c.pass_row-r.ensures c.if-r-s.false c.requires.1

pub returns : goal.returns
returns c = record { on = list_put c.pass_row-r.ensures c.if-r-s.false _ _ _ c.row_cost-cost.ensures c.put_cost.ensures; less = c.pass_row-r.ensures.less }
