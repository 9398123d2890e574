-- `journeys::compare::compare_fronts` meets its contract: both calls end as they promise, and what is compared are the lists as they returned them.
-- Assumes nothing.
use Rattle.journeys.specs.Calls.{front_end}
use Rattle.journeys.proofs.Sameness.{served-room, compared}
use Rattle.journeys.proofs.compare.compare_fronts.Goals as goal

pub both_same-same-requires : goal.both_same-same-requires
both_same-same-requires c =
    let x = c.front-first in
    let y = c.front-second in
    (λ z. served-room _ _ _ (front_end x.result x.new.table x.new.list) x.ensures z, λ z. served-room _ _ _ (front_end y.result y.new.table y.new.list) y.ensures z)

pub returns : goal.returns
returns c =
    let x = c.front-first in
    let y = c.front-second in
    compared _ _ _ _ _ _ x.result y.result x.new.table x.new.list y.new.table y.new.list c.both_same-same.result x.ensures y.ensures c.both_same-same.ensures
