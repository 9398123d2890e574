-- `intervals::stays::stays` meets its contract. Assumes nothing.
use mathlib.Core.Path.{refl}
use native.Mathlib.Omega.{arith}
use Rattle.costs.specs.Laws.Figures.{stored-none, stored_more, stored-all}
use Rattle.intervals.specs.Inner.{stay_by}
use Rattle.intervals.proofs.Staying.{stay-table}
use Rattle.intervals.proofs.stays.stays.Goals as goal

pub loop-t-init : goal.loop-t-init
loop-t-init c = (omega arith, stored-none 256 _ _ refl)

pub stay_from-requires : goal.stay_from-requires
stay_from-requires c = (c.requires, omega arith)

pub loop-t-preserved : goal.loop-t-preserved
loop-t-preserved c =
    let a = c.args in
    (omega arith, rw c.stay_from.ensures (stored_more 256 (stay_by a.since.now a.v.0 a.last.0 a.n) c.loop-t.t c.loop-t.told (omega arith) c.loop-t.invariant.1))

pub returns : goal.returns
returns c = stay-table _ _ _ _ c.requires.place c.requires.day c.loop-t.told (stored-all 256 _ c.loop-t.t _ (omega arith) c.loop-t.invariant.1)
