-- `arrivals::expand::reach_cost` meets its contract: the sum of what row k has, the waits and the crossing.
-- Assumes nothing.
use mathlib.Core.List.{List}
use mathlib.Core.Path.{◌∙◌, ap, ap₂}
use Prim.Native.Nat.{ℕ}
use native.Mathlib.Omega.{arith}
use Rattle.costs.specs.Costs.{add}
use Rattle.costs.specs.Laws.Figures.{within-add, within_more, within-times}
use Rattle.arrivals.specs.Inner.Facts.{within_of}
use Rattle.arrivals.proofs.expand.reach_cost.Goals as goal

pub overflow_sub-t : goal.overflow_sub-t
overflow_sub-t c = omega arith

pub overflow_sub-t-2 : goal.overflow_sub-t-2
overflow_sub-t-2 c = omega (arith, c.requires.4)

pub multiple-lag-requires : goal.multiple-lag-requires
multiple-lag-requires c = (omega (arith, c.requires.1), c.requires.2.waits)

pub sum-requires : goal.sum-requires
sum-requires c = (within_of _ _ c.row_cost.ensures (omega arith) c.requires.3.within, within_of _ _ c.multiple-lag.ensures (omega arith) (within-times _ 60000 _ c.requires.2.waits))

pub sum-requires-2 : goal.sum-requires-2
sum-requires-2 c = (within_of _ _ (c.sum.ensures ∙ ap₂ add c.row_cost.ensures c.multiple-lag.ensures) (omega arith) (within-add _ _ _ _ c.requires.3.within (within-times _ 60000 _ c.requires.2.waits)), within_more _ _ _ (omega arith) c.requires.2.costs)

pub returns : goal.returns
returns c = c.sum-2.ensures ∙ ap (λ (g : List ℕ). add g c.args.from.cost) (c.sum.ensures ∙ ap₂ add c.row_cost.ensures c.multiple-lag.ensures)
