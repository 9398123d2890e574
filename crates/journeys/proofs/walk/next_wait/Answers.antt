-- `journeys::walk::next_wait` meets its contract: where the wait is on the way it is the lowest so far; otherwise there is none.
-- Assumes nothing.
use native.Mathlib.Omega.{arith}
use Rattle.costs.specs.Laws.Figures.{within_more}
use Rattle.journeys.proofs.Waiting.{wait-within}
use Rattle.journeys.proofs.Choosing.{wait-sum, wait-marked, wait-unmarked}
use Rattle.journeys.proofs.walk.next_wait.Goals as goal
use Rattle.journeys.proofs.walk.next_wait.Goals.{Start}

pub sum-cost-requires : goal.sum-cost-requires
sum-cost-requires c =
    let z = (goal.at.sum-cost-requires c).Start in
    (z.requires.cost, within_more 60000 1000000000 _ (omega arith) (wait-within z.requires.rowed.derived.valid _ c.wait_at.ensures))

pub returns-then-is_marked : goal.returns-then-is_marked
returns-then-is_marked c =
    let z = (goal.at.returns-then-is_marked c).Start in
    wait-marked (wait-sum _ z.args.at c.wait_at.ensures c.sum-cost.ensures) c.is_marked.ensures c.if-is_marked.true

pub returns : goal.returns
returns c =
    let z = (goal.at.returns c).Start in
    wait-unmarked (wait-sum _ z.args.at c.wait_at.ensures c.sum-cost.ensures) c.is_marked.ensures c.if-is_marked.false
