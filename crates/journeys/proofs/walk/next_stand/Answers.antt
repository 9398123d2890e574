-- `journeys::walk::next_stand` meets its contract. Assumes nothing.
use native.Mathlib.Omega.{arith}
use Rattle.journeys.proofs.Choosing.{lowest-all}
use Rattle.journeys.proofs.walk.next_stand.Goals as goal
use Rattle.journeys.proofs.walk.next_stand.Goals.{Start}

pub next_wait-best-requires : goal.next_wait-best-requires
next_wait-best-requires c = c.requires

pub loop-l-init : goal.loop-l-init
loop-l-init c = c.next_wait-best.ensures

pub next_over-best-requires : goal.next_over-best-requires
next_over-best-requires c = (c.requires, omega (arith, c.count-count.ensures.counted, c.loop-l-test.true), c.loop-l.invariant)

pub overflow_step-l : goal.overflow_step-l
overflow_step-l c = omega (arith, c.count-count.ensures.counted, c.requires.rowed.derived.valid.most-corridors, c.loop-l-test.true)

pub loop-l-smaller : goal.loop-l-smaller
loop-l-smaller c = omega (arith, c.loop-l-test.true)

pub loop-l-preserved : goal.loop-l-preserved
loop-l-preserved c = c.next_over-best.ensures

pub returns : goal.returns
returns c =
    let z = (goal.at.returns c).Start in
    lowest-all c.loop-l.invariant (omega (arith, c.count-count.ensures.counted, c.loop-l-test.false)) z.requires.some
