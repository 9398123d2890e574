-- `journeys::front::pass_rows` meets its contract. Assumes nothing.
use Rattle.journeys.proofs.Passing.{sweepable-next}
use native.Mathlib.Omega.{arith}
use mathlib.Core.Logic.{inl, inr, ⊎_elim}
use mathlib.Core.Path.{refl, ◌∙◌}
use Rattle.journeys.proofs.front.pass_rows.Goals as goal

pub loop-s-init : goal.loop-s-init
loop-s-init c = (c.requires.1, refl, c.requires.0, record { of = λ base fs p. p })

pub shape_of-table-then-most-s : goal.shape_of-table-then-most-s
shape_of-table-then-most-s c = c.loop-s.invariant.1

pub returns-then-most-s : goal.returns-then-most-s
returns-then-most-s c = record { on = c.loop-s.invariant.3; end = inr c.if-most-s.true; most-is = c.loop-s.invariant.0 }

pub pass_row-s-requires : goal.pass_row-s-requires
pass_row-s-requires c = (c.loop-s-test.true, c.loop-s.invariant.2)

pub loop-s-smaller : goal.loop-s-smaller
loop-s-smaller c = omega (arith, c.pass_row-s.ensures.less)

pub loop-s-preserved : goal.loop-s-preserved
loop-s-preserved c = let q = c.pass_row-s.ensures in
    (⊎_elim (λ e. omega (arith, c.if-most-s.false, c.loop-s.invariant.0)) (λ e. omega (arith, c.if-most-s.false)) q.more, c.pass_row-s.auto.table ∙ c.loop-s.invariant.1, sweepable-next c.loop-s.invariant.2 q.on, record { of = λ base fs p. q.on.of base fs (c.loop-s.invariant.3.of base fs p) })

pub shape_of-table : goal.shape_of-table
shape_of-table c = c.loop-s.invariant.1

pub returns : goal.returns
returns c = record { on = c.loop-s.invariant.3; end = inl (omega (arith, c.loop-s-test.false)); most-is = c.loop-s.invariant.0 }
