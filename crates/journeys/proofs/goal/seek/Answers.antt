-- `journeys::goal::seek` meets its contract. Assumes nothing.
use Rattle.journeys.proofs.Climbing.{tested}
use Rattle.journeys.proofs.Ordering.{compared, right-room, seekable-next, seekable-from, sought-next, sought-then, sought-led, sought-above}
use Rattle.journeys.specs.declared.chain.Gap.{Gap}
use native.Mathlib.Omega.{arith}
use Prim.Native.Nat.{◌<◌}
use mathlib.Core.Path.{refl, sym, subst}
use Rattle.journeys.proofs.goal.seek.Goals as goal

pub seek_from-gap-requires : goal.seek_from-gap-requires
seek_from-gap-requires c = c.requires

pub loop-gap-init : goal.loop-gap-init
loop-gap-init c = (seekable-from c.requires c.seek_from-gap.result c.seek_from-gap.ensures, record { stands = λ ks s. s; same_rows = refl; left_below = c.seek_from-gap.ensures.left_below })

pub row_cost-h-requires : goal.row_cost-h-requires
row_cost-h-requires c = (right-room c.loop-gap.invariant.0 c.loop-gap-test.true).room

pub returns-then-before : goal.returns-then-before
returns-then-before c = sought-above (sought-then c.seek_from-gap.ensures c.loop-gap.invariant.1) (λ h. compared c.args.g _ _ _ _ c.row_cost-h.ensures c.before-in-loop-gap.ensures c.if-before.true)

pub returns-then-at_most : goal.returns-then-at_most
returns-then-at_most c = sought-led (sought-then c.seek_from-gap.ensures c.loop-gap.invariant.1) c.loop-gap-test.true (tested _ _ _ _ _ _ c.row_cost-h.ensures refl c.at_most.ensures c.if-at_most.true)

pub next_gap-gap-requires : goal.next_gap-gap-requires
next_gap-gap-requires c = (c.loop-gap-test.true, (right-room c.loop-gap.invariant.0 c.loop-gap-test.true).room)

pub loop-gap-smaller : goal.loop-gap-smaller
loop-gap-smaller c = subst (λ (g : Gap). g.rest < c.loop-gap.gap.rest) (sym c.next_gap-gap.ensures) (omega (arith, c.loop-gap-test.true))

pub loop-gap-preserved : goal.loop-gap-preserved
loop-gap-preserved c = let e = compared c.args.g _ _ _ _ c.row_cost-h.ensures c.before-in-loop-gap.ensures c.if-before.false in
    rw c.next_gap-gap.ensures (seekable-next c.loop-gap.invariant.0 c.loop-gap-test.true, sought-next c.loop-gap.invariant.1 c.loop-gap-test.true e)

pub returns : goal.returns
returns c = sought-above (sought-then c.seek_from-gap.ensures c.loop-gap.invariant.1) (λ h. absurd (omega (arith, c.loop-gap-test.false)))
