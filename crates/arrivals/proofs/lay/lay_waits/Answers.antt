-- `arrivals::lay::lay_waits` meets its contract: the costs are stored place by place. Assumes nothing.
use mathlib.Core.Path.{refl, subst}
use native.Mathlib.Omega.{arith}
use Rattle.arrivals.specs.Inner.Laying.{WaitsTo, waits-more}
use Rattle.arrivals.specs.Laws.Rows.{besides-then, besides-wide}
use Rattle.arrivals.proofs.lay.lay_waits.Goals as goal

pub loop-v-init : goal.loop-v-init
loop-v-init c =
    (omega (arith, c.places-v-end.ensures.is, c.places-v-end.ensures.valid.most-places), record { each = λ u l. absurd (omega arith) }, record { size = refl; same = λ i o. refl })

pub put_figures-requires : goal.put_figures-requires
put_figures-requires c = omega (arith, c.loop-v.invariant.2.size, c.loop-v.invariant.0, c.requires)

pub loop-v-preserved : goal.loop-v-preserved
loop-v-preserved c =
    let inv = c.loop-v.invariant in
    let e = c.put_figures.ensures in
    (inv.0, waits-more _ _ _ c.loop-v.v _ (omega (arith, inv.0)) c.wait_at.ensures e inv.1, besides-then inv.2 (besides-wide 0 192 (omega arith) (omega (arith, inv.0)) e.others))

pub returns : goal.returns
returns c =
    let w = c.loop-v in
    record { waits = subst (WaitsTo _ _) (omega (arith, c.places-v-end.ensures.is)) w.invariant.1; others = w.invariant.2 }
