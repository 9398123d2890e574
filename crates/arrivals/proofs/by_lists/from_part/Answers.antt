-- `arrivals::by_lists::from_part` meets its contract: the costs of the part are gone through. Assumes nothing.
use mathlib.Core.Path.{◌∙◌, ap, refl, subst, sym}
use Prim.Native.Nat.{◌+◌}
use native.Mathlib.Omega.{arith}
use borrow.Author.Rules.{rules}
use Rattle.costs.specs.Costs.{AtMost, add}
use Rattle.costs.specs.Laws.Figures.{within-add, within_more}
use Rattle.arrivals.specs.Inner.Facts.{within_of}
use Rattle.arrivals.specs.Inner.Offering.{swept_none}
use Rattle.arrivals.specs.Inner.Sweeps.{swept-refused}
use Rattle.arrivals.specs.Inner.Turning.{brought-end, brought-more, brought-none, placeable-kept, shows_kept, within-left}
use Rattle.arrivals.proofs.by_lists.from_part.Goals as goal

pub loop-i-init : goal.loop-i-init
loop-i-init c =
    let a = c.args in
    (omega arith, refl, swept_none c.requires.0.room (λ g b. brought-none a.site.here a.a a.live.now a.turn a.part.at a.table.now g b))

pub overflow_mul-i : goal.overflow_mul-i
overflow_mul-i c = search (rules, c.requires.2.inside)

pub overflow_add-part : goal.overflow_add-part
overflow_add-part c = search (rules, c.requires.2.inside)

pub cost_from-held-requires : goal.cost_from-held-requires
cost_from-held-requires c = omega (arith, c.requires.2.inside)

pub less-requires : goal.less-requires
less-requires c = subst (AtMost c.args.turn.over) (sym c.cost_from-held.ensures) (c.requires.2.most c.loop-i.i (omega arith))

pub sum-g-requires : goal.sum-g-requires
sum-g-requires c =
    let t = c.requires.2 in
    let o = c.args.turn in (
      within_more 100000000 1000000000 c.less.result (omega arith)
          (within-left 100000000 c.less.result o.over _ (c.less.ensures.1 ∙ c.cost_from-held.ensures) (t.small c.loop-i.i (omega arith))),
      within_more 60000 1000000000 o.cost (omega arith) t.cost,
    )

pub sum-requires : goal.sum-requires
sum-requires c =
    let t = c.requires.2 in
    let o = c.args.turn in
    let l = within-left 100000000 c.less.result o.over _ (c.less.ensures.1 ∙ c.cost_from-held.ensures) (t.small c.loop-i.i (omega arith)) in
    (within_of (100000000 + 60000) 1000000000 c.sum-g.ensures (omega arith) (within-add 100000000 60000 c.less.result o.cost l t.cost), within_more 100000000 1000000000 o.rest (omega arith) t.rest)

pub offer_live-requires : goal.offer_live-requires
offer_live-requires c =
    let inv = c.loop-i.invariant in
    let p = c.requires in
    (placeable-kept inv.1 inv.2 p.0, shows_kept inv.2.below p.1, c.sum.ensures ∙ ap (add c.sum-g.result) p.3)

pub returns-in_err-e : goal.returns-in_err-e
returns-in_err-e c = swept-refused _ c.from_residual.ensures.0 (λ j l. c.offer_live.ensures.below j l ∙ c.loop-i.invariant.2.below j l) (omega (arith, c.offer_live.ensures.room))

pub loop-i-preserved : goal.loop-i-preserved
loop-i-preserved c =
    let inv = c.loop-i.invariant in
    let a = c.args in (
      omega arith,
      search rules,
      brought-more a.site.here a.a a.live.now a.turn a.table.now c.loop-i.table _ a.part.at c.loop-i.i c.less.result c.sum-g.result _ _ _ _ c.less.ensures.0
          (c.less.ensures.1 ∙ c.cost_from-held.ensures) c.sum-g.ensures inv.2 c.in_ok-e.ensures,
    )

pub shape_of-table : goal.shape_of-table
shape_of-table c = c.loop-i.invariant.1

pub returns : goal.returns
returns c =
    let a = c.args in
    brought-end a.site.here a.a a.live.now a.turn a.table.now c.loop-i.table a.part c.loop-i.i _ _ c.loop-i.invariant.0 c.loop-i-test.false c.loop-i.invariant.2
