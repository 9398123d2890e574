-- `arrivals::by_lists::over_links` meets its contract: the corridors into the place are gone through from the last. Assumes nothing.
use mathlib.Core.Path.{◌∙◌, refl}
use native.Mathlib.Omega.{arith}
use borrow.Author.Rules.{rules}
use Rattle.arrivals.specs.Inner.Offering.{swept_none}
use Rattle.arrivals.specs.Inner.Sweeps.{over-end, over_none, over-step, reaching-kept, swept-refused}
use Rattle.arrivals.specs.Inner.Turning.{placeable-kept, placeable-none, shows_kept, sources-kept}
use Rattle.arrivals.proofs.by_lists.over_links.Goals as goal

pub last_link-j-requires : goal.last_link-j-requires
last_link-j-requires c = (omega arith, c.requires.0.ready.inside, c.requires.0.given.size)

pub loop-j-init : goal.loop-j-init
loop-j-init c =
    let p = c.requires in
    let v = c.args.site.here.place.0 in (
      omega (arith, c.last_link-j.ensures, p.0.given.into.heads v p.0.ready.inside),
      refl,
      swept_none (placeable-none p.0.ready).room
          (λ g o. over_none _ _ _ _ _ _ _ g (λ i l m e. p.0.given.into.head v i p.0.ready.inside (omega (arith, c.last_link-j.ensures)) m e) o),
    )

pub over_link-requires : goal.over_link-requires
over_link-requires c =
    let p = c.requires in
    let inv = c.loop-j.invariant in
    (reaching-kept inv.1 inv.2.below p.0, placeable-kept inv.1 inv.2 (placeable-none p.0.ready), shows_kept inv.2.below p.1, sources-kept inv.2.below p.2, omega arith)

pub returns-in_err-e : goal.returns-in_err-e
returns-in_err-e c = swept-refused _ c.from_residual.ensures.0 (λ j l. c.over_link.ensures.below j l ∙ c.loop-j.invariant.2.below j l) (omega (arith, c.over_link.ensures.room))

pub next_link-j-requires : goal.next_link-j-requires
next_link-j-requires c = let p = c.requires in (omega arith, omega (arith, p.0.given.few), p.0.given.size, omega arith, p.0.given.into)

pub loop-j-smaller : goal.loop-j-smaller
loop-j-smaller c = omega (arith, c.next_link-j.ensures.most)

pub loop-j-preserved : goal.loop-j-preserved
loop-j-preserved c =
    let inv = c.loop-j.invariant in (
      omega (arith, c.next_link-j.ensures.most),
      search rules,
      over-step _ _ _ _ _ _ _ c.loop-j.j _ _ _ _ _ _ (omega arith) inv.0 c.next_link-j.ensures inv.2 c.in_ok-e.ensures,
    )

pub shape_of-table : goal.shape_of-table
shape_of-table c = c.loop-j.invariant.1

pub returns : goal.returns
returns c = over-end _ _ _ _ _ _ c.loop-j.j _ _ _ (omega arith) c.loop-j.invariant.2
