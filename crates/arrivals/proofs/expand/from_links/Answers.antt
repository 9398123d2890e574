-- `arrivals::expand::from_links` meets its contract: the corridors into the place are gone through from the last. Assumes nothing.
use mathlib.Core.Path.{◌∙◌, refl}
use native.Mathlib.Omega.{arith}
use borrow.Author.Rules.{rules}
use Rattle.arrivals.specs.Inner.Index.{covers_kept}
use Rattle.arrivals.specs.Inner.Offering.{swept_none}
use Rattle.arrivals.specs.Inner.Sweeps.{over-end, over_none, over-step, reaching-kept, swept-refused, sweepable-kept, sweepable-none}
use Rattle.arrivals.proofs.expand.from_links.Goals as goal

pub last_link-j-requires : goal.last_link-j-requires
last_link-j-requires c = (omega arith, c.requires.0.ready.inside, c.requires.0.given.size)

pub loop-j-init : goal.loop-j-init
loop-j-init c = let p = c.requires in let v = c.args.here.place.0 in (omega (arith, c.last_link-j.ensures, p.0.given.into.heads v p.0.ready.inside), refl, swept_none (sweepable-none p.1).room (λ g o. over_none _ _ _ _ _ _ _ g (λ i l m e. p.0.given.into.head v i p.0.ready.inside (omega (arith, c.last_link-j.ensures)) m e) o))

pub from_link-requires : goal.from_link-requires
from_link-requires c = let p = c.requires in let inv = c.loop-j.invariant in (reaching-kept inv.1 inv.2.below p.0, sweepable-kept inv.1 inv.2 (sweepable-none p.1), omega arith, λ v l. covers_kept inv.2.below (p.2 v l))

pub returns-in_err-e : goal.returns-in_err-e
returns-in_err-e c = swept-refused _ c.from_residual.ensures.0 (λ j l. c.from_link.ensures.below j l ∙ c.loop-j.invariant.2.below j l) (omega (arith, c.from_link.ensures.room))

pub next_link-j-requires : goal.next_link-j-requires
next_link-j-requires c = (omega arith, omega (arith, c.requires.0.given.few), c.requires.0.given.size, omega arith, c.requires.0.given.into)

pub loop-j-smaller : goal.loop-j-smaller
loop-j-smaller c = omega (arith, c.next_link-j.ensures.most)

pub loop-j-preserved : goal.loop-j-preserved
loop-j-preserved c = let inv = c.loop-j.invariant in (omega (arith, c.next_link-j.ensures.most), search rules, over-step _ _ _ _ _ _ _ c.loop-j.j _ _ _ _ _ _ (omega arith) inv.0 c.next_link-j.ensures inv.2 c.in_ok-e.ensures)

pub shape_of-table : goal.shape_of-table
shape_of-table c = c.loop-j.invariant.1

pub returns : goal.returns
returns c = over-end _ _ _ _ _ _ c.loop-j.j _ _ _ (omega arith) c.loop-j.invariant.2
