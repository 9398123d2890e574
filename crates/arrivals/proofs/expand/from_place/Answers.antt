-- `arrivals::expand::from_place` meets its contract: the rows of the source from its floor on are offered, group by group. Assumes nothing.
use mathlib.Core.Path.{◌∙◌, refl}
use native.Mathlib.Omega.{arith}
use borrow.Author.Rules.{rules}
use Rattle.arrivals.specs.Inner.Index.{older-most}
use Rattle.arrivals.specs.Inner.Offering.{swept_none}
use Rattle.arrivals.specs.Inner.Sweeps.{before_of, from-as, swept-refused, sweepable-kept, via-end, via-start, via-step}
use Rattle.arrivals.proofs.expand.from_place.Goals as goal

pub latest-s-requires : goal.latest-s-requires
latest-s-requires c = (c.requires.1.inside, omega (arith, c.requires.0.indexed.size))

pub loop-s-init : goal.loop-s-init
loop-s-init c = let p = c.requires in (c.latest-s.ensures.0, p.0.indexed.now, p.0.indexed.size, refl, swept_none p.0.room (λ g z. via-start _ _ _ _ _ _ p.0.indexed c.latest-s.ensures.1 z))

pub group-requires : goal.group-requires
group-requires c = (c.requires.1.inside, omega arith, omega (arith, c.loop-s.invariant.2))

pub from_rows-requires : goal.from_rows-requires
from_rows-requires c = let p = c.requires in let inv = c.loop-s.invariant in let q = sweepable-kept inv.3 inv.4 p.0 in (q, p.1, before_of q.indexed _ _ (omega arith) p.1.inside (omega arith) c.group.ensures.0 c.group.ensures.1)

pub returns-in_err-e : goal.returns-in_err-e
returns-in_err-e c = swept-refused _ c.from_residual.ensures.0 (λ j l. c.from_rows.ensures.below j l ∙ c.loop-s.invariant.4.below j l) (omega (arith, c.from_rows.ensures.room))

pub older-s-requires : goal.older-s-requires
older-s-requires c = (c.requires.1.inside, omega arith, omega (arith, c.loop-s.invariant.2))

pub loop-s-smaller : goal.loop-s-smaller
loop-s-smaller c = let m = older-most c.requires.0.indexed (omega arith) c.requires.1.inside c.older-s.ensures in omega arith

pub loop-s-preserved : goal.loop-s-preserved
loop-s-preserved c = let p = c.requires in let inv = c.loop-s.invariant in let m = older-most p.0.indexed (omega arith) p.1.inside c.older-s.ensures in (omega arith, inv.1, inv.2, search rules, via-step _ _ _ _ _ _ c.loop-s.s _ _ _ _ _ p.0.indexed p.1.inside (omega arith) inv.0 c.older-s.ensures inv.4 (from-as _ _ c.group.ensures.0 c.group.ensures.1 c.in_ok-e.ensures))

pub shape_of-table : goal.shape_of-table
shape_of-table c = c.loop-s.invariant.3

pub returns : goal.returns
returns c = via-end _ _ _ _ _ _ c.loop-s.s _ _ c.requires.2 (omega arith) c.loop-s.invariant.4
