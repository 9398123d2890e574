-- `arrivals::offers::led_walk` meets its contract: the groups of the place are gone through from the newest. Assumes nothing.
use mathlib.Core.Path.{◌≡◌}
use Prim.Native.Nat.{◌+◌, ◌-◌}
use native.Mathlib.Omega.{arith}
use Rattle.sheet.specs.Laws.Decided.{fails, holds, no_of, yes_of}
use Rattle.arrivals.specs.Inner.Index.{older-most, row-newest}
use Rattle.arrivals.specs.Inner.Leaders.{group-leads, span-as, unled-all, unled-more}
use Rattle.arrivals.proofs.offers.led_walk.Goals as goal

pub newest-s-requires : goal.newest-s-requires
newest-s-requires c = (c.requires.0.inside, omega (arith, c.requires.1.size))

pub loop-s-init : goal.loop-s-init
loop-s-init c = let w = c.requires.1 in (omega (arith, c.newest-s.ensures, w.latest c.args.here.place.0 c.requires.0.inside), w.now, w.size, λ i l k p q d. let z = row-newest w i c.args.here.place.0 l p in omega (arith, c.newest-s.ensures))

pub group-rows-requires : goal.group-rows-requires
group-rows-requires c = (c.requires.0.inside, omega arith, omega (arith, c.loop-s.invariant.2))

pub multiple-requires : goal.multiple-requires
multiple-requires c = (omega arith, c.requires.0.waits)

pub led_group-requires : goal.led_group-requires
led_group-requires c = let b = c.requires.1.order (c.loop-s.s - 1) c.args.here.place.0 (omega arith) c.requires.0.inside in (omega (arith, c.group-rows.ensures.0, c.group-rows.ensures.1, b.0), omega (arith, c.group-rows.ensures.1, b.1, c.requires.0.room))

pub returns-then-led_group : goal.returns-then-led_group
returns-then-led_group c = let a = c.args in holds (group-leads c.requires.1 (c.loop-s.s - 1) a.here.place.0 a.here.since.0 a.here.wait a.g c.requires.0.inside c.multiple.result (omega arith) (omega arith) c.multiple.ensures (yes_of (span-as _ _ _ _ _ c.group-rows.ensures.0 c.group-rows.ensures.1 c.led_group.ensures) c.if-led_group.true))

pub older-s-requires : goal.older-s-requires
older-s-requires c = (c.requires.0.inside, omega arith, omega (arith, c.loop-s.invariant.2))

pub loop-s-smaller : goal.loop-s-smaller
loop-s-smaller c = let m = older-most c.requires.1 (omega arith) c.requires.0.inside c.older-s.ensures in omega arith

pub loop-s-preserved : goal.loop-s-preserved
loop-s-preserved c = let a = c.args in let inv = c.loop-s.invariant in let m = older-most c.requires.1 (omega arith) c.requires.0.inside c.older-s.ensures in let e : c.loop-s.s ≡ c.loop-s.s - 1 + 1 = omega arith in (omega arith, inv.1, inv.2, unled-more c.requires.1 (c.loop-s.s - 1) a.here.place.0 a.here.since.0 a.here.wait a.g c.requires.0.inside c.multiple.result c.older-s.result.0 (omega arith) c.multiple.ensures (no_of (span-as _ _ _ _ _ c.group-rows.ensures.0 c.group-rows.ensures.1 c.led_group.ensures) c.if-led_group.false) c.older-s.ensures (λ i l k p q d. inv.3 i l k p (omega arith) d))

pub returns : goal.returns
returns c = fails (unled-all _ _ _ _ c.loop-s.s _ _ _ _ c.requires.2 (omega arith) c.loop-s.invariant.3)
