-- `arrivals::lists::settle_all` meets its contract: the places of the set are settled one after another. Assumes nothing.
use Rattle.std.proofs.Common.{◌<◌, arith}
use Rattle.arrivals.specs.Inner.Settled.{settled-past, settled-more, has_of}
use Rattle.arrivals.proofs.lists.settle_all.Goals as goal

pub returns-then-places-w : goal.returns-then-places-w
returns-then-places-w c =
    settled-past c.args.places c.loop-v.invariant.0 (λ w l m h. c.next_in-w.ensures.none w l (omega (arith, c.if-places-w.true)) h) c.loop-v.invariant.1

pub loop-v-preserved : goal.loop-v-preserved
loop-v-preserved c =
    let p = c.requires in
    let z = c.next_in-w.ensures in
    let w = c.next_in-w.result in
    let low : w < 64 = omega (arith, c.if-places-w.false, p.0) in (
      omega (arith, c.if-places-w.false),
      settled-more w c.if-places-w.false low (has_of low z.own) p.4 (settled-past w z.on z.none c.loop-v.invariant.1) c.settle_place.ensures,
    )
