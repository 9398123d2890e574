-- `arrivals::fill::next_place` meets its contract. Assumes nothing.
use mathlib.Core.Path.{subst}
use Prim.Native.Nat.{ℕ, ◌<◌, ◌≤◌}
use native.Mathlib.Omega.{arith}
use Rattle.arrivals.specs.Inner.Compared.{not-upto, upto_of}
use Rattle.arrivals.specs.Inner.Walking.{Walking, pass-to, pass-occupied}
use Rattle.arrivals.proofs.fill.next_place.Goals as goal

pub places_of-places-requires : goal.places_of-places-requires
places_of-places-requires c = c.requires.0.size

pub loop-u-init : goal.loop-u-init
loop-u-init c = (omega arith, λ xs n look w. w)

pub next_in-w-requires : goal.next_in-w-requires
next_in-w-requires c = omega (arith, c.places_of-places.ensures, c.requires.0.places)

pub returns-then-places-w : goal.returns-then-places-w
returns-then-places-w c =
    let inv = c.loop-u.invariant in
    let e = c.places_of-places.ensures in
    record { passed = λ xs n look w. pass-to _ _ _ look (omega (arith, e)) (omega arith) (λ u a b. c.next_in-w.ensures.none u a (omega (arith, e))) (inv.1 xs n look w) }

pub first_step-since-requires : goal.first_step-since-requires
first_step-since-requires c =
    let p = c.requires in
    (omega (arith, c.places_of-places.ensures, p.0.places), p.1, p.0.intervals)

pub returns-then-le : goal.returns-then-le
returns-then-le c =
    let inv = c.loop-u.invariant in
    let e = c.places_of-places.ensures in
    let z = c.next_in-w.ensures in
    let free : c.first_step-since.result.0 ≤ c.args.t.0 = upto_of c.le.ensures c.if-le.true in (
      omega (arith, e),
      record {
        on = omega (arith, inv.0, z.on);
        vacant = λ l. omega (arith, c.first_step-since.ensures, free);
        passed = λ xs n look w. pass-to _ _ _ look z.on (omega (arith, e)) z.none (inv.1 xs n look w);
      },
    )

pub overflow_add-u : goal.overflow_add-u
overflow_add-u c =
    omega (arith, c.places_of-places.ensures, c.requires.0.places)

pub loop-u-smaller : goal.loop-u-smaller
loop-u-smaller c = omega (arith, c.places_of-places.ensures, c.next_in-w.ensures.on)

pub loop-u-preserved : goal.loop-u-preserved
loop-u-preserved c =
    let inv = c.loop-u.invariant in
    let e = c.places_of-places.ensures in
    let z = c.next_in-w.ensures in
    let after : c.args.t.0 < c.first_step-since.result.0 = not-upto c.le.ensures c.if-le.false in (
      omega (arith, inv.0, z.on),
      λ xs n look w. pass-occupied (omega (arith, e)) (omega (arith, c.first_step-since.ensures, after)) (pass-to _ _ _ look z.on (omega (arith, e)) z.none (inv.1 xs n look w)),
    )

pub returns : goal.returns
returns c =
    let inv = c.loop-u.invariant in
    let e = c.places_of-places.ensures in
    record { passed = λ xs n look w. let z = inv.1 xs n look w in subst (λ (u : ℕ). Walking c.args.runs.now c.args.net.now xs n u c.args.t.0) (omega (arith, e, z.upto)) z }
