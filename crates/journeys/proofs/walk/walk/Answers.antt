-- `journeys::walk::walk` meets its contract. Assumes nothing.
use mathlib.Core.Path.{◌≡◌, refl, ◌∙◌, subst}
use Prim.Native.Nat.{ℕ, ◌+◌}
use native.Mathlib.Omega.{arith}
use lib.ListN.{set}
use Rattle.journeys.specs.Inner.Lookup.{standing}
use Rattle.journeys.proofs.Walking.{CameTo, come-start, come-on, come-end, begins, rowed, led, bare-again, next-step, walkable}
use Rattle.journeys.proofs.walk.walk.Goals as goal

pub mark_ways-requires : goal.mark_ways-requires
mark_ways-requires c = c.requires.ends

pub bounds-path-0 : goal.bounds-path-0
bounds-path-0 c = omega (arith, c.requires.room)

pub loop-t-init : goal.loop-t-init
loop-t-init c = (refl, λ f k. come-start k c.start.ensures refl)

pub next_stand-at-requires : goal.next_stand-at-requires
next_stand-at-requires c =
    let m = led c.requires c.mark_ways.ensures in
    walkable (rowed c.requires c.mark_ways.ensures) m (c.loop-t.invariant.1 _ m) (omega (arith, c.loop-t.invariant.0, c.loop-t-test.true))

pub loop-t-preserved : goal.loop-t-preserved
loop-t-preserved c =
    let l = c.loop-t in
    let w = c.next_stand-at.ensures in
    let z : c.next_stand-at.result.step.0 ≡ l.t + 1 = omega (arith, next-step w, l.invariant.0) in
    let s = c.args.sheet.now in
    let b = c.next_stand-at.result in
    let before = set c.args.path.now 0 c.start.result.0 in
    (z, λ f k. subst (λ (i : ℕ). CameTo s f c.args.arrival.0 (standing b) before (set l.path i b.place.0)) z (come-on k (l.invariant.1 f k) w))

pub clear_marks-requires : goal.clear_marks-requires
clear_marks-requires c = (rowed c.requires c.mark_ways.ensures).rows.sorted.room

pub returns : goal.returns
returns c =
    let l = c.loop-t in
    let m = led c.requires c.mark_ways.ensures in
    let e = c.start.ensures in
    (bare-again c.requires c.mark_ways.ensures.rows c.clear_marks.ensures, come-end m (l.invariant.1 _ m) (omega (arith, l.invariant.0)) ∙ begins m c.args.path.now e)
