-- `arrivals::fill::fill_step` meets its contract: the places of the step's set that are free are visited one after another. Assumes nothing.
use mathlib.Core.Path.{refl, sym, subst}
use native.Mathlib.Omega.{arith}
use borrow.Author.Rules.{rules}
use Rattle.std.proofs.lemmas.Result.{err_from_is_err_and}
use Rattle.sheet.specs.Laws.Decided.{false-not-true}
use Rattle.arrivals.specs.Inner.Due.{Lookout, Onward, lookout, lookout-on, onward-none, onward-on}
use Rattle.arrivals.specs.Inner.Filling.{crowded-step, filled-end, result-done, result-full}
use Rattle.arrivals.specs.Inner.Settling.{walking-settling}
use Rattle.arrivals.specs.Inner.Walking.{due-at, due-on, walking-first, walking_on}
use Rattle.arrivals.proofs.fill.fill_step.Goals as goal

pub step_set-set-requires : goal.step_set-set-requires
step_set-set-requires c = let p = c.requires in (p.0.last, p.2.size)

pub next_place-at-requires : goal.next_place-at-requires
next_place-at-requires c = let p = c.requires in (p.0.given, p.0.last)

pub next_place-at-requires-in-Some : goal.next_place-at-requires-in-Some
next_place-at-requires-in-Some c = let p = c.requires in (p.0.given, p.0.last)

pub loop-at-init : goal.loop-at-init
loop-at-init c =
    let p = c.requires in
    let look = subst (Lookout _ _ _ _ _) (sym c.step_set-set.ensures) (lookout _ _ _ _ _ _ _ p.0.given p.2 p.0.first p.0.last p.3) in
    let d = due-at _ c.next_place-at.ensures look (walking-first p.0) in
    (refl, refl, d.0, p.1, d.1, look, onward-none _ _ _ _ _ p.0.first p.0.filled)

pub visit-requires : goal.visit-requires
visit-requires c =
    let inv = c.loop-at.invariant in
    let d = rw c.in-Some.is at inv.4 in
    (rw c.in-Some.is at inv.2, d.0, d.1, inv.3)

pub returns-in_err-m : goal.returns-in_err-m
returns-in_err-m c =
    let r = c.in_err-m.ensures.0.result in
    let p = err_from_is_err_and c.from_residual.result c.from_residual.ensures.1 in
    rw (p.1, p.2)
    (record {
      result = result-full _ _ _ _ _ r.room (crowded-step (r.full refl));
      index = λ e. absurd (false-not-true refl e);
      onward = λ e. absurd (false-not-true refl e);
    })

pub led_on-onward-requires : goal.led_on-onward-requires
led_on-onward-requires c = let p = c.requires in let d = rw c.in-Some.is at c.loop-at.invariant.4 in (omega (arith, d.0, p.0.given.places), p.2.size)

pub overflow_add-v : goal.overflow_add-v
overflow_add-v c = let d = rw c.in-Some.is at c.loop-at.invariant.4 in omega (arith, d.0, c.requires.0.given.places)

pub loop-at-smaller : goal.loop-at-smaller
loop-at-smaller c =
    let d = rw c.in-Some.is at c.loop-at.invariant.4 in
    let o = due-on _ _ _ _ _ _ c.next_place-at-in-Some.ensures (omega (arith, d.0)) in
    rw c.in-Some.is (omega (arith, d.0, o))

pub loop-at-preserved : goal.loop-at-preserved
loop-at-preserved c =
    let p = c.requires in
    let inv = c.loop-at.invariant in
    let d = rw c.in-Some.is at inv.4 in
    let x = c.in_ok-m.ensures in
    let look = lookout-on x.1 inv.5 in
    let e = due-at _ c.next_place-at-in-Some.ensures look (walking_on (rw c.in-Some.is at inv.2) d.0 x.0.result refl) in (
      search rules,
      search rules,
      e.0,
      x.0.index refl,
      e.1,
      look,
      subst (Onward _ _ _ _) (sym c.led_on-onward.ensures) (onward-on p.0.first p.2 x.1 inv.6),
    )

pub is_somewhere_dear-requires : goal.is_somewhere_dear-requires
is_somewhere_dear-requires c = c.requires.2.size

pub settle-requires : goal.settle-requires
settle-requires c = let inv = c.loop-at.invariant in (inv.2.given, λ short. record { rows = _; settling = walking-settling inv.2 inv.3 short })

pub shape_of-table : goal.shape_of-table
shape_of-table c = c.loop-at.invariant.0

pub returns : goal.returns
returns c =
    let inv = c.loop-at.invariant in
    let w = rw c.in_default.is at inv.2 in
    record {
      result = result-done _ _ _ _ _ w.room (filled-end _ _ _ _ w.upto (omega arith) w.filled);
      index = λ e short. let a = (c.settle.ensures short).of _ (walking-settling inv.2 inv.3 short) in (a.indexed, a.covered);
      onward = λ e. inv.6;
    }
