-- `arrivals::by_lists::live_step` meets its contract: the places of the step's set that are free are visited one after another, unless one gives up, then the
-- lists of those with new rows are settled. Assumes nothing.
use mathlib.Core.Path.{refl, sym, ◌∙◌, subst}
use native.Mathlib.Omega.{arith}
use borrow.Author.Rules.{rules}
use Rattle.std.proofs.lemmas.Result.{err_from_is_err_and}
use Rattle.sheet.specs.Laws.Decided.{false-not-true}
use Rattle.arrivals.specs.Inner.Due.{Lookout, Onward, lookout, lookout-on, onward-none, onward-on}
use Rattle.arrivals.specs.Inner.Filling.{filled-end, result-done}
use Rattle.arrivals.specs.Inner.Lists.{AllSettleable}
use Rattle.arrivals.specs.Inner.Standing.{Gathering, all-settleable, gathering-end, gathering-first, gathering-on, gathering-past}
use Rattle.arrivals.specs.Inner.Walking.{due-at, due-on, walking-first, walking_on, walking-visiting}
use Rattle.arrivals.proofs.by_lists.live_step.Goals as goal

pub step_set-set-requires : goal.step_set-set-requires
step_set-set-requires c = let p = c.requires in (p.0.last, p.2.size)

pub places_of-requires : goal.places_of-requires
places_of-requires c = c.requires.0.given.size

pub next_place-at-requires : goal.next_place-at-requires
next_place-at-requires c = let p = c.requires in (p.0.given, p.0.last)

pub next_place-at-requires-in-Some : goal.next_place-at-requires-in-Some
next_place-at-requires-in-Some c = let p = c.requires in (p.0.given, p.0.last)

pub loop-at-init : goal.loop-at-init
loop-at-init c =
    let p = c.requires in
    let look = subst (Lookout _ _ _ _ _) (sym c.step_set-set.ensures) (lookout _ _ _ _ _ _ _ p.0.given p.2 p.0.first p.0.last p.3) in
    let d = due-at _ c.next_place-at.ensures look (walking-first p.0) in
    (refl, refl, d.0, d.1, look, onward-none _ _ _ _ _ p.0.first p.0.filled, gathering-past _ (due-on _ _ _ _ _ _ c.next_place-at.ensures (omega arith)) (gathering-first _ p.1), λ j l. refl)

pub visit_live-requires : goal.visit_live-requires
visit_live-requires c =
    let inv = c.loop-at.invariant in
    let d = rw c.in-Some.is at inv.3 in
    (walking-visiting (rw c.in-Some.is at inv.2) d.0, d.1, record { rows = _; sourcing = inv.6.sourcing })

pub returns-in_err-m : goal.returns-in_err-m
returns-in_err-m c =
    let p = err_from_is_err_and c.from_residual.result c.from_residual.ensures.1 in
    rw p.1 (record { below = λ j l. c.visit_live.ensures.below j (omega (arith, c.loop-at.invariant.6.sourcing.upto)) ∙ c.loop-at.invariant.7 j l; result = λ e. absurd (false-not-true refl e); sourcing = λ e. absurd (false-not-true refl e); onward = λ e. absurd (false-not-true refl e) })

pub led_on-onward-requires : goal.led_on-onward-requires
led_on-onward-requires c = let p = c.requires in let d = rw c.in-Some.is at c.loop-at.invariant.3 in (omega (arith, d.0, p.0.given.places), p.2.size)

pub grown_by-grown-requires : goal.grown_by-grown-requires
grown_by-grown-requires c = let d = rw c.in-Some.is at c.loop-at.invariant.3 in omega (arith, d.0, c.requires.0.given.places)

pub overflow_add-v : goal.overflow_add-v
overflow_add-v c = let d = rw c.in-Some.is at c.loop-at.invariant.3 in omega (arith, d.0, c.requires.0.given.places)

pub loop-at-smaller : goal.loop-at-smaller
loop-at-smaller c =
    let d = rw c.in-Some.is at c.loop-at.invariant.3 in
    let o = due-on _ _ _ _ _ _ c.next_place-at-in-Some.ensures (omega (arith, d.0)) in
    rw c.in-Some.is (omega (arith, d.0, o))

pub loop-at-preserved : goal.loop-at-preserved
loop-at-preserved c =
    let p = c.requires in
    let inv = c.loop-at.invariant in
    let d = rw c.in-Some.is at inv.3 in
    let x = c.in_ok-m.ensures in
    let y = x.visited refl in
    let look = lookout-on y.grown inv.4 in
    let r = c.next_place-at-in-Some.ensures in
    let e = due-at _ r look (walking_on (rw c.in-Some.is at inv.2) d.0 y.result refl) in (
      search rules,
      search rules,
      e.0,
      e.1,
      look,
      subst (Onward _ _ _ _) (sym c.led_on-onward.ensures) (onward-on p.0.first p.2 y.grown inv.5),
      subst (Gathering _ _ _ _ _ _ _ _) (sym c.grown_by-grown.ensures)
          (gathering-past _ (due-on _ _ _ _ _ _ r (omega (arith, d.0))) (gathering-on p.0.given.places d.0 d.1 y.grown (x.aside refl) (x.pending refl) (rw c.in-Some.is at inv.6))),
      λ j b. x.below j (omega (arith, inv.6.sourcing.upto)) ∙ inv.7 j b,
    )

pub settle_all-requires : goal.settle_all-requires
settle_all-requires c =
    let inv = c.loop-at.invariant in
    let p = c.requires.0 in
    let e = c.places_of.ensures in
    (omega (arith, e, p.given.places), p.last, p.given.intervals, omega (arith, e, inv.6.sourcing.size), subst (AllSettleable _ _) (sym e) (all-settleable inv.6))

pub shape_of-table : goal.shape_of-table
shape_of-table c = c.loop-at.invariant.0

pub returns : goal.returns
returns c =
    let inv = c.loop-at.invariant in
    let p = c.requires.0 in
    let w = rw c.in_default.is at inv.2 in
    record {
      below = inv.7;
      result = λ e. result-done _ _ _ _ _ w.room (filled-end _ _ _ _ w.upto (omega arith) w.filled);
      sourcing = λ e. gathering-end p.given p.last c.places_of.ensures inv.6 c.settle_all.ensures;
      onward = λ e. inv.5;
    }
