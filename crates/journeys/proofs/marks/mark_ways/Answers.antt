-- `journeys::marks::mark_ways` meets its contract. Assumes nothing.
use mathlib.Core.Path.{◌≡◌, subst}
use Prim.Native.Nat.{◌+◌, ◌-◌}
use native.Mathlib.Omega.{arith}
use Rattle.journeys.specs.Inner.Marks.{Marks}
use Rattle.journeys.proofs.Marking.{same_refl, same-trans, same-rowed}
use Rattle.journeys.proofs.Crossings.{step-passed, passed-as}
use Rattle.journeys.proofs.Tightness.{marks-step, end-rows, end-rowed, end-day, end-within, end-passed, end-marks}
use Rattle.journeys.proofs.marks.mark_ways.Goals as goal

pub row_of-requires : goal.row_of-requires
row_of-requires c = (end-rows c.requires).sorted

pub unreachable-requires : goal.unreachable-requires
unreachable-requires c = omega (arith, end-within c.requires c.goal.ensures c.in_default.ensures)

pub overflow_add-arrival : goal.overflow_add-arrival
overflow_add-arrival c = omega (arith, end-day c.requires)

pub raise-requires : goal.raise-requires
raise-requires c = (c.in-Some.ensures.0, (end-rows c.requires).sorted.room, omega (arith, end-day c.requires))

pub loop-t-init : goal.loop-t-init
loop-t-init c = (same_refl, end-passed c.requires c.raise.ensures, λ f o m. let z : c.args.arrival.0 ≡ c.args.arrival.0 + 1 - 1 = omega arith in subst (Marks _ _ _ _ _) z m)

pub overflow_step-t : goal.overflow_step-t
overflow_step-t c = omega (arith, end-day c.requires)

pub mark_step-requires : goal.mark_step-requires
mark_step-requires c =
    record { rowed = same-rowed c.loop-t.invariant.0 (same-rowed c.raise.ensures.rows (end-rowed c.requires)); moved = omega arith; day = omega (arith, end-day c.requires); passed = passed-as (omega arith) c.loop-t.invariant.1 }

pub loop-t-preserved : goal.loop-t-preserved
loop-t-preserved c =
    let l = c.loop-t in
    let rows = (same-rowed l.invariant.0 (same-rowed c.raise.ensures.rows (end-rowed c.requires))).rows in
    (same-trans l.invariant.0 c.mark_step.ensures.rows, step-passed c.mark_step.ensures, λ f o m. marks-step o rows (omega arith) (omega arith) (l.invariant.2 f o m) c.mark_step.ensures)

pub returns : goal.returns
returns c =
    let l = c.loop-t in
    let z : l.t - 1 ≡ 0 = omega arith in
    let m = l.invariant.2 _ c.requires.on-front (end-marks c.requires c.goal.ensures c.in-Some.ensures.1 c.raise.ensures) in
    record { rows = same-trans c.raise.ensures.rows l.invariant.0; marks = subst (Marks _ _ _ _ _) z m }
