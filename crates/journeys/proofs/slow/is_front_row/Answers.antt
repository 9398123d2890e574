-- `journeys::slow::is_front_row` meets its contract. Assumes nothing.
use mathlib.Core.Path.{◌≡◌, refl, sym, ◌∙◌, ap}
use mathlib.Core.Bool.{true}
use native.Mathlib.Omega.{arith}
use Rattle.journeys.specs.Inner.Slow.{none_below, kept_off, is_front_row}
use Rattle.journeys.proofs.Comparing.{none_more, not_none}
use Rattle.journeys.proofs.slow.is_front_row.Goals as goal

pub loop-j-init : goal.loop-j-init
loop-j-init c = (omega arith, refl)

pub is_kept_off-requires : goal.is_kept_off-requires
is_kept_off-requires c = (omega arith, omega arith)

pub returns-then-is_kept_off : goal.returns-then-is_kept_off
unfolding is_front_row
returns-then-is_kept_off c =
    let a = c.args in
    let l = c.loop-j in
    rw (not_none (kept_off a.v.0 a.counting.now a.table.now a.k) a.n l.j (omega arith) (sym c.is_kept_off.ensures ∙ c.if-is_kept_off.true))

pub loop-j-preserved : goal.loop-j-preserved
loop-j-preserved c =
    let a = c.args in
    let l = c.loop-j in
    (omega arith, none_more (kept_off a.v.0 a.counting.now a.table.now a.k) l.j l.invariant.1 (sym c.is_kept_off.ensures ∙ c.if-is_kept_off.false))

pub is_goal_row-requires : goal.is_goal_row-requires
is_goal_row-requires c = omega arith

pub returns : goal.returns
unfolding is_front_row
returns c =
    let a = c.args in
    let l = c.loop-j in
    let z : a.n ≡ l.j = omega arith in
    let e : none_below (kept_off a.v.0 a.counting.now a.table.now a.k) a.n ≡ true = ap (none_below (kept_off a.v.0 a.counting.now a.table.now a.k)) z ∙ l.invariant.1 in
    rw e c.is_goal_row.ensures
