-- `journeys::slow::nth_slow` meets its contract. Assumes nothing.
use mathlib.Core.Path.{◌≡◌, refl, sym, ◌∙◌, ap, ap₂}
use mathlib.Core.Bool.{Bool, false, ◌&&◌}
use Prim.Native.Nat.{ℕ}
use native.Mathlib.Omega.{arith}
use lib.Dec.{eqb}
use Rattle.costs.specs.Costs.{Cost}
use Rattle.journeys.specs.Inner.Slow.{none_below, count_to, has_number}
use Rattle.journeys.proofs.Comparing.{slow-on, slow-off}
use Rattle.journeys.proofs.slow.nth_slow.Goals as goal

pub returns-then-is_front_row-place : goal.returns-then-is_front_row-place
returns-then-is_front_row-place c =
    let a = c.args in
    let l = c.loop-k in
    let e = ap₂ (λ (b : Bool) (m : ℕ). b && eqb m a.number) c.is_front_row.ensures
    (c.count_rows-place.ensures ∙ ap (λ (g : Cost). count_to a.v.0 a.counting.now a.n a.table.now false g a.n) c.row_cost-cost.ensures) in
    slow-on a.v.0 a.counting.now a.n a.table.now a.number l.k _ (omega arith) (sym e ∙ c.if-is_front_row-place.true) c.row_cost-cost.ensures refl

pub returns : goal.returns
returns c =
    let a = c.args in
    let l = c.loop-k in
    let z : a.n ≡ l.k = omega arith in
    slow-off a.v.0 a.counting.now a.n a.table.now a.number (ap (none_below (has_number a.v.0 a.counting.now a.n a.table.now a.number)) z ∙ l.invariant.1)
