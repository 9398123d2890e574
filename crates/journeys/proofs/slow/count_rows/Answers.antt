-- `journeys::slow::count_rows` meets its contract. Assumes nothing.
use mathlib.Core.Path.{◌≡◌, refl, sym, ◌∙◌, ap, ap₂}
use mathlib.Core.Bool.{Bool, ◌&&◌, ◌||◌}
use native.Mathlib.Omega.{arith}
use Rattle.sheet.specs.Computed.{lexb}
use Rattle.costs.specs.Costs.{Cost}
use Rattle.journeys.specs.Inner.Slow.{in_count, count_to}
use Rattle.journeys.proofs.Comparing.{count_yes, count_no}
use Rattle.journeys.proofs.slow.count_rows.Goals as goal
use Rattle.journeys.proofs.slow.count_rows.Goals.{then-is_front_row-every, else-is_front_row-every}

pub loop-k-init : goal.loop-k-init
loop-k-init c = (omega arith, omega arith, refl)

pub is_front_row-requires : goal.is_front_row-requires
is_front_row-requires c = (omega arith, omega arith)

pub row_cost-requires : goal.row_cost-requires
row_cost-requires c = omega arith

pub overflow_add-count : goal.overflow_add-count
overflow_add-count c = omega arith

pub loop-k-preserved : goal.loop-k-preserved
loop-k-preserved c =
    let a = c.args in
    let l = c.loop-k in
    let e = ap₂ (λ (b d : Bool). b && (a.every || d)) c.is_front_row.ensures (c.before-in-loop-k.ensures ∙ ap (λ (h : Cost). lexb h a.g) c.row_cost.ensures) in
    let p = (in_count a.v.0 a.counting.now a.n a.table.now a.every a.g) in (
      omega arith,
      elim c.if-is_front_row-every.branch [ then-is_front_row-every w ↦ omega (arith, w.count-is) | else-is_front_row-every w ↦ omega (arith, w.count-is) ],
      elim c.if-is_front_row-every.branch [
        | then-is_front_row-every w ↦ count_yes p l.k l.count c.if-is_front_row-every.count l.invariant.2 (sym e ∙ w.if-is_front_row-every.true) w.count-is
        | else-is_front_row-every w ↦ count_no p l.k l.count c.if-is_front_row-every.count l.invariant.2 (sym e ∙ w.if-is_front_row-every.false) w.count-is
      ],
    )

pub returns : goal.returns
returns c =
    let a = c.args in
    let l = c.loop-k in
    let z : l.k ≡ a.n = omega arith in
    l.invariant.2 ∙ ap (count_to a.v.0 a.counting.now a.n a.table.now a.every a.g) z
