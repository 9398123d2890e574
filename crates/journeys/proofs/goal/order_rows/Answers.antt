-- `journeys::goal::order_rows` meets its contract. Assumes nothing.
use mathlib.Core.Path.{◌≡◌, sym, ◌∙◌, subst}
use Prim.Native.Nat.{ℕ}
use native.Mathlib.Omega.{arith}
use Rattle.journeys.specs.Inner.Chain.{Ordering}
use Rattle.journeys.proofs.Ordering.{ordering-skip, ordering-all}
use Rattle.journeys.proofs.goal.order_rows.Goals as goal
use Rattle.journeys.proofs.goal.order_rows.Goals.{then-is_goal_row, else-is_goal_row}

pub loop-k-preserved : goal.loop-k-preserved
loop-k-preserved c =
    elim c.if-is_goal_row.branch [
      | then-is_goal_row w ↦ rw (w.table-is, w.at-is) (w.order_row-at.ensures.of _ _ _ c.loop-k.invariant (sym c.is_goal_row.ensures ∙ w.if-is_goal_row.true))
      | else-is_goal_row w ↦ rw (w.table-is, w.at-is) (ordering-skip c.loop-k.invariant (sym c.is_goal_row.ensures ∙ w.if-is_goal_row.false))
    ]

pub returns : goal.returns
returns c =
    let e : c.loop-k.k ≡ c.args.n = omega arith in
    ordering-all _ _ _ _ _ _ (subst (λ (i : ℕ). Ordering c.args.v.0 c.args.counting.now i c.args.table.now c.loop-k.table c.loop-k.at) e c.loop-k.invariant)
