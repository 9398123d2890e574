-- `journeys::slow::list_slow` meets its contract. Assumes nothing.
use mathlib.Core.Path.{◌≡◌, refl, sym, ◌∙◌, subst}
use mathlib.Core.List.{[], ◌∷◌}
use Prim.Native.Nat.{ℕ}
use native.Mathlib.Omega.{arith}
use Rattle.journeys.specs.Inner.Sweep.{Listed}
use Rattle.journeys.proofs.FrontRows.{front-counted}
use Rattle.journeys.proofs.Listing.{listed-none, listed-number, listed-whole}
use Rattle.journeys.proofs.Comparing.{front_list, slow-front, slow-count}
use Rattle.journeys.proofs.slow.list_slow.Goals as goal

pub loop-i-init : goal.loop-i-init
loop-i-init c =
    let a = c.args in
    (omega arith, refl, c.count_rows-count.ensures ∙ slow-count a.v.0 a.counting.now a.n a.table.now (0 ∷ 0 ∷ 0 ∷ []) ∙ sym (front-counted (slow-front a.v.0 a.counting.now a.n a.table.now)), listed-none (slow-front a.v.0 a.counting.now a.n a.table.now) c.requires)

pub unreachable-requires : goal.unreachable-requires
unreachable-requires c = let a = c.args in omega (arith, c.in_default.ensures, c.loop-i.invariant.2, front-counted (slow-front a.v.0 a.counting.now a.n a.table.now), c.loop-i-test.true)

pub loop-i-preserved : goal.loop-i-preserved
loop-i-preserved c =
    let a = c.args in
    let l = c.loop-i in
    let o = c.in-Some in (
      omega arith,
      c.put_cost.auto.list ∙ l.invariant.1,
      l.invariant.2,
      listed-number (slow-front a.v.0 a.counting.now a.n a.table.now) l.i o.o _ (omega (arith, l.invariant.2)) o.ensures c.put_cost.ensures l.invariant.3,
    )

pub returns : goal.returns
returns c =
    let a = c.args in
    let l = c.loop-i in
    let z : l.i ≡ c.count_rows-count.result = omega arith in
    c.clear_from.ensures
    ∙ listed-whole (slow-front a.v.0 a.counting.now a.n a.table.now) c.count_rows-count.result l.invariant.2 (subst (λ (m : ℕ). Listed a.table.now (front_list a.v.0 a.counting.now a.n a.table.now) m l.list) z l.invariant.3) _ l.invariant.1
