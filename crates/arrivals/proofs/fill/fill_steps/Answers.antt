-- `arrivals::fill::fill_steps` meets its contract: the steps are filled in one after another. Assumes nothing.
use mathlib.Core.Path.{◌≡◌, refl, subst}
use Prim.Native.Nat.{◌+◌, ◌-◌}
use native.Mathlib.Omega.{arith}
use borrow.Author.Rules.{rules}
use Rattle.std.proofs.lemmas.Result.{err_from_is_err_and}
use Rattle.arrivals.specs.Inner.Due.{onward-all}
use Rattle.arrivals.specs.Inner.Filling.{crowded-last, filled-last, result-done, result-full}
use Rattle.arrivals.specs.Inner.Index.{Indexed, indexed-step}
use Rattle.arrivals.specs.Inner.Lent.{given-linked}
use Rattle.arrivals.proofs.fill.fill_steps.Goals as goal

pub loop-t-init : goal.loop-t-init
loop-t-init c = let p = c.requires in (p.0.first, p.3, p.0.room, refl, refl, p.0.filled, p.1, onward-all _ _ _ (given-linked p.0.given))

pub fill_step-requires : goal.fill_step-requires
fill_step-requires c =
    let inv = c.loop-t.invariant in
    let p = c.requires in (
      record { given = p.0.given; inside = p.0.inside; first = inv.0; last = omega (arith, p.2); room = inv.2; filled = inv.5 },
      λ b. (indexed-step _ (omega arith) (omega (arith, p.2)) (omega (arith, inv.4, p.5)) (inv.6 b).0, (inv.6 b).1),
      p.4,
      inv.7,
    )

pub returns-in_err-r : goal.returns-in_err-r
returns-in_err-r c =
    let r = c.in_err-r.ensures in
    let p = err_from_is_err_and c.from_residual.result c.from_residual.ensures.1 in
    rw (p.1, p.2) (result-full _ _ _ _ _ r.result.room (crowded-last _ (omega arith) (r.result.full refl)))

pub loop-t-preserved : goal.loop-t-preserved
loop-t-preserved c =
    let r = c.in_ok-r.ensures in
    let t = c.loop-t.t in
    let z : t ≡ t + 1 - 1 = omega arith in (
      omega arith,
      omega arith,
      r.result.room,
      search rules,
      search rules,
      r.result.done refl,
      λ b. let w = r.index refl b in (subst (Indexed _ _ _) z w.0, w.1),
      r.onward refl,
    )

pub shape_of-table : goal.shape_of-table
shape_of-table c = c.loop-t.invariant.3

pub shape_of-ix : goal.shape_of-ix
shape_of-ix c = c.loop-t.invariant.4

pub returns : goal.returns
returns c = let inv = c.loop-t.invariant in result-done _ _ _ _ _ inv.2 (filled-last _ _ _ _ inv.1 (omega arith) inv.5)
