-- `sheet::writer::take_group` meets its contract: the lines are taken one by one. Assumes nothing.
use Rattle.std.specs.Prelude.{◌≡◌, refl, ℕ, List, ◌*◌, ◌/◌, ◌≤◌, ◌<◌, length, take, drop}
use Rattle.std.proofs.Common.{arith, ◌∙◌, ap, subst}
use Rattle.sheet.specs.Lists.{filled}
use Rattle.sheet.specs.Kinds.{width}
use Rattle.sheet.specs.Store.{kind_at}
use Rattle.sheet.proofs.Writing.{taken_next, taken-fault, taken-all, kept_next, group-few}
use Rattle.sheet.proofs.writer.take_group.Goals as goal

-- the row that was read is that of line i, which stands within the group
module _ (k i : ℕ) (g : List ℕ) (w : ℕ) (e : w ≡ width (kind_at k)) where
  row : (v : List ℕ) → v ≡ filled 8 (take w (drop (i * w) g)) → v ≡ filled 8 (take (width (kind_at k)) (drop (i * width (kind_at k)) g))
  row v d = d ∙ ap (λ (m : ℕ). filled 8 (take m (drop (i * m) g))) e

  below : i < length g / w → i < length g / width (kind_at k)
  below = subst (λ (m : ℕ). i < length g / m) e

pub returns-in-Err : goal.returns-in-Err
returns-in-Err c =
    let e = c.row_of-row.ensures.width_is in
    taken-fault c.args.k c.args.g.now c.requires.0 c.loop-i.invariant.0 (below _ _ _ _ e c.loop-i-test.true) c.row_at-v.result (row _ _ _ _ e _ c.row_at-v.ensures)
    c.in-Err.refusal c.in-Err.ensures

pub overflow_add-next : goal.overflow_add-next
overflow_add-next c = omega (arith, group-few c.loop-i.invariant.1)

pub loop-i-preserved : goal.loop-i-preserved
loop-i-preserved c =
    let e = c.row_of-row.ensures.width_is in
    let i = c.loop-i.invariant in (
      taken_next c.args.k c.args.g.now c.requires.0 i.0 (below _ _ _ _ e c.loop-i-test.true) c.row_at-v.result (row _ _ _ _ e _ c.row_at-v.ensures)
          c.in_default.ensures refl,
      kept_next i.1 c.in_default.ensures refl,
      omega (arith, c.loop-i-test.true),
    )

pub returns : goal.returns
returns c =
    let i = c.loop-i.invariant in
    taken-all c.args.k c.args.g.now c.requires.0 i.0 (subst (λ (m : ℕ). length c.args.g.now / m ≤ c.loop-i.i) c.row_of-row.ensures.width_is c.loop-i-test.false) i.1
