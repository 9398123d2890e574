-- `sheet::held::HeldSheet::group` meets its contract: the lines of a kind stand at its base, one after another.
-- Assumes nothing.
use mathlib.Core.Path.{◌≡◌, sym, ◌∙◌, ap}
use Prim.Native.Nat.{ℕ, ◌+◌, ◌*◌, ◌-◌, ◌≤◌}
use native.Mathlib.Omega.{arith}
use lib.ListN.{length, take, drop}
use Rattle.sheet.specs.Lists.{number}
use Rattle.sheet.specs.Kinds.{width}
use Rattle.sheet.specs.Store.{kind_at, store_room}
use Rattle.sheet.specs.Laws.Store.{store-count, store-few, store-part, store_length}
use Rattle.sheet.proofs.HeldSheets.{held-is}
use Rattle.sheet.proofs.held.HeldSheet.group.Goals as goal
use Rattle.sheet.proofs.held.HeldSheet.group.Goals.{After-count}

-- the count and the width are those of the kind
numbers : (c : After-count) → c.count.result * c.row_of-row.result.width ≡ number c.self.inside.lines.now c.args.k * width (kind_at c.args.k)
numbers c =
    ap (λ (n : ℕ). n * c.row_of-row.result.width) (c.count.ensures.counted ∙ sym (store-count (held-is c.self.invariant c.self.view_is) c.args.k c.requires))
    ∙ ap (λ (n : ℕ). number c.self.inside.lines.now c.args.k * n) c.row_of-row.ensures.width_is

-- the group ends inside the array, whose length is a small number
inside : (c : After-count)
    → (c.row_of-row.result.base + c.count.result * c.row_of-row.result.width ≤ length c.self.inside.all.now) × (length c.self.inside.all.now ≡ store_room)
inside c =
    let S = held-is c.self.invariant c.self.view_is in
    (omega (arith, numbers c, c.row_of-row.ensures.base-is, (store-few S c.args.k c.requires).1), store_length S)

pub overflow_mul-end : goal.overflow_mul-end
overflow_mul-end c = omega (arith, inside (goal.at.overflow_mul-end c).After-count)

pub overflow_add-end : goal.overflow_add-end
overflow_add-end c = omega (arith, inside (goal.at.overflow_add-end c).After-count)

pub slice_bounds-result-end : goal.slice_bounds-result-end
slice_bounds-result-end c = (inside (goal.at.slice_bounds-result-end c).After-count).0

pub returns : goal.returns
returns c =
    let S = held-is c.self.invariant c.self.view_is in
    let all = c.self.inside.all.now in
    let b = c.row_of-row.result.base in
    let n = c.count.result * c.row_of-row.result.width in
    let m = number c.self.inside.lines.now c.args.k * width (kind_at c.args.k) in
    let e : b + n - b ≡ m = omega (arith, numbers (goal.at.returns c).After-count) in
    record {
      valid = S.valid;
      numbers = ap (λ (k : ℕ). take k (drop b all)) e ∙ ap (λ (k : ℕ). take m (drop k all)) c.row_of-row.ensures.base-is ∙ store-part S c.args.k c.requires;
    }
