-- Free and occupied by the lines of a group: a place is free at a step exactly where no line of the group covers it.
-- Assumes nothing.
use mathlib.Core.Path.{◌≡◌, sym, ◌∙◌, ap, subst}
use mathlib.Core.Bool.{true, false, not}
use mathlib.Core.List.{List}
use Prim.Native.Nat.{ℕ, ◌+◌, ◌*◌, ◌/◌, ◌<◌}
use native.Mathlib.Omega.{arith}
use lib.ListN.{length}
use borrow.Author.Tests.{not-true}
use Rattle.sheet.specs.Lists.{◌∈◌}
use Rattle.sheet.specs.Kinds.{kind_o}
use Rattle.sheet.specs.Sheet.{Sheet}
use Rattle.sheet.specs.Calls.{group_rows}
use Rattle.sheet.specs.Laws.Members.{all_true}
use Rattle.costs.specs.Laws.Rows.{row, row_number, mem-rows, rows-mem}
use Rattle.intervals.specs.Intervals.{occupiesb, freeb, Free}
use Rattle.intervals.specs.Inner.{coversb}
use Rattle.intervals.specs.Laws.Free.{occupies-occupiesb, not_free}

covers-row : (l : List ℕ) (v t k : ℕ) → occupiesb v t (row 3 l k) ≡ coversb l v t k
unfolding occupiesb
covers-row l v t k =
    let e : k * 3 + 0 ≡ k * 3 = omega arith in
    rw (row_number 3 l k 0 (omega arith), row_number 3 l k 1 (omega arith), row_number 3 l k 2 (omega arith), e)

module _ (l : List ℕ) (s : Sheet) (e : s.occupancies ≡ group_rows kind_o l) (v t : ℕ) where
  pub free-uncovered : Free s v t → (k : ℕ) → k < length l / 3 → coversb l v t k ≡ false
  unfolding freeb
  free-uncovered f k b =
      sym (covers-row l v t k)
      ∙ not-true (occupiesb v t (row 3 l k))
      (all_true (λ o. not (occupiesb v t o)) s.occupancies f (row 3 l k) (subst (λ (g : List (List ℕ)). row 3 l k ∈ g) (sym e) (mem-rows 3 (length l / 3) l k b)))

  pub taken-covered : freeb s v t ≡ false → (k : ℕ) × (k < length l / 3) × (coversb l v t k ≡ true)
  taken-covered f =
      let o = not_free s v t f in
      let r = rows-mem 3 (length l / 3) l o.line (subst (λ (g : List (List ℕ)). o.line ∈ g) e o.listed) in
      (r.0, r.1, sym (covers-row l v t r.0) ∙ ap (occupiesb v t) (sym r.2) ∙ occupies-occupiesb v t o.line (record { there = o.there; begun = o.begun; lasts = o.lasts }))
