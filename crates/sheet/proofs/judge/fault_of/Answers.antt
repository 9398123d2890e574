-- `sheet::judge::fault_of` meets its contract: the tests one after another, each as the arrays and the row of the line's kind tell it. For each test there
-- is what it found (`tried-`), and that the tests after it are left where it passed (`left-`).
-- Assumes nothing.
use mathlib.Core.Path.{◌≡◌, refl, sym, ◌∙◌, ap}
use mathlib.Core.Bool.{Bool, true, false, not}
use mathlib.Core.List.{List, map}
use Prim.Native.Nat.{ℕ, suc, ◌+◌, ◌*◌, ◌-◌, ◌<◌}
use native.Mathlib.Omega.{arith}
use native.Mathlib.Nat.{suc-mul}
use lib.Dec.{leb, eqb}
use lib.ListN.{length, get_or, take, drop}
use borrow.Author.Tests.{le-leb, lt-leb}
use Rattle.sheet.specs.Lists.{pick, number}
use Rattle.sheet.specs.Computed.{lexb}
use Rattle.sheet.specs.Lines.{Line}
use Rattle.sheet.specs.Sheet.{misplaced, outside, unpaired, tests, fault}
use Rattle.sheet.specs.Store.{kind_count}
use Rattle.sheet.specs.Inner.{limit_at, pair_at, line_at, misplaced_by, late_by, UnknownIs, RowIs, Stored}
use Rattle.sheet.specs.declared.kinds.Row.{Row}
use Rattle.sheet.specs.Laws.Kinds.{width_small}
use Rattle.sheet.proofs.Standing.{RowFits, row_fits}
use Rattle.sheet.proofs.Tested.{misplaced-is, many_is, outside-is, pair-among, unpaired-is, late_is, above-none, above-last}
use Rattle.sheet.proofs.FirstFault.{Left, Tried, first, left-next, left-stop}
use Rattle.sheet.proofs.judge.fault_of.Goals as goal
use Rattle.sheet.proofs.judge.fault_of.Goals.{Else-is_late, Else-n-eq0}

module _ (lines all : List ℕ) (k : ℕ) (v : List ℕ) where
  left-all : Left lines all (line_at k v) 3
  unfolding fault tests
  left-all = record { of = λ before S. refl }

module _ (lines all : List ℕ) (k : ℕ) (v : List ℕ) (row : Row) (h : k < kind_count) (R : RowIs k row) where
  -- test 3
  misplaced-at : (m b : Bool) → m ≡ misplaced_by lines all k v → m ≡ b → (before : List Line) → Stored before lines all → misplaced before (line_at k v) ≡ b
  misplaced-at m b d e before S = misplaced-is S h v ∙ sym d ∙ e

  tried-3 : (m b : Bool) → m ≡ misplaced_by lines all k v → m ≡ b → Tried lines all (line_at k v) 3 7 b
  unfolding tests
  tried-3 m b d e = record { of = λ before S. ap (first 3 _) (misplaced-at m b d e before S) }

  -- test 7
  tried-7 : (b : Bool) → leb row.most (number lines k) ≡ b → Tried lines all (line_at k v) 7 4 b
  unfolding tests
  tried-7 b e = record { of = λ before S. ap (first 7 _) (many_is S h R v ∙ e) }

  -- test 6
  tried-6 : (u b : Bool) → u ≡ unpaired (pair_at row.pair) v → u ≡ b → Tried lines all (line_at k v) 6 15 b
  unfolding tests
  tried-6 u b d e = record { of = λ before S. ap (first 6 _) (unpaired-is S h R v ∙ sym d ∙ e) }

  -- test 15
  tried-15 : (w b : Bool) → UnknownIs lines all k v w → w ≡ b → Tried lines all (line_at k v) 15 16 b
  unfolding tests
  tried-15 w b d e = record { of = λ before S. ap (first 15 _) (sym (d.of before S) ∙ e) }

  -- test 3 passed
  module _ (m : Bool) (md : m ≡ misplaced_by lines all k v) (mf : m ≡ false) where
    -- test 4
    tried-4 : (p : ℕ) (o b : Bool) → p ≡ pick (eqb k 0) (get_or v 0 0) (get_or all 0 0)
        → o ≡ outside p (map limit_at (take row.width row.limits)) (take row.width v) → o ≡ b
        → Tried lines all (line_at k v) 4 6 b
    unfolding tests
    tried-4 p o b pd od e = record { of = λ before S. ap (first 4 _) (outside-is S h R v pd (misplaced-at m false md mf before S) ∙ sym od ∙ e) }

    -- test 16
    tried-16 : (t b : Bool) → t ≡ late_by all k v → t ≡ b → Tried lines all (line_at k v) 16 5 b
    unfolding tests
    tried-16 t b d e = record { of = λ before S. ap (first 16 _) (late_is S h v (misplaced-at m false md mf before S) ∙ sym d ∙ e) }

    left-3 : Left lines all (line_at k v) 7
    left-3 = left-next (left-all lines all k v) (tried-3 m false md mf)

    -- test 7 passed
    module _ (f : number lines k < row.most) where
      left-7 : Left lines all (line_at k v) 4
      left-7 = left-next left-3 (tried-7 false (lt-leb _ _ f))

      -- test 4 passed
      module _ (p : ℕ) (pd : p ≡ pick (eqb k 0) (get_or v 0 0) (get_or all 0 0))
          (o : Bool) (od : o ≡ outside p (map limit_at (take row.width row.limits)) (take row.width v)) (of : o ≡ false) where
        left-4 : Left lines all (line_at k v) 6
        left-4 = left-next left-7 (tried-4 p o false pd od of)

        -- test 6 passed
        module _ (u : Bool) (ud : u ≡ unpaired (pair_at row.pair) v) (uf : u ≡ false) where
          left-6 : Left lines all (line_at k v) 15
          left-6 = left-next left-4 (tried-6 u false ud uf)

          -- test 15 passed
          module _ (w : Bool) (wd : UnknownIs lines all k v w) (wf : w ≡ false) where
            left-15 : Left lines all (line_at k v) 16
            left-15 = left-next left-6 (tried-15 w false wd wf)

            -- test 16 passed
            left-16 : (t : Bool) → t ≡ late_by all k v → t ≡ false → Left lines all (line_at k v) 5
            left-16 t td tf = left-next left-15 (tried-16 t false td tf)

  -- test 5, where no line of the kind stands before, and where one does
  tried-none : number lines k ≡ 0 → Tried lines all (line_at k v) 5 0 false
  unfolding tests
  tried-none z = record { of = λ before S. ap (first 5 _) (above-none S h R v z) }

  tried-5 : (q b : Bool) → (number lines k ≡ 0 → ⊥) → q ≡ lexb (take row.key (drop (row.base + (number lines k - 1) * row.width) all)) (take row.key v)
      → not q ≡ b → Tried lines all (line_at k v) 5 0 b
  unfolding tests
  tried-5 q b n d e = record { of = λ before S. ap (first 5 _) (above-last S h R v n ∙ ap not (sym d) ∙ e) }

-- where test 16 has passed, test 5 is left
left-16-at : (c : Else-is_late) → let a = c.args in Left a.lines.now a.all.now (line_at a.kind a.values) 5
left-16-at c =
    let a = c.args in
    left-16 a.lines.now a.all.now a.kind a.values a.row c.requires.0 c.requires.2 _ c.is_misplaced.ensures c.if-is_misplaced.false c.if-row-n.false
    _ c.places_with.ensures _ c.is_outside.ensures c.if-is_outside.false _ c.is_unpaired.ensures c.if-is_unpaired.false
    _ c.is_unknown.ensures c.if-is_unknown.false _ c.is_late.ensures c.if-is_late.false

last_fits : (c : Else-n-eq0) →
    let r = c in
    let q = r.args.row in
    let n = number r.args.lines.now r.args.kind in
    ((n - 1) * q.width + q.width ≡ n * q.width) × RowFits q n (length r.args.all.now)
last_fits c =
    let r = c in
    let n = number r.args.lines.now r.args.kind in
    let w = r.args.row.width in
    let e : suc (n - 1) ≡ n = omega (arith, c.if-n-eq0.false) in
    (omega (arith, suc-mul (n - 1) w, ap (λ (m : ℕ). m * w) e), row_fits r.requires.1.stored r.requires.0 r.requires.2)

pub returns-then-is_misplaced : goal.returns-then-is_misplaced
returns-then-is_misplaced c =
    let a = c.args in
    left-stop (left-all a.lines.now a.all.now a.kind a.values)
    (tried-3 a.lines.now a.all.now a.kind a.values a.row c.requires.0 c.requires.2 _ true c.is_misplaced.ensures c.if-is_misplaced.true)

pub returns-then-row-n : goal.returns-then-row-n
returns-then-row-n c =
    let a = c.args in
    left-stop (left-3 a.lines.now a.all.now a.kind a.values a.row c.requires.0 c.requires.2 _ c.is_misplaced.ensures c.if-is_misplaced.false)
    (tried-7 a.lines.now a.all.now a.kind a.values a.row c.requires.0 c.requires.2 true (le-leb _ _ c.if-row-n.true))

pub returns-then-is_outside : goal.returns-then-is_outside
returns-then-is_outside c =
    let a = c.args in
    left-stop (left-7 a.lines.now a.all.now a.kind a.values a.row c.requires.0 c.requires.2 _ c.is_misplaced.ensures c.if-is_misplaced.false c.if-row-n.false)
    (tried-4 a.lines.now a.all.now a.kind a.values a.row c.requires.0 c.requires.2 _ c.is_misplaced.ensures c.if-is_misplaced.false
    _ _ true c.places_with.ensures c.is_outside.ensures c.if-is_outside.true)

pub is_unpaired-requires : goal.is_unpaired-requires
is_unpaired-requires c =
    let q = c.requires.2 in
    pair-among _ (omega (arith, q.width_is, width_small c.args.kind c.requires.0)) q.pair-inside

pub returns-then-is_unpaired : goal.returns-then-is_unpaired
returns-then-is_unpaired c =
    let a = c.args in
    left-stop
    (left-4 a.lines.now a.all.now a.kind a.values a.row c.requires.0 c.requires.2 _ c.is_misplaced.ensures c.if-is_misplaced.false c.if-row-n.false
    _ c.places_with.ensures _ c.is_outside.ensures c.if-is_outside.false)
    (tried-6 a.lines.now a.all.now a.kind a.values a.row c.requires.0 c.requires.2 _ true c.is_unpaired.ensures c.if-is_unpaired.true)

pub returns-then-is_unknown : goal.returns-then-is_unknown
returns-then-is_unknown c =
    let a = c.args in
    left-stop
    (left-6 a.lines.now a.all.now a.kind a.values a.row c.requires.0 c.requires.2 _ c.is_misplaced.ensures c.if-is_misplaced.false c.if-row-n.false
    _ c.places_with.ensures _ c.is_outside.ensures c.if-is_outside.false _ c.is_unpaired.ensures c.if-is_unpaired.false)
    (tried-15 a.lines.now a.all.now a.kind a.values a.row c.requires.0 c.requires.2 _ true c.is_unknown.ensures c.if-is_unknown.true)

pub returns-then-is_late : goal.returns-then-is_late
returns-then-is_late c =
    let a = c.args in
    left-stop
    (left-15 a.lines.now a.all.now a.kind a.values a.row c.requires.0 c.requires.2 _ c.is_misplaced.ensures c.if-is_misplaced.false c.if-row-n.false
    _ c.places_with.ensures _ c.is_outside.ensures c.if-is_outside.false _ c.is_unpaired.ensures c.if-is_unpaired.false
    _ c.is_unknown.ensures c.if-is_unknown.false)
    (tried-16 a.lines.now a.all.now a.kind a.values a.row c.requires.0 c.requires.2 _ c.is_misplaced.ensures c.if-is_misplaced.false
    _ true c.is_late.ensures c.if-is_late.true)

pub returns-then-n-eq0 : goal.returns-then-n-eq0
unfolding tests
returns-then-n-eq0 c =
    let a = c.args in
    let l = left-16-at (goal.at.returns-then-n-eq0 c).Else-is_late in
    let t = tried-none a.lines.now a.all.now a.kind a.values a.row c.requires.0 c.requires.2 c.if-n-eq0.true in
    record { of = λ before S. sym ((left-next l t).of before S) }

pub is_key_before-requires : goal.is_key_before-requires
is_key_before-requires c =
    let f = last_fits (goal.at.is_key_before-requires c).Else-n-eq0 in
    (omega (arith, f), omega (arith, f))

pub returns-then-not-is_key_before : goal.returns-then-not-is_key_before
returns-then-not-is_key_before c =
    let a = c.args in
    left-stop (left-16-at (goal.at.returns-then-not-is_key_before c).Else-is_late)
    (tried-5 a.lines.now a.all.now a.kind a.values a.row c.requires.0 c.requires.2
    _ true c.if-n-eq0.false c.is_key_before.ensures (ap not c.if-not-is_key_before.true))

pub returns : goal.returns
unfolding tests
returns c =
    let a = c.args in
    let l = left-16-at (goal.at.returns c).Else-is_late in
    let t = tried-5 a.lines.now a.all.now a.kind a.values a.row c.requires.0 c.requires.2
    _ false c.if-n-eq0.false c.is_key_before.ensures (ap not c.if-not-is_key_before.false) in
    record { of = λ before S. sym ((left-next l t).of before S) }
