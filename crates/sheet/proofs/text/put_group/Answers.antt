-- `sheet::text::put_group` meets its contract. Assumes nothing.
use mathlib.Core.Path.{◌≡◌, refl, ◌∙◌, ap}
use mathlib.Core.List.{List, []}
use Prim.Native.Nat.{ℕ, ◌≤◌, ◌<◌, ◌*◌, ◌+◌}
use native.Mathlib.Omega.{arith}
use lib.ListN.{length, take, get_or}
use lib.Seq.{length-sets}
use Rattle.sheet.specs.Decimal.{most_digits}
use Rattle.sheet.specs.Lines.{line}
use Rattle.sheet.specs.Text.{printed, line_text}
use Rattle.sheet.specs.Store.{kind_at}
use Rattle.sheet.specs.Inner.{group_text}
use Rattle.sheet.specs.Laws.Puts.{puts-length, puts-as, puts_none, puts-more, puts-all, puts-fits}
use Rattle.sheet.specs.Laws.Kinds.{width_small}
use Rattle.sheet.proofs.PutText.{row_inside, part_length, group_of, group-count, line_at}
use Rattle.sheet.proofs.text.put_group.Goals as goal
use Rattle.sheet.proofs.text.put_group.Goals.{After-widen, In-loop-i}

pub loop-i-init : goal.loop-i-init
loop-i-init c =
    let z = c.requires in
    let e = c.row_of-row.ensures in
    (omega (arith, e.width_is, width_small c.args.k z.0), rw (e.width_is, e.base-is) z.1.inside, refl, puts_none _ _)

-- the numbers of line i
inside : (c : In-loop-i) → let h = c.before in let r = h.row_of-row.result in
    r.base + h.loop-i.i * r.width + r.width ≤ length h.args.all.now
inside c =
    let h = c.before in
    let r = h.row_of-row.result in
    row_inside r.base r.width h.args.n h.loop-i.i _ c.loop-i-test.true h.loop-i.invariant.1

pub widen-requires : goal.widen-requires
widen-requires c =
    let x = (goal.at.widen-requires c).In-loop-i in
    let r = c.row_of-row.result in
    omega (arith, part_length (r.base + c.loop-i.i * r.width) r.width c.args.all.now (inside x), c.loop-i.invariant)

-- the array of a line's numbers is as long as it was, and line i is printed
wide : (c : After-widen) → length c.widen.new.to ≡ 8
wide c = ap length c.widen.ensures ∙ simp length-sets c.loop-i.invariant.2

text : (c : After-widen) → let h = c.before.before.before.before in let r = h.row_of-row.result in let a = h.args in
    printed most_digits r.letter (take r.width c.widen.new.to) ≡ line_text most_digits (get_or (group_of a.k a.n a.all.now) h.loop-i.i (line (kind_at a.k) []))
text c =
    let h = c.before.before.before.before in
    let r = h.row_of-row.result in
    let e = h.row_of-row.ensures in
    let a = h.args in
    let v = h.loop-i.invariant in
    ap (λ (l : List ℕ). printed most_digits r.letter (take r.width l)) c.widen.ensures
    ∙ line_at a.k a.n a.all.now h.loop-i.i r.width r.base r.letter h.loop-i.numbers c.loop-i-test.true v.1 e.width_is e.base-is e.letter-is
    (omega (arith, v.0, v.2))

pub put_line-next-requires : goal.put_line-next-requires
unfolding group_text
put_line-next-requires c =
    let h = c.loop-i in
    let a = c.args in
    let l : h.i < length (group_of a.k a.n a.all.now) = omega (arith, group-count a.k a.n a.all.now) in
    let f = puts-fits (line_text most_digits) (line (kind_at a.k) []) (group_of a.k a.n a.all.now) h.i l h.invariant.3 in
    omega (arith, ap length (text (goal.at.put_line-next-requires c).After-widen), f, puts-length h.invariant.3, c.requires.2)

pub loop-i-preserved : goal.loop-i-preserved
loop-i-preserved c =
    let x = (goal.at.loop-i-preserved c).After-widen in
    let h = c.loop-i in
    let a = c.args in
    let l : h.i < length (group_of a.k a.n a.all.now) = omega (arith, group-count a.k a.n a.all.now) in (
      h.invariant.0,
      h.invariant.1,
      wide x,
      puts-more (line_text most_digits) (line (kind_at a.k) []) (group_of a.k a.n a.all.now) h.i l h.invariant.3 (puts-as (text x) c.put_line-next.ensures),
    )

pub returns : goal.returns
unfolding group_text
returns c =
    let a = c.args in
    puts-all (line_text most_digits) (line (kind_at a.k) []) (group_of a.k a.n a.all.now) c.loop-i.i (omega (arith, group-count a.k a.n a.all.now)) c.loop-i.invariant.3
