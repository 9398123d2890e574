-- `sheet::text::group_bytes` meets its contract. A number takes at most six bytes, so that the sum fits. Assumes nothing.
use Rattle.std.proofs.Common.{◌≡◌, ◌∙◌, ◌+◌, ◌*◌, ◌-◌, ◌≤◌, ◌<◌, List, ℕ, length, take, drop, take_all, ap, arith}
use Rattle.sheet.specs.Kinds.{width}
use Rattle.sheet.specs.Store.{kind_count, kind_at, base_of}
use Rattle.sheet.specs.Inner.{GroupFits, group_text, group_bytes}
use Rattle.sheet.proofs.PutText.{numbers_text, number-more-length, group-length, few-numbers, part_length}
use Rattle.sheet.proofs.text.group_bytes.Goals as goal

pub loop-number-preserved : goal.loop-number-preserved
loop-number-preserved c =
    let e = number-more-length _ c.loop-number.number-index c.loop-number-test.true in
    let d = rw c.from.ensures at c.digits_in.ensures in
    record { counts = omega (arith, e, d.0, c.loop-number.invariant.counts); few = omega (arith, d.1, c.loop-number.invariant.few) }

-- the first i of the m numbers from b on are all numbers of the group
whole : (k n : ℕ) (all : List ℕ) → k < kind_count → GroupFits k n all → (b m i : ℕ) → b ≡ base_of k → m ≡ n * width (kind_at k)
    → let ns = take (b + m - b) (drop b all) in i ≤ length ns → length ns ≤ i
    → (length (numbers_text (take i ns)) + 2 * n ≡ length (group_text k n all)) × (2 * n + 6 * i ≤ group_bytes)
whole k n all h z b m i e f =
    λ l g.
    let ns = take (b + m - b) (drop b all) in
    let p = part_length b m all (rw (e, f) z.inside) in
    let d : b + m - b ≡ m = omega arith in
    let s : take i ns ≡ take (n * width (kind_at k)) (drop (base_of k) all) = take_all i ns g ∙ rw (d, e, f) in
    (rw s (omega (arith, group-length k n all)), omega (arith, p, f, few-numbers k n h z.few, z.few))

pub returns : goal.returns
returns c =
    let a = c.args in
    let r = c.row_of-row.ensures in
    let w = whole a.k a.n a.all.now c.requires.0 c.requires.1 c.row_of-row.result.base (a.n * c.row_of-row.result.width) c.loop-number.number-index
    r.base-is (ap (λ w. a.n * w) r.width_is) c.loop-number.auto.number-index-end c.loop-number-test.false in
    let v = c.loop-number.invariant in
    (omega (arith, w.0, v.counts), omega (arith, w.1, v.few))
