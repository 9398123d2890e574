-- `sheet::reader::take_lines` meets its contract. A turn that takes a line leaves the reader behind the line feed at which the line ended, within the text.
-- Assumes nothing.
use Rattle.std.specs.Prelude.{◌≡◌, List, ℕ, ◌+◌, ◌≤◌, ◌<◌, length, Some, Ok}
use Rattle.std.proofs.Common.{arith, sym, ap, subst}
use Rattle.sheet.specs.LineEnds.{EndsAt, ReadUpTo, NextIs, gone_on}
use Rattle.sheet.specs.declared.line_reader.LineReader.{LineReader}
use Rattle.sheet.specs.Laws.LineEnding.{end-inside}
use Rattle.sheet.proofs.Reading.{stored-few}
use Rattle.sheet.proofs.reader.take_lines.Goals as goal
use Rattle.sheet.proofs.reader.take_lines.Goals.{In-Ok-Some}

-- the line taken, after which the sheet is read up to the line feed at which it ended
module _ (src : List ℕ) (r : LineReader) (s : r.src.now ≡ src) {lines all lines' all' : List ℕ} {n e : ℕ}
    (N : NextIs r.src.now r.at lines all lines' all' (Ok (Some e))) (R : ReadUpTo src r.at lines all n) where
  ends : EndsAt r.src.now r.at e
  ends = (N.of n (subst (λ (l : List ℕ). ReadUpTo l r.at lines all n) (sym s) R)).0

  inside : (r.at ≤ e) × (e < length src)
  inside = subst (λ (l : List ℕ). (r.at ≤ e) × (e < length l)) s (end-inside r.src.now r.at (Ok (Some e)) ends)

  on : ReadUpTo src (e + 1) lines' all' (n + 1)
  on =
      subst (λ (l : List ℕ). ReadUpTo l (e + 1) lines' all' (n + 1)) s
      (N.of n (subst (λ (l : List ℕ). ReadUpTo l r.at lines all n) (sym s) R)).1

  behind : (q : LineReader) → q ≡ gone_on r e → (q.src.now ≡ src) × (q.at ≤ length src) × ReadUpTo src q.at lines' all' (n + 1)
  behind q d = rw d (s, omega (arith, inside), on)

taken : (c : In-Ok-Some) → NextIs c.loop-feed.r.src.now c.loop-feed.r.at c.loop-feed.lines c.loop-feed.all c.take_next.new.lines c.take_next.new.all (Ok (Some c.in-Ok-Some.feed))
taken c = rw c.in-Ok-Some.field-0-is at c.in-Ok-Some.ensures

pub after_line-r-requires : goal.after_line-r-requires
after_line-r-requires c =
    let l = c.loop-feed in
    ends _ l.r l.invariant.0 (taken (goal.at.after_line-r-requires c).In-Ok-Some) l.invariant.2

pub overflow_add-n : goal.overflow_add-n
overflow_add-n c =
    let l = c.loop-feed in
    let R = on _ l.r l.invariant.0 (taken (goal.at.overflow_add-n c).In-Ok-Some) l.invariant.2 in
    omega (arith, R.next, stored-few R.before _ _ R.stored)

pub loop-feed-smaller : goal.loop-feed-smaller
loop-feed-smaller c =
    let l = c.loop-feed in
    omega (arith, inside _ l.r l.invariant.0 (taken (goal.at.loop-feed-smaller c).In-Ok-Some) l.invariant.2, ap (λ (r : LineReader). r.at) c.after_line-r.ensures)

pub loop-feed-preserved : goal.loop-feed-preserved
loop-feed-preserved c =
    let l = c.loop-feed in
    behind _ l.r l.invariant.0 (taken (goal.at.loop-feed-preserved c).In-Ok-Some) l.invariant.2 c.after_line-r.result c.after_line-r.ensures
