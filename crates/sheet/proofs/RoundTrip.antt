-- Whole sheets, written and read: the laws of specs/Laws/RoundTrip.antt that rest on what `waiting` and `written` say. What was read is written as it
-- stood, and what is written reads as itself; so for sheets and for the calls.
-- Assumes nothing.
use Rattle.std.specs.Prelude.{◌≡◌, refl, Bool, true, false, List, [], ◌∷◌, map, ℕ, ◌*◌, ◌/◌, ◌≤◌, ltb, length, take, drop}
use Rattle.std.proofs.Common.{sym, ◌∙◌, ap, subst, arith, div-add-mod', take_at, le-ltb}
use Rattle.std.proofs.Math.Option.{some}
use Rattle.std.proofs.Math.Seq.{take-append_seam}
use Rattle.sheet.specs.Lists.{pick, filled}
use Rattle.sheet.specs.Decimal.{most_digits}
use Rattle.sheet.specs.Kinds.{width, room, kind_s, kind_w, kind_c, kind_x, kind_o, kinds}
use Rattle.sheet.specs.Sheet.{Sheet, groups_of, sheet_lines, lacking, Outcome, refused, loaded, told, judge, read_of}
use Rattle.sheet.specs.Text.{sheet_text}
use Rattle.sheet.specs.Valid.{Valid}
use Rattle.sheet.specs.Calls.{read_answer, read_call, Groups, groups_read, uneven, sheet_of_groups, judged_groups, WriteEnd, write_refused, written, write_groups}
use Rattle.sheet.specs.Laws.Judge.{Passes, judge-passes, passes-judge}
use Rattle.sheet.specs.Laws.Shape.{AllShaped}
use Rattle.sheet.specs.Laws.LineText.{sheet-letters, lines-back, lines-unread}
use Rattle.sheet.specs.Laws.Groups.{sheet-lines}
use Rattle.sheet.specs.Laws.Valid.{numbers-below, valid-shaped}
use Rattle.sheet.specs.Laws.Rows.{rows-count, flat_rows, filled-full}
use Rattle.sheet.specs.Laws.TextBound.{longest}
use Rattle.sheet.specs.Laws.RoundTrip.{lines_in, read-judge, judge-read, read-loaded, wide-shaped, shaped-wide, numbers_of_sheet, Whole, whole_of, of-whole, whole_wide, wide-whole, flat-sheet, written_all, whole-judged, write-uneven, judged-sheet, judged-refused, read-sheet, answer-groups}
use Rattle.sheet.proofs.Valid.{passes-valid, valid-passes, valid-complete}
use Rattle.sheet.proofs.TextBound.{text-longest, text-bound}

-- what a writer's answer 0 comes from
record Accepted (g : Groups) (out : List ℕ) : Type 0 where
  whole : Whole g
  judged : judged_groups g ≡ loaded (sheet_of_groups g)
  passes : Passes [] (sheet_lines (sheet_of_groups g))
  complete : lacking (sheet_lines (sheet_of_groups g)) ≡ false
  end : write_groups g out ≡ written_all (sheet_text (sheet_of_groups g)) out

text-fits : (s : Sheet) (out : List ℕ) → (written out s).answer.refusal ≡ 0 → written out s ≡ written_all (sheet_text s) out
unfolding written
text-fits s out e = go (ltb (length out) (length (sheet_text s))) e
  where
    go : (b : Bool) → (pick b (write_refused out 12 0) (written_all (sheet_text s) out)).answer.refusal ≡ 0
        → pick b (write_refused out 12 0) (written_all (sheet_text s) out) ≡ written_all (sheet_text s) out
    go true e = absurd (omega arith)
    go false e = refl

write-accepted : (g : Groups) (out : List ℕ) → (write_groups g out).answer.refusal ≡ 0 → Accepted g out
write-accepted g out e = uneven-or (uneven g) refl
  where
    judged : (o : Outcome) → judged_groups g ≡ o → uneven g ≡ false → (told (write_refused out) (written out) o).answer.refusal ≡ 0 → Accepted g out
    judged (refused k n) q u h = absurd (omega (arith, h, judged-refused g k n q))
    judged (loaded s) q u h =
        let j = judged-sheet g s q in
        record {
          whole = whole_of g u;
          judged = q ∙ ap loaded j.2;
          passes = j.0;
          complete = j.1;
          end = whole-judged g out u ∙ ap (told (write_refused out) (written out)) q ∙ text-fits s out h ∙ ap (λ (k : Sheet). written_all (sheet_text k) out) j.2;
        }

    uneven-or : (b : Bool) → uneven g ≡ b → Accepted g out
    uneven-or true q = absurd (omega (arith, e, ap (λ (w : WriteEnd). w.answer.refusal) (write-uneven g out q)))
    uneven-or false q = judged (judged_groups g) refl q (sym (ap (λ (w : WriteEnd). w.answer.refusal) (whole-judged g out q)) ∙ e)

-- what is written reads as itself
pub write-read-sheet : (s : Sheet) → AllShaped (sheet_lines s) → Passes [] (sheet_lines s) → lacking (sheet_lines s) ≡ false → read_of (sheet_text s) ≡ loaded s
unfolding sheet_text
write-read-sheet s h p c =
    read-judge (sheet_text s) (text-bound (sheet_lines s) h p (omega arith))
    ∙ ap (judge []) (lines-back most_digits kinds (omega arith) sheet-letters (sheet_lines s) h (numbers-below (sheet_lines s) h p))
    ∙ passes-judge [] (sheet_lines s) p c
    ∙ ap loaded (sheet-lines s)

-- what was written is read as the sheet of the groups
pub write-read-answer : (g : Groups) (out : List ℕ) → (write_groups g out).answer.refusal ≡ 0
    → read_call (take (write_groups g out).answer.bytes (write_groups g out).out) ≡ read_answer (loaded (sheet_of_groups g))
unfolding read_call
write-read-answer g out e =
    let a = write-accepted g out e in
    let s = sheet_of_groups g in
    ap (λ (w : WriteEnd). read_call (take w.answer.bytes w.out)) a.end
    ∙ ap read_call (take-append_seam (sheet_text s) (drop (length (sheet_text s)) out))
    ∙ ap read_answer (write-read-sheet s (wide-shaped kinds (groups_of s) (λ k m. m) (whole_wide g a.whole)) a.passes a.complete)

-- the groups that the writer took are read again
pub write-read-calls : (g : Groups) (out : List ℕ) → (write_groups g out).answer.refusal ≡ 0
    → read_call (take (write_groups g out).answer.bytes (write_groups g out).out)
    ≡ record {
      refusal = 0;
      line = 0;
      lines =
          1 ∷ length g.waits / width kind_w ∷ length g.corridors / width kind_c ∷ length g.closures / width kind_x ∷ length g.occupancies / width kind_o ∷ [];
      head = filled (room kind_s) g.head;
      waits = filled (room kind_w) g.waits;
      corridors = filled (room kind_c) g.corridors;
      closures = filled (room kind_x) g.closures;
      occupancies = filled (room kind_o) g.occupancies;
    }
unfolding read_answer
write-read-calls g out e =
    let a = write-accepted g out e in
    write-read-answer g out e
    ∙ rw (
      rows-count (width kind_w) (length g.waits / width kind_w) g.waits,
      rows-count (width kind_c) (length g.corridors / width kind_c) g.corridors,
      rows-count (width kind_x) (length g.closures / width kind_x) g.closures,
      rows-count (width kind_o) (length g.occupancies / width kind_o) g.occupancies,
      flat_rows (width kind_w) g.waits a.whole.waits-whole,
      flat_rows (width kind_c) g.corridors a.whole.corridors-whole,
      flat_rows (width kind_x) g.closures a.whole.closures-whole,
      flat_rows (width kind_o) g.occupancies a.whole.occupancies-whole,
    )

-- and they are the groups that the writer took
pub write-read-groups : (g : Groups) (out : List ℕ) → (write_groups g out).answer.refusal ≡ 0 → groups_read (read_call (take (write_groups g out).answer.bytes (write_groups g out).out)) ≡ g
write-read-groups g out e =
    let w = (write-accepted g out e).whole in
    let b : length g.waits ≡ length g.waits / width kind_w * width kind_w = omega (arith, w.waits-whole, div-add-mod' (length g.waits) (width kind_w)) in
    let c : length g.corridors ≡ length g.corridors / width kind_c * width kind_c = omega (arith, w.corridors-whole, div-add-mod' (length g.corridors) (width kind_c)) in
    let x : length g.closures ≡ length g.closures / width kind_x * width kind_x = omega (arith, w.closures-whole, div-add-mod' (length g.closures) (width kind_x)) in
    let o : length g.occupancies ≡ length g.occupancies / width kind_o * width kind_o = omega (arith, w.occupancies-whole, div-add-mod' (length g.occupancies) (width kind_o)) in
    ap groups_read (write-read-calls g out e)
    ∙ rw (
      filled-full (room kind_s) g.head w.head-whole,
      take_at g.waits _ (length g.waits / width kind_w * width kind_w) b,
      take_at g.corridors _ (length g.corridors / width kind_c * width kind_c) c,
      take_at g.closures _ (length g.closures / width kind_x * width kind_x) x,
      take_at g.occupancies _ (length g.occupancies / width kind_o * width kind_o) o,
    )

-- the groups that the reader handed back are written as they stood
pub read-write-calls : (b out : List ℕ) → (read_call b).refusal ≡ 0 → length b ≤ length out → write_groups (groups_read (read_call b)) out ≡ written_all b out
unfolding read_call judged_groups written
read-write-calls b out h l =
    let r = read-loaded b h in
    let s = r.0 in
    let a = read-sheet b s r.1 in
    let w = shaped-wide kinds (groups_of s) a.shaped in
    ap (λ (o : Outcome). write_groups (groups_read (read_answer o)) out) r.1
    ∙ ap (λ (g : Groups). write_groups g out) (answer-groups s w)
    ∙ whole-judged (numbers_of_sheet s) out (of-whole (numbers_of_sheet s) (wide-whole s w))
    ∙ ap (λ (k : Sheet). told (write_refused out) (written out) (judge [] (map some (sheet_lines k)))) (flat-sheet s w)
    ∙ ap (told (write_refused out) (written out)) a.judged
    ∙ ap (λ (t : List ℕ). pick (ltb (length out) (length t)) (write_refused out 12 0) (written_all t out)) a.text
    ∙ rw (le-ltb (length out) (length b) l)

-- a sheet that was read is valid, and every valid sheet is read back from its text
pub read-valid : (b : List ℕ) (s : Sheet) → read_of b ≡ loaded s → Valid s
read-valid b s e =
    let j = judge-passes [] (lines_in b) s (judge-read b s e) in
    let u = lines-unread most_digits kinds b j.lines j.all_lines in
    subst Valid (sym j.sheet) (passes-valid j.lines u.0 j.passes j.complete)

pub valid-read : (s : Sheet) → Valid s → read_of (sheet_text s) ≡ loaded s
valid-read s v = write-read-sheet s (valid-shaped s v) (valid-passes s v) (valid-complete s v)

-- a valid sheet has at most 14,536 bytes
pub valid-text : (s : Sheet) → Valid s → length (sheet_text s) ≤ longest
unfolding sheet_text
valid-text s v = text-longest (sheet_lines s) (valid-shaped s v) (valid-passes s v) (omega arith)

-- what the writer wrote is the text of a valid sheet, so it is no longer than that
pub write-bounded : (g : Groups) (out : List ℕ) → (write_groups g out).answer.refusal ≡ 0 → (write_groups g out).answer.bytes ≤ longest
unfolding sheet_text
write-bounded g out e =
    let a = write-accepted g out e in
    let s = sheet_of_groups g in
    omega (
      arith,
      ap (λ (w : WriteEnd). w.answer.bytes) a.end,
      text-longest (sheet_lines s) (wide-shaped kinds (groups_of s) (λ k m. m) (whole_wide g a.whole)) a.passes (omega arith),
    )
