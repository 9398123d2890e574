-- Whole sheets, written and read: what was read is written as it stood, and what is written reads as itself; so for sheets and for the calls.
-- Both ways the lines between are the same list, in shape and passing every test, of which sheet and text are each a one-to-one image.
-- The laws that rest on what `waiting` and `written` say stand in proofs/RoundTrip.antt, both round trips among them.
use Rattle.std.specs.Prelude.{◌≡◌, refl, ◌≢◌, Bool, true, false, not, ◌||◌, List, [], ◌∷◌, ◌++◌, map, ℕ, suc, ◌%◌, ◌≤◌, ltb, eqb, length, drop}
use Rattle.std.proofs.Common.{sym, ◌∙◌, ap, ap₂, subst, inl, inr, ⊎_elim, arith, le-ltb, eq-eqb, eqb-true}
use Rattle.std.proofs.Math.Option.{Option, some, none}
use Rattle.std.proofs.lemmas.Bool.{eqb-false, not-false}
use Rattle.sheet.specs.Lists.{pick, ◌∈◌, bind, flat}
use Rattle.sheet.specs.Decimal.{most_digits}
use Rattle.sheet.specs.Kinds.{Kind, width, room, kind_s, kind_w, kind_c, kind_x, kind_o, kinds}
use Rattle.sheet.specs.Lines.{Line, line, text_lines}
use Rattle.sheet.specs.Sheet.{Sheet, sheet_of, groups_of, lines_from, sheet_lines, fault, lacking, Outcome, refused, loaded, told, judge, most_bytes, read_of}
use Rattle.sheet.specs.Text.{line_text, sheet_text}
use Rattle.sheet.specs.Calls.{read_answer, read_call, Groups, groups, groups_read, uneven, left_over, sheet_of_groups, judged_groups, WriteEnd, write_end, write_refused, written, write_groups}
use Rattle.sheet.specs.Laws.Members.{mem-left, mem-right, mem-append, mem-map, map-mem}
use Rattle.sheet.specs.Laws.Passed.{or-false}
use Rattle.sheet.specs.Laws.Judge.{Passes, some-line, not-loaded, judge-passes, passes-judge}
use Rattle.sheet.specs.Laws.Shape.{Shaped, AllShaped}
use Rattle.sheet.specs.Laws.LineText.{lines-unread}
use Rattle.sheet.specs.Laws.Groups.{sheet-path, sheet-lines, lines-sheet}
use Rattle.sheet.specs.Laws.Rows.{Wide, rows-flat, flat-whole, rows-wide, take-filled, filled-full}

-- a refusal has a number
refused-step : (before : List Line) (l : Line) (k n : ℕ) (o : Outcome) → (o ≡ refused k n → 1 ≤ k)
    → pick (eqb (fault before l) 0) o (refused (fault before l) (suc (length before))) ≡ refused k n → 1 ≤ k
refused-step before l k n o f e = go (eqb (fault before l) 0) refl e
  where
    go : (t : Bool) → eqb (fault before l) 0 ≡ t → pick t o (refused (fault before l) (suc (length before))) ≡ refused k n → 1 ≤ k
    go true q e = f e
    go false q e =
        let z : k ≡ fault before l = cc in
        let y : fault before l ≢ 0 = eqb-false (fault before l) 0 q in
        omega arith

judge-refused : (before : List Line) (ls : List (Option Line)) (k n : ℕ) → judge before ls ≡ refused k n → 1 ≤ k
unfolding judge
judge-refused before [] k n e = ends-refused (lacking before) e
  where
    ends-refused : (t : Bool) → pick t (refused 3 (suc (length before))) (loaded (sheet_of before)) ≡ refused k n → 1 ≤ k
    ends-refused true e = let z : k ≡ 3 = cc in omega arith
    ends-refused false e = absurd (not-loaded k n (sheet_of before) (sym e))
judge-refused before (none ∷ ls) k n e = let z : k ≡ 2 = cc in omega arith
judge-refused before (some l ∷ ls) k n e = refused-step before l k n (judge (before ++ (l ∷ [])) ls) (judge-refused (before ++ (l ∷ [])) ls k n) e

-- reading is judging the lines, where the bytes are not too many
abbrev pub lines_in : List ℕ → List (Option Line)
lines_in b = text_lines most_digits kinds b

pub read-judge : (b : List ℕ) → length b ≤ most_bytes → read_of b ≡ judge [] (text_lines most_digits kinds b)
unfolding read_of
read-judge b h = rw (le-ltb most_bytes (length b) h)

pub judge-read : (b : List ℕ) (s : Sheet) → read_of b ≡ loaded s → judge [] (lines_in b) ≡ loaded s
unfolding read_of
judge-read b s e = go (ltb most_bytes (length b)) e
  where
    go : (t : Bool) → pick t (refused 1 0) (judge [] (lines_in b)) ≡ loaded s → judge [] (lines_in b) ≡ loaded s
    go true e = absurd (not-loaded 1 0 s e)
    go false e = e

pub read-refused : (b : List ℕ) (k n : ℕ) → read_of b ≡ refused k n → 1 ≤ k
unfolding read_of
read-refused b k n e = go (ltb most_bytes (length b)) e
  where
    go : (t : Bool) → pick t (refused 1 0) (judge [] (lines_in b)) ≡ refused k n → 1 ≤ k
    go true e = let z : k ≡ 1 = cc in omega arith
    go false e = judge-refused [] (lines_in b) k n e

-- the reader's answer 0 is a sheet
pub read-loaded : (b : List ℕ) → (read_call b).refusal ≡ 0 → (s : Sheet) × (read_of b ≡ loaded s)
unfolding read_call read_answer
read-loaded b h = go (read_of b) refl h
  where
    go : (o : Outcome) → read_of b ≡ o → (read_answer o).refusal ≡ 0 → (s : Sheet) × (read_of b ≡ loaded s)
    go (refused k n) q h = absurd (omega (arith, read-refused b k n q))
    go (loaded s) q h = (s, q)

some-lines : (a b : List Line) → map some a ≡ map some b → a ≡ b
some-lines [] [] e = refl
some-lines [] (l ∷ b) e = let z : ◌≡◌ {A = ℕ} 0 1 = cc in absurd (omega arith)
some-lines (l ∷ a) [] e = let z : ◌≡◌ {A = ℕ} 0 1 = cc in absurd (omega arith)
some-lines (l ∷ a) (m ∷ b) e =
    let x : l ≡ m = cc in
    let y : map some a ≡ map some b = cc in
    ap₂ (λ (j : Line) (ls : List Line). j ∷ ls) x (some-lines a b y)

-- lines that are loaded all pass
judged-lines : (ls : List Line) (s : Sheet) → judge [] (map some ls) ≡ loaded s → Passes [] ls × (lacking ls ≡ false) × (s ≡ sheet_of ls)
judged-lines ls s e =
    let j = judge-passes [] (map some ls) s e in
    let z : j.lines ≡ ls = some-lines j.lines ls (sym j.all_lines) in
    (subst (λ (k : List Line). Passes [] k) z j.passes, subst (λ (k : List Line). lacking k ≡ false) z j.complete, j.sheet ∙ ap sheet_of z)

-- the groups hold as many numbers a line as their kinds have
abbrev pub AllWide : List Kind → List (List (List ℕ)) → Type 0
AllWide [] gs = Unit {0}
AllWide (k ∷ ks) [] = Unit {0}
AllWide (k ∷ ks) (g ∷ gs) = Wide (width k) g × AllWide ks gs

pub wide-shaped : (ks : List Kind) (gs : List (List (List ℕ))) → ((k : Kind) → k ∈ ks → k ∈ kinds) → AllWide ks gs → AllShaped (lines_from ks gs)
wide-shaped [] gs f w l m = absurd m
wide-shaped (k ∷ ks) [] f w l m = absurd m
wide-shaped (k ∷ ks) (g ∷ gs) f w l m =
    ⊎_elim own (wide-shaped ks gs (λ j i. f j (inr i)) w.1 l) (mem-append l (map (line k) g) (lines_from ks gs) m)
  where
    own : l ∈ map (line k) g → Shaped l
    own m = let r = map-mem (line k) l g m in subst Shaped (sym r.2) (record { known = f k (inl refl); count = w.0 r.0 r.1 })

pub shaped-wide : (ks : List Kind) (gs : List (List (List ℕ))) → AllShaped (lines_from ks gs) → AllWide ks gs
shaped-wide [] gs s = tt
shaped-wide (k ∷ ks) [] s = tt
shaped-wide (k ∷ ks) (g ∷ gs) s = (
  λ n m. (s (line k n) (mem-left (line k n) (map (line k) g) (lines_from ks gs) (mem-map (line k) n g m))).count,
  shaped-wide ks gs (λ l m. s l (mem-right l (map (line k) g) (lines_from ks gs) m)),
)

-- the numbers of a sheet's groups, and back
abbrev pub numbers_of_sheet : Sheet → Groups
numbers_of_sheet s = groups s.head (flat s.waits) (flat s.corridors) (flat s.closures) (flat s.occupancies)

-- the groups make whole lines
pub record Whole (g : Groups) : Type 0 where
  pub head-whole : length g.head ≡ width kind_s
  pub waits-whole : length g.waits % width kind_w ≡ 0
  pub corridors-whole : length g.corridors % width kind_c ≡ 0
  pub closures-whole : length g.closures % width kind_x ≡ 0
  pub occupancies-whole : length g.occupancies % width kind_o ≡ 0

pub whole_of : (g : Groups) → uneven g ≡ false → Whole g
whole_of g q =
    let h = not (eqb (length g.head) (width kind_s)) in
    let a = or-false (h || left_over kind_w g.waits || left_over kind_c g.corridors || left_over kind_x g.closures) (left_over kind_o g.occupancies) q in
    let x = or-false (h || left_over kind_w g.waits || left_over kind_c g.corridors) (left_over kind_x g.closures) a.0 in
    let c = or-false (h || left_over kind_w g.waits) (left_over kind_c g.corridors) x.0 in
    let b = or-false h (left_over kind_w g.waits) c.0 in
    record {
      head-whole = eqb-true (length g.head) (width kind_s) (not-false (eqb (length g.head) (width kind_s)) b.0);
      waits-whole = eqb-true (length g.waits % width kind_w) 0 (not-false (eqb (length g.waits % width kind_w) 0) b.1);
      corridors-whole = eqb-true (length g.corridors % width kind_c) 0 (not-false (eqb (length g.corridors % width kind_c) 0) c.1);
      closures-whole = eqb-true (length g.closures % width kind_x) 0 (not-false (eqb (length g.closures % width kind_x) 0) x.1);
      occupancies-whole = eqb-true (length g.occupancies % width kind_o) 0 (not-false (eqb (length g.occupancies % width kind_o) 0) a.1);
    }

pub of-whole : (g : Groups) → Whole g → uneven g ≡ false
of-whole g w =
    rw (
      eq-eqb (length g.head) (width kind_s) w.head-whole,
      eq-eqb (length g.waits % width kind_w) 0 w.waits-whole,
      eq-eqb (length g.corridors % width kind_c) 0 w.corridors-whole,
      eq-eqb (length g.closures % width kind_x) 0 w.closures-whole,
      eq-eqb (length g.occupancies % width kind_o) 0 w.occupancies-whole,
    )

pub whole_wide : (g : Groups) → Whole g → AllWide kinds (groups_of (sheet_of_groups g))
whole_wide g w = (head, (rows-wide (width kind_w) g.waits, (rows-wide (width kind_c) g.corridors, (rows-wide (width kind_x) g.closures, (rows-wide (width kind_o) g.occupancies, tt)))))
  where
    head : Wide (width kind_s) (g.head ∷ [])
    head n (inl e) = ap length e ∙ w.head-whole
    head n (inr nowhere) = elim nowhere [ ]

pub wide-whole : (s : Sheet) → AllWide kinds (groups_of s) → Whole (numbers_of_sheet s)
wide-whole s (h, (w, (c, (x, (o, u))))) =
    record {
      head-whole = h s.head (inl refl);
      waits-whole = flat-whole (width kind_w) s.waits w;
      corridors-whole = flat-whole (width kind_c) s.corridors c;
      closures-whole = flat-whole (width kind_x) s.closures x;
      occupancies-whole = flat-whole (width kind_o) s.occupancies o;
    }

pub flat-sheet : (s : Sheet) → AllWide kinds (groups_of s) → sheet_of_groups (numbers_of_sheet s) ≡ s
flat-sheet s (h, (w, (c, (x, (o, u))))) =
    sheet-path (rows-flat (width kind_w) s.waits (omega arith) w) (rows-flat (width kind_c) s.corridors (omega arith) c) (rows-flat (width kind_x) s.closures (omega arith) x)
    (rows-flat (width kind_o) s.occupancies (omega arith) o)

-- the text t in the buffer
abbrev pub written_all : List ℕ → List ℕ → WriteEnd
written_all t out = write_end (record { refusal = 0; line = 0; bytes = length t }) (t ++ drop (length t) out)

pub whole-judged : (g : Groups) (out : List ℕ) → uneven g ≡ false → write_groups g out ≡ told (write_refused out) (written out) (judged_groups g)
unfolding write_groups
whole-judged g out e = rw e

pub write-uneven : (g : Groups) (out : List ℕ) → uneven g ≡ true → write_groups g out ≡ write_refused out 2 0
unfolding write_groups
write-uneven g out e = rw e

-- a judgement of groups is that of their sheet
pub judged-sheet : (g : Groups) (s : Sheet) → judged_groups g ≡ loaded s
    → Passes [] (sheet_lines (sheet_of_groups g)) × (lacking (sheet_lines (sheet_of_groups g)) ≡ false) × (s ≡ sheet_of_groups g)
unfolding judged_groups
judged-sheet g s e =
    let j = judged-lines (sheet_lines (sheet_of_groups g)) s e in
    (j.0, j.1, j.2 ∙ sheet-lines (sheet_of_groups g))

pub judged-refused : (g : Groups) (k n : ℕ) → judged_groups g ≡ refused k n → 1 ≤ k
unfolding judged_groups
judged-refused g k n e = judge-refused [] (map some (sheet_lines (sheet_of_groups g))) k n e

-- what bytes read as a sheet stand for
pub record SheetOf (b : List ℕ) (s : Sheet) : Type 0 where
  pub shaped : AllShaped (sheet_lines s)
  pub judged : judge [] (map some (sheet_lines s)) ≡ loaded s
  pub text : sheet_text s ≡ b

pub read-sheet : (b : List ℕ) (s : Sheet) → read_of b ≡ loaded s → SheetOf b s
unfolding sheet_text
read-sheet b s e =
    let j = judge-passes [] (lines_in b) s (judge-read b s e) in
    let u = lines-unread most_digits kinds b j.lines j.all_lines in
    let z : sheet_lines s ≡ j.lines = ap sheet_lines j.sheet ∙ lines-sheet j.lines u.0 j.passes (some-line j.lines j.complete) in
    record {
      shaped = subst (λ (ls : List Line). AllShaped ls) (sym z) u.0;
      judged = ap (λ (ls : List Line). judge [] (map some ls)) z ∙ passes-judge [] j.lines j.passes j.complete ∙ ap loaded (sym j.sheet);
      text = ap (λ (ls : List Line). bind ls (line_text most_digits)) z ∙ u.1;
    }

pub answer-groups : (s : Sheet) → AllWide kinds (groups_of s) → groups_read (read_answer (loaded s)) ≡ numbers_of_sheet s
unfolding read_answer
answer-groups s (h, (w, (c, (x, (o, u))))) =
    rw (
      filled-full (room kind_s) s.head (h s.head (inl refl)),
      take-filled (width kind_w) (room kind_w) s.waits w,
      take-filled (width kind_c) (room kind_c) s.corridors c,
      take-filled (width kind_x) (room kind_x) s.closures x,
      take-filled (width kind_o) (room kind_o) s.occupancies o,
    )
