-- Reading line after line: what became of the next line of a text, by where it ends and what its bytes stand for, and the sheet in the array at its
-- end. The lines in the array are at most those that the kinds allow, so their count stays small.
-- Assumes nothing.
use mathlib.Core.Path.{◌≡◌, refl, sym, ◌∙◌, ap, subst}
use mathlib.Core.Bool.{Bool, false, true≢false}
use Rattle.std.specs.Prelude.{Option as Found, Some, None, Ok, Err}
use mathlib.Core.List.{List, [], ◌∷◌, map}
use mathlib.Core.Option.{Option, some, none}
use Prim.Native.Nat.{ℕ, ◌+◌, ◌-◌, ◌≤◌, ◌<◌}
use native.Mathlib.Omega.{arith}
use lib.ListN.{length, take, drop, length-append, length-map}
use borrow.Author.Tests.{lt-ltb}
use Rattle.sheet.specs.Decimal.{most_digits}
use Rattle.sheet.specs.Kinds.{Kind, kinds}
use Rattle.sheet.specs.Lines.{Line, line}
use Rattle.sheet.specs.Sheet.{Sheet, sheet_of, groups_of, lines_from, lacking, Outcome, refused, loaded, judge, most_bytes, read_of}
use Rattle.sheet.specs.Calls.{read_answer, read_call}
use Rattle.sheet.specs.Store.{spread, StoreOf, VerdictIs, Blank}
use Rattle.sheet.specs.Inner.{line_at, Stored, Reached, SoFar, Takes, LacksIs}
use Rattle.sheet.specs.Refusals.{number_of, refused_by}
use Rattle.sheet.specs.Laws.Refusals.{number-some}
use Rattle.sheet.specs.Forms.{Forms, LineIs, as_parsed}
use Rattle.sheet.specs.LineEnds.{LineEnd, lines_by, EndIs, left, ReadUpTo, TurnIs}
use Rattle.sheet.specs.Laws.LineEnding.{end-inside}
use Rattle.sheet.specs.Laws.Groups.{passes-groups, lines-sheet}
use Rattle.sheet.specs.Laws.Runs.{AllRuns}
use Rattle.sheet.specs.Laws.Valid.{lines_runs}
use Rattle.sheet.proofs.Valid.{passes-valid}
use Rattle.sheet.specs.Laws.RoundTrip.{read-judge}
use Rattle.sheet.specs.declared.lines.Parsed.{Parsed}
use Rattle.sheet.specs.declared.refusal.Refused.{Refused}
use Rattle.sheet.specs.declared.refusal.Refusal.{Refusal}
use Rattle.sheet.specs.declared.refusal.Refusal.TheVariants.{Malformed}
use Rattle.sheet.proofs.Reached.{reached-start, reached-next, reached-fault, reached-bad, so-far-refused}

-- lines of groups are at most as many as their kinds allow
abbrev most_lines : List Kind → ℕ
most_lines [] = 0
most_lines (k ∷ ks) = k.most + most_lines ks

runs-count : (s : Sheet) (ks : List Kind) (gs : List (List (List ℕ))) → AllRuns s ks gs → length (lines_from ks gs) ≤ most_lines ks
runs-count s [] gs r = omega arith
runs-count s (k ∷ ks) [] r = omega arith
runs-count s (k ∷ ks) (g ∷ gs) r =
    omega (arith, length-append (map (line k) g) (lines_from ks gs), length-map g (line k), r.0.few, runs-count s ks gs r.1)

pub stored-few : (before : List Line) (lines all : List ℕ) → Stored before lines all → length before ≤ 1000
stored-few [] lines all s = omega arith
stored-few (l ∷ ls) lines all s =
    let h = sheet_of (l ∷ ls) in
    omega (
      arith,
      runs-count h kinds (groups_of h) (lines_runs (l ∷ ls) s.shaped s.passes (omega arith)),
      ap length (lines-sheet (l ∷ ls) s.shaped s.passes (omega arith)),
    )

-- the lines in the array are a sheet
stored-sheet : (before : List Line) (lines all : List ℕ) → Stored before lines all → lacking before ≡ false → StoreOf (sheet_of before) lines all
stored-sheet [] lines all s e = absurd (true≢false e)
stored-sheet (l ∷ ls) lines all s e =
    let g = passes-groups (l ∷ ls) s.shaped s.passes (omega arith) in
    record {
      valid = passes-valid (l ∷ ls) s.shaped s.passes e;
      counts = s.counts ∙ ap (map length) (sym g);
      cells = s.cells ∙ ap (λ (gs : List (List (List ℕ))). spread kinds gs) (sym g);
    }

loaded-end : (before : List Line) → lacking before ≡ false → judge before [] ≡ loaded (sheet_of before)
unfolding judge
loaded-end before e = rw e

-- how a judgement ends
pub verdict-refused : {end : Outcome} {lines all : List ℕ} (k n : ℕ) → 1 ≤ k → end ≡ refused k n → VerdictIs end lines all (record { refusal = k; line = n })
verdict-refused k n h e = record { refuses = λ z. e; holds = λ z. absurd (omega (arith, h)) }

pub verdict-holds : {end : Outcome} {lines all : List ℕ} {n : ℕ} → Reached end [] lines all n → (b : Bool) → LacksIs lines all b → b ≡ false
    → VerdictIs end lines all (record { refusal = 0; line = 0 })
verdict-holds {end} {lines} {all} r b l e =
    let z : lacking r.before ≡ false = sym (l.of r.before r.stored) ∙ e in
    record {
      refuses = λ y. absurd (y refl);
      holds = λ y. (sheet_of r.before, sym r.same ∙ loaded-end r.before z, stored-sheet r.before lines all r.stored z);
    }

-- the text too long
pub read-long : (src : List ℕ) → most_bytes < length src → read_of src ≡ refused 1 0
unfolding read_of
read-long src h = rw (lt-ltb most_bytes (length src) h)

pub text-start : (src : List ℕ) {lines all : List ℕ} → Blank lines all → length src ≤ most_bytes → ReadUpTo src 0 lines all 1
text-start src {lines} {all} b h = subst (λ (o : Outcome). Reached o (left src 0) lines all 1) (sym (read-judge src h)) (reached-start b (left src 0))

-- how lines were judged that one was refused of
pub verdict-ended : {end : Outcome} {todo : List (Option Line)} {lines all : List ℕ} (r : Refused) → SoFar end todo lines all (refused_by r) → VerdictIs end lines all (refused_by r)
verdict-ended r S = record { refuses = S.refuses; holds = λ y. absurd (omega (arith, number-some r.refusal)) }

module _ (src : List ℕ) (at : ℕ) {lines all : List ℕ} {n : ℕ} (R : ReadUpTo src at lines all n) where
  -- the lines left, by where the next one ends
  left_by : (r : LineEnd) → EndIs src at r → Reached (read_of src) (lines_by most_digits kinds src at r) lines all n
  left_by r E = subst (λ (t : List (Option Line)). Reached (read_of src) t lines all n) (E.lines most_digits kinds) R

  pub turn-over : EndIs src at (Ok None) → TurnIs src at lines all n (Ok None)
  turn-over E = record { refuses = λ z. absurd (z refl); reaches = λ z. left_by (Ok None) E }

  pub turn-cut : (k : Refusal) → EndIs src at (Err k) → TurnIs src at lines all n (Err k)
  turn-cut k E =
      so-far-refused k (reached-bad (left_by (Err k) E) ∙ ap (λ (j : Refusal). refused (number_of j) n) (sym (end-inside src at (Err k) E.found).1))

  module _ (e : ℕ) (E : EndIs src at (Ok (Some e))) {letters widths : List ℕ} (F : Forms kinds letters widths) (l : Found Parsed) (L : LineIs most_digits letters widths (take (e - at) (drop at src)) l) where
    line_read : (o : Option Line) → as_parsed kinds l ≡ o → Reached (read_of src) (o ∷ left src (e + 1)) lines all n
    line_read o a = subst (λ (x : Option Line). Reached (read_of src) (x ∷ left src (e + 1)) lines all n) (sym (L.of kinds F) ∙ a) (left_by (Ok (Some e)) E)

    pub turn-bad : l ≡ None → TurnIs src at lines all n (Err Malformed)
    turn-bad b = so-far-refused Malformed (reached-bad (line_read none (ap (as_parsed kinds) b)))

    module _ (p : Parsed) (b : l ≡ Some p) {lines' all' : List ℕ} where
      pub turn-fault : (k : Refusal) → Takes lines all (line_at p.kind p.values) lines' all' (number_of k) → TurnIs src at lines' all' n (Err k)
      turn-fault k t =
          so-far-refused k (reached-fault (line_read (some (line_at p.kind p.values)) (ap (as_parsed kinds) b)) t.fault-is (λ z. omega (arith, number-some k)))

      pub turn-taken : Takes lines all (line_at p.kind p.values) lines' all' 0 → TurnIs src at lines' all' n (Ok (Some e))
      turn-taken t = (E.found, reached-next (line_read (some (line_at p.kind p.values)) (ap (as_parsed kinds) b)) t refl)

-- the reader's answer is that of the outcome
pub answered : (src : List ℕ) (o : Outcome) → read_of src ≡ o → read_answer o ≡ read_call src
unfolding read_call
answered src o e = ap read_answer (sym e)
