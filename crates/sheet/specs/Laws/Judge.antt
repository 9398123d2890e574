-- Judging line by line, as one statement about all the lines: they are loaded exactly when each passes its tests after those before it.
use Rattle.std.specs.Prelude.{◌≡◌, refl, Bool, true, false, List, [], ◌∷◌, ◌++◌, map, ℕ, suc, ◌≤◌, eqb, length}
use Rattle.std.proofs.Common.{sym, ◌∙◌, ap, subst, true≢false, append-nil, arith, eqb-true, eq-eqb}
use Rattle.std.proofs.Math.Option.{Option, some, none}
use Rattle.std.proofs.Math.Seq.{append_snoc}
use Rattle.sheet.specs.Lists.{pick}
use Rattle.sheet.specs.Lines.{Line}
use Rattle.sheet.specs.Sheet.{Sheet, sheet_of, fault, lacking, Outcome, refused, loaded, judge}

-- each line passes its tests after the lines before it
abbrev pub Passes : List Line → List Line → Type 0
Passes before [] = Unit {0}
Passes before (l ∷ ls) = (fault before l ≡ 0) × Passes (before ++ (l ∷ [])) ls

pub record Judged (before : List Line) (ls : List (Option Line)) (s : Sheet) : Type 0 where
  pub lines : List Line
  pub all_lines : ls ≡ map some lines
  pub passes : Passes before lines
  pub complete : lacking (before ++ lines) ≡ false
  pub sheet : s ≡ sheet_of (before ++ lines)

pub loaded-inj : (s r : Sheet) → loaded s ≡ loaded r → s ≡ r
loaded-inj s r e = cc

pub not-loaded : (k n : ℕ) (s : Sheet) → refused k n ≡ loaded s → ⊥
not-loaded k n s e = let z : ◌≡◌ {A = ℕ} 0 1 = cc in omega arith

-- where nothing is lacking, there is a line
pub some-line : (ls : List Line) → lacking ls ≡ false → 1 ≤ length ls
some-line [] e = absurd (true≢false e)
some-line (l ∷ ls) e = omega arith

-- one line: it passes, and the rest is judged after it
judge-step : (before : List Line) (l : Line) (ls : List (Option Line)) (s : Sheet)
    → (judge (before ++ (l ∷ [])) ls ≡ loaded s → Judged (before ++ (l ∷ [])) ls s)
    → pick (eqb (fault before l) 0) (judge (before ++ (l ∷ [])) ls) (refused (fault before l) (suc (length before))) ≡ loaded s
    → Judged before (some l ∷ ls) s
judge-step before l ls s f e = go (eqb (fault before l) 0) refl e
  where
    go : (t : Bool) → eqb (fault before l) 0 ≡ t → pick t (judge (before ++ (l ∷ [])) ls) (refused (fault before l) (suc (length before))) ≡ loaded s
        → Judged before (some l ∷ ls) s
    go false q e = absurd (not-loaded (fault before l) (suc (length before)) s e)
    go true q e =
        let r = f e in
        let a : (before ++ (l ∷ [])) ++ r.lines ≡ before ++ (l ∷ r.lines) = append_snoc before l r.lines in
        record {
          lines = l ∷ r.lines;
          all_lines = ap (λ (k : List (Option Line)). some l ∷ k) r.all_lines;
          passes = (eqb-true (fault before l) 0 q, r.passes);
          complete = subst (λ (k : List Line). lacking k ≡ false) a r.complete;
          sheet = r.sheet ∙ ap sheet_of a;
        }

-- the end of the lines: nothing is lacking
ends-loaded : (before : List Line) (s : Sheet) → pick (lacking before) (refused 3 (suc (length before))) (loaded (sheet_of before)) ≡ loaded s → Judged before [] s
ends-loaded before s e = go (lacking before) refl e
  where
    go : (t : Bool) → lacking before ≡ t → pick t (refused 3 (suc (length before))) (loaded (sheet_of before)) ≡ loaded s → Judged before [] s
    go true q e = absurd (not-loaded 3 (suc (length before)) s e)
    go false q e =
        record {
          lines = [];
          all_lines = refl;
          passes = tt;
          complete = ap lacking (append-nil before) ∙ q;
          sheet = loaded-inj s (sheet_of (before ++ [])) (sym e ∙ ap (λ (l : List Line). loaded (sheet_of l)) (sym (append-nil before)));
        }

pub judge-passes : (before : List Line) (ls : List (Option Line)) (s : Sheet) → judge before ls ≡ loaded s → Judged before ls s
unfolding judge
judge-passes before [] s e = ends-loaded before s e
judge-passes before (none ∷ ls) s e = absurd (not-loaded 2 (suc (length before)) s e)
judge-passes before (some l ∷ ls) s e = judge-step before l ls s (judge-passes (before ++ (l ∷ [])) ls s) e

passes-step : (before : List Line) (l : Line) (o : Outcome) → fault before l ≡ 0 → pick (eqb (fault before l) 0) o (refused (fault before l) (suc (length before))) ≡ o
passes-step before l o e = rw (eq-eqb (fault before l) 0 e)

pub passes-judge : (before ls : List Line) → Passes before ls → lacking (before ++ ls) ≡ false → judge before (map some ls) ≡ loaded (sheet_of (before ++ ls))
unfolding judge
passes-judge before [] p h = rw (sym (ap lacking (append-nil before)) ∙ h) (ap (λ (l : List Line). loaded (sheet_of l)) (sym (append-nil before)))
passes-judge before (l ∷ ls) p h =
    passes-step before l (judge (before ++ (l ∷ [])) (map some ls)) p.0
    ∙ passes-judge (before ++ (l ∷ [])) ls p.1 (subst (λ (k : List Line). lacking k ≡ false) (sym (append_snoc before l ls)) h)
    ∙ ap (λ (k : List Line). loaded (sheet_of k)) (append_snoc before l ls)
