-- Judging with the lines so far in the arrays: where it starts, one line more, and the refusals.
-- Assumes nothing.
use mathlib.Core.Path.{◌≡◌, refl, sym, ◌∙◌, ap, ap₂}
use mathlib.Core.Bool.{Bool, true}
use mathlib.Core.List.{List, [], ◌∷◌, ◌++◌, map}
use mathlib.Core.Option.{Option, some, none}
use Prim.Native.Nat.{ℕ, suc, ◌+◌, ◌-◌}
use native.Mathlib.Omega.{arith}
use lib.ListN.{length, replicate, length-append, replicate-append-replicate}
use borrow.Author.Tests.{eq-eqb, ne_eqb}
use Rattle.sheet.specs.Kinds.{Kind, room, kinds}
use Rattle.sheet.specs.Lines.{Line}
use Rattle.sheet.specs.Sheet.{group, fault, lacking, Outcome, refused, judge}
use Rattle.sheet.specs.Store.{base_in, spread, Blank}
use Rattle.sheet.specs.Refusals.{number_of}
use Rattle.sheet.specs.Inner.{FaultIs, LacksIs, Takes, Reached, SoFar}
use Rattle.sheet.specs.declared.refusal.Refusal.{Refusal}
use Rattle.sheet.specs.Laws.Refusals.{number-some}

-- one line is judged, or what is no line, or the end
judge-passed : (before : List Line) (l : Line) (ls : List (Option Line)) → fault before l ≡ 0 → judge before (some l ∷ ls) ≡ judge (before ++ (l ∷ [])) ls
unfolding judge
judge-passed [] l ls e = rw (eq-eqb (fault [] l) 0 e)
judge-passed (m ∷ before) l ls e = rw (eq-eqb (fault (m ∷ before) l) 0 e)

judge-faulty : (before : List Line) (l : Line) (ls : List (Option Line)) → (fault before l ≡ 0 → ⊥)
    → judge before (some l ∷ ls) ≡ refused (fault before l) (suc (length before))
unfolding judge
judge-faulty [] l ls e = rw (ne_eqb (fault [] l) 0 e)
judge-faulty (m ∷ before) l ls e = rw (ne_eqb (fault (m ∷ before) l) 0 e)

judge-none : (before : List Line) (ls : List (Option Line)) → judge before (none ∷ ls) ≡ refused 2 (suc (length before))
unfolding judge
judge-none [] ls = refl
judge-none (m ∷ before) ls = refl

judge-lacking : (before : List Line) → lacking before ≡ true → judge before [] ≡ refused 3 (suc (length before))
unfolding judge
judge-lacking before e = rw e

-- no lines in the arrays: zeros
no_cells : (ks : List Kind) → replicate (base_in ks (length ks)) 0 ≡ spread ks (map (λ k. group k []) ks)
no_cells [] = refl
no_cells (k ∷ ks) =
    let z : room k - 0 ≡ room k = omega arith in
    rw z (sym (replicate-append-replicate (room k) (base_in ks (length ks)) 0) ∙ ap (λ (l : List ℕ). replicate (room k) 0 ++ l) (no_cells ks))

pub reached-start : {lines all : List ℕ} → Blank lines all → (todo : List (Option Line)) → Reached (judge [] todo) todo lines all 1
reached-start b todo =
    record {
      before = [];
      stored = record { shaped = λ l m. absurd m; passes = tt; counts = b.no_lines; cells = b.no_cells ∙ no_cells kinds };
      next = refl;
      same = refl;
    }

module _ {end : Outcome} {lines all : List ℕ} {n : ℕ} where
  pub reached-next : {l : Line} {todo : List (Option Line)} {lines' all' : List ℕ} {r : ℕ} → Reached end (some l ∷ todo) lines all n
      → Takes lines all l lines' all' r → r ≡ 0 → Reached end todo lines' all' (n + 1)
  reached-next {l = l} {todo = todo} R t z =
      record {
        before = R.before ++ (l ∷ []);
        stored = t.stored R.before R.stored z;
        next = omega (arith, R.next, length-append R.before (l ∷ []));
        same = sym (judge-passed R.before l todo (sym (t.fault-is.of R.before R.stored) ∙ z)) ∙ R.same;
      }

  pub reached-fault : {l : Line} {todo : List (Option Line)} {r : ℕ} → Reached end (some l ∷ todo) lines all n → FaultIs lines all l r → (r ≡ 0 → ⊥)
      → end ≡ refused r n
  reached-fault {l = l} {todo = todo} R f z =
      let e = f.of R.before R.stored in
      sym R.same ∙ judge-faulty R.before l todo (λ y. z (e ∙ y)) ∙ ap₂ refused (sym e) (sym R.next)

  pub reached-bad : {todo : List (Option Line)} → Reached end (none ∷ todo) lines all n → end ≡ refused 2 n
  reached-bad {todo = todo} R = sym R.same ∙ judge-none R.before todo ∙ ap (refused 2) (sym R.next)

  pub reached-short : {b : Bool} → Reached end [] lines all n → LacksIs lines all b → b ≡ true → end ≡ refused 3 n
  reached-short R h e =
      sym R.same ∙ judge-lacking R.before (sym (h.of R.before R.stored) ∙ e) ∙ ap (refused 3) (sym R.next)

  -- the verdict on lines that were judged with no refusal, and with one
  module _ {todo : List (Option Line)} where
    pub so_far : Reached end todo lines all n → SoFar end todo lines all (record { refusal = 0; line = n })
    so_far R = record { refuses = λ y. absurd (y refl); reaches = λ y. R }

    pub so-far-refused : (k : Refusal) → end ≡ refused (number_of k) n → SoFar end todo lines all (record { refusal = number_of k; line = n })
    so-far-refused k e = record { refuses = λ y. e; reaches = λ y. absurd (omega (arith, number-some k)) }
