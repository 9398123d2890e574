-- Laws of a line: its first field is the letter of its kind, found by its position among the letters, and the fields after it are the kind's numbers.
-- Assumes nothing.
use mathlib.Core.Bool.{Bool, true, false}
use mathlib.Core.Path.{◌≡◌, refl, sym, ◌∙◌, ap}
use mathlib.Core.Logic.{◌⊎◌, inl, inr, ⊎_elim, ◌≢◌}
use mathlib.Core.List.{List, [], ◌∷◌, map}
use mathlib.Core.Option.{Option, some, none}
use Rattle.std.specs.Prelude.{Some, None}
use Prim.Native.Nat.{ℕ, zero, suc, ◌≤◌, ◌<◌}
use native.Mathlib.Omega.{arith}
use lib.Dec.{eqb}
use lib.ListN.{length, get_or, take, length-map}
use lib.Seq.{length-take-le}
use Rattle.sheet.specs.Lists.{pick, ◌then◌, number}
use Rattle.sheet.specs.Bytes.{comma}
use Rattle.sheet.specs.Kinds.{Kind, width, kind_s}
use Rattle.sheet.specs.Lines.{line, with_letter, numbers_of, of_fields, line_of}
use Rattle.sheet.specs.Inner.{span_of, parts_from, position_of}
use Rattle.sheet.specs.Forms.{Forms, SomeForms, LineIs}
use Rattle.sheet.specs.Laws.Parts.{span-le, split_step}

-- k is the position of the kind o among ks, or their count where there is none
abbrev Stands : List Kind → ℕ → Option Kind → Type 0
Stands ks k o = ((k ≡ length ks) × (o ≡ none)) ⊎ ((k < length ks) × (o ≡ some (get_or ks k kind_s)))

letter-stands : (c : ℕ) (ks : List Kind) → Stands ks (position_of c (map (λ k. k.letter) ks)) (with_letter c ks)
letter-stands c [] = inl (refl, refl)
letter-stands c (j ∷ ks) = go (eqb j.letter c) (position_of c (map (λ k. k.letter) ks)) (with_letter c ks) (letter-stands c ks)
  where
    go : (t : Bool) (k : ℕ) (o : Option Kind) → Stands ks k o → Stands (j ∷ ks) (pick t 0 (suc k)) (pick t (some j) o)
    go true k o r = inr (omega arith, refl)
    go false k o (inl r) = inl (omega arith, r.1)
    go false k o (inr r) = inr (omega arith, r.1)

width-at : (ks : List Kind) (k : ℕ) → k < length ks → number (map width ks) k ≡ width (get_or ks k kind_s)
width-at [] k h = absurd (omega arith)
width-at (j ∷ ks) zero h = refl
width-at (j ∷ ks) (suc k) h = width-at ks k (omega arith)

module _ (letters widths : List ℕ) where
  forms-letters : (ks : List Kind) → Forms ks letters widths → length letters ≡ length ks
  forms-letters ks F = ap length F.letters-are ∙ length-map ks (λ k. k.letter)

  pub forms-widths : SomeForms letters widths → length widths ≡ length letters
  forms-widths S = let F = S.forms in ap length F.widths-are ∙ length-map S.kinds-of width ∙ sym (forms-letters S.kinds-of F)

  -- the byte c has the position k among the letters
  module _ (c k : ℕ) (d : k ≡ position_of c letters) where
    stands : (ks : List Kind) → Forms ks letters widths → Stands ks k (with_letter c ks)
    stands ks F = rw (d, F.letters-are) (letter-stands c ks)

    known : (ks : List Kind) → Forms ks letters widths → k ≢ length letters → (k < length ks) × (with_letter c ks ≡ some (get_or ks k kind_s))
    known ks F h = ⊎_elim (λ s. absurd (h (s.0 ∙ sym (forms-letters ks F)))) (λ s. s) (stands ks F)

    pub letter-below : SomeForms letters widths → k ≢ length letters → k < length letters
    letter-below S h = omega (arith, (known S.kinds-of S.forms h).0, forms-letters S.kinds-of S.forms)

take-one : (l : List ℕ) → 1 ≤ length l → take 1 l ≡ get_or l 0 0 ∷ []
take-one [] h = absurd (omega arith)
take-one (c ∷ l) h = refl

module _ (most : ℕ) (ks : List Kind) (l : List ℕ) where
  fields-bad : (f : List ℕ) (fs : List (List ℕ)) → (length f ≡ 1 → ⊥) → of_fields most ks (f ∷ fs) ≡ none
  unfolding of_fields
  fields-bad [] fs h = refl
  fields-bad (c ∷ []) fs h = absurd (h refl)
  fields-bad (c ∷ d ∷ ds) fs h = refl

  -- a line whose first field is not one byte
  line_first : (span_of comma l ≡ 1 → ⊥) → line_of most ks l ≡ none
  unfolding line_of
  line_first h = rw (split_step comma l) (fields-bad (take (span_of comma l) l) _ (λ e. h (sym (length-take-le (span_of comma l) l (span-le comma l)) ∙ e)))

  -- a line whose first field is one byte
  line-letter : span_of comma l ≡ 1 → line_of most ks l ≡ with_letter (get_or l 0 0) ks then λ k. numbers_of most (width k) (parts_from comma 2 l) then λ ns. some (line k ns)
  unfolding line_of of_fields
  line-letter e = rw (split_step comma l, e, take-one l (omega (arith, span-le comma l)))

-- what is handed back of a line, by what was found of it
module _ (most : ℕ) (letters widths l : List ℕ) where
  no_line : ((ks : List Kind) → Forms ks letters widths → line_of most ks l ≡ none) → LineIs most letters widths l None
  no_line h = record { known = λ p t. cc; of = λ ks F. sym (h ks F) }

  pub line-not-one : (span_of comma l ≡ 1 → ⊥) → LineIs most letters widths l None
  line-not-one h = no_line (λ ks F. line_first most ks l h)

  -- the first field is one byte, which has the position k
  module _ (e : span_of comma l ≡ 1) (k : ℕ) (d : k ≡ position_of (get_or l 0 0) letters) where
    pub line-unknown : k ≡ length letters → LineIs most letters widths l None
    line-unknown h =
        no_line (λ ks F.
        ⊎_elim
        (λ s. rw (line-letter most ks l e, s.1))
        (λ s. absurd (omega (arith, s, forms-letters letters widths ks F)))
        (stands letters widths (get_or l 0 0) k d ks F))

    -- the letter is known, and the reader of its numbers handed back o
    module _ (S : SomeForms letters widths) (h : k ≢ length letters) where
      line-numbers : (o : Option (List ℕ)) → o ≡ numbers_of most (number widths k) (parts_from comma 2 l) → (ks : List Kind) (F : Forms ks letters widths)
          → line_of most ks l ≡ o then λ ns. some (line (get_or ks k kind_s) ns)
      line-numbers o q ks F =
          let s = known letters widths (get_or l 0 0) k d ks F h in
          let w : number widths k ≡ width (get_or ks k kind_s) = rw F.widths-are (width-at ks k s.0) in
          rw (line-letter most ks l e, s.1, ← w, ← q)

      pub line_known : (v : List ℕ) → some (take (number widths k) v) ≡ numbers_of most (number widths k) (parts_from comma 2 l)
          → LineIs most letters widths l (Some (record { kind = k; values = v }))
      line_known v q =
          record {
            known = λ p t. let z : k ≡ p.kind = cc in rw (← z) (letter-below letters widths (get_or l 0 0) k d S h);
            of = λ ks F.
                let s = known letters widths (get_or l 0 0) k d ks F h in
                let w : number widths k ≡ width (get_or ks k kind_s) = rw F.widths-are (width-at ks k s.0) in
                ap (λ (n : ℕ). some (line (get_or ks k kind_s) (take n v))) (sym w) ∙ sym (line-numbers _ q ks F);
          }

      pub line_bad : none ≡ numbers_of most (number widths k) (parts_from comma 2 l) → LineIs most letters widths l None
      line_bad q = no_line (λ ks F. line-numbers none q ks F)
