-- Laws of the parts between the bytes of a kind, and of the search for the first byte of it.
use Rattle.std.specs.Prelude.{Bool, true, false, ◌≡◌, refl, List, [], ◌∷◌, ℕ, suc, ◌+◌, ◌≤◌, ◌<◌, eqb, length, get_or, take, drop}
use Rattle.std.proofs.Common.{◌∙◌, arith, add-one, ⊎_elim, length-drop, drop_of_length-le, drop-drop}
use Rattle.std.proofs.Math.Dec.{leb-suc-suc}
use Rattle.std.proofs.Math.Seq.{drop-cons}
use borrow.Author.Tests.{lt-ltb, le-leb, lt-leb, eq-eqb, ne_eqb}
use Rattle.sheet.specs.Laws.Decimal.{below_or_not}
use Rattle.sheet.specs.Lists.{pick}
use Rattle.sheet.specs.Bytes.{kind_of, onto, split}
use Rattle.sheet.specs.Inner.{span_of, parts_from}

module _ (s : List ℕ) (i k : ℕ) (h : i < length s) where
  pub span-stop : kind_of (get_or s i 0) ≡ k → span_of k (drop i s) ≡ 0
  unfolding span_of
  span-stop e = rw (drop-cons s i 0, eq-eqb _ _ e)

  pub span_more : (kind_of (get_or s i 0) ≡ k → ⊥) → span_of k (drop i s) ≡ suc (span_of k (drop (i + 1) s))
  unfolding span_of
  span_more n = rw (add-one, drop-cons s i 0, ne_eqb _ _ n)

pub span-end : (s : List ℕ) (i k : ℕ) → length s ≤ i → span_of k (drop i s) ≡ 0
unfolding span_of
span-end s i k h = rw drop_of_length-le

pub span-le : (k : ℕ) (l : List ℕ) → span_of k l ≤ length l
unfolding span_of
span-le k [] = omega arith
span-le k (b ∷ l) = go (eqb (kind_of b) k) (span-le k l)
  where
    go : (t : Bool) → span_of k l ≤ length l → pick t 0 (suc (span_of k l)) ≤ suc (length l)
    go true r = omega arith
    go false r = omega arith

pub parts_none : (k at : ℕ) (l : List ℕ) → length l < at → parts_from k at l ≡ []
unfolding parts_from
parts_none k at l h = simp (lt-leb at (length l) h)

pub parts-here : (k at : ℕ) (l : List ℕ) → at ≤ length l → parts_from k at l ≡ split k (drop at l)
unfolding parts_from
parts-here k at l h = rw (le-leb at (length l) h)

parts-drop : (k at n : ℕ) (l : List ℕ) → at ≤ length l → parts_from k n (drop at l) ≡ parts_from k (at + n) l
parts-drop k at n l h =
    ⊎_elim
    (λ m. rw (parts_none k n (drop at l) m, parts_none k (at + n) l (omega (arith, length-drop at l))))
    (λ m. rw (parts-here k n (drop at l) m, parts-here k (at + n) l (omega (arith, length-drop at l)), drop-drop))
    (below_or_not (length (drop at l)) n)

-- the first part, and the parts after it
pub split_step : (k : ℕ) (l : List ℕ) → split k l ≡ take (span_of k l) l ∷ parts_from k (suc (span_of k l)) l
unfolding span_of split parts_from
split_step k [] = refl
split_step k (b ∷ l) = go (eqb (kind_of b) k) (split_step k l)
  where
    go : (t : Bool) → split k l ≡ take (span_of k l) l ∷ parts_from k (suc (span_of k l)) l
        → pick t ([] ∷ split k l) (onto b (split k l)) ≡ take (pick t 0 (suc (span_of k l))) (b ∷ l) ∷ parts_from k (suc (pick t 0 (suc (span_of k l)))) (b ∷ l)
    go true r = rw (lt-ltb 0 (suc (length l)) (omega arith))
    go false r = rw (r, leb-suc-suc)

pub parts-step : (k at : ℕ) (l : List ℕ) → at ≤ length l → parts_from k at l ≡ take (span_of k (drop at l)) (drop at l) ∷ parts_from k (at + span_of k (drop at l) + 1) l
parts-step k at l h =
    let e : at + suc (span_of k (drop at l)) ≡ at + span_of k (drop at l) + 1 = omega arith in
    parts-here k at l h ∙ split_step k (drop at l) ∙ rw (parts-drop k at (suc (span_of k (drop at l))) l h, e)
