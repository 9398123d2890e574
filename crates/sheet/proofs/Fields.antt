-- Laws of the numbers of a line, field by field: what is read so far, in front of what is left to read.
-- Assumes nothing.
use mathlib.Core.Path.{◌≡◌, refl}
use mathlib.Core.List.{List, [], ◌∷◌, ◌++◌, append_assoc, append-nil}
use mathlib.Core.Option.{Option, some, none}
use Prim.Native.Nat.{ℕ, suc, ◌+◌, ◌-◌, ◌≤◌, ◌<◌}
use native.Mathlib.Omega.{arith}
use native.Mathlib.Numerals.{add-one}
use lib.ListN.{length, take, drop, set}
use lib.Seq.{take-suc-set}
use Rattle.sheet.specs.Lists.{◌then◌}
use Rattle.sheet.specs.Decimal.{number_of}
use Rattle.sheet.specs.Lines.{numbers_of}
use Rattle.sheet.specs.Inner.{span_of, parts_from}
use Rattle.sheet.specs.Laws.Parts.{parts-step, parts_none}

-- numbers in front of numbers that may be missing
abbrev pub onto_all : List ℕ → Option (List ℕ) → Option (List ℕ)
onto_all ns o = o then λ r. some (ns ++ r)

onto-cons : (ns : List ℕ) (v : ℕ) (o : Option (List ℕ)) → onto_all ns (o then λ r. some (v ∷ r)) ≡ onto_all (ns ++ (v ∷ [])) o
onto-cons ns v none = refl
onto-cons ns v (some r) = rw append_assoc

pub onto-none : (o : Option (List ℕ)) → o ≡ onto_all [] o
onto-none none = refl
onto-none (some r) = refl

module _ (most : ℕ) (l ns : List ℕ) (w k at n : ℕ) where
  -- what is read so far, and what is left to read
  abbrev pub so_far : Option (List ℕ)
  so_far = onto_all (take k ns) (numbers_of most (w - k) (parts_from n at l))

  -- a field more is wanted, or none is
  one_more : k < w → w - k ≡ suc (w - (k + 1))
  one_more h = omega arith

  no_more : w ≤ k → w - k ≡ 0
  no_more h = omega arith

  pub so-missing : k < w → length l < at → so_far ≡ none
  unfolding numbers_of
  so-missing h e = rw (parts_none n at l e, one_more h)

  pub so-bad : k < w → at ≤ length l → number_of most (take (span_of n (drop at l)) (drop at l)) ≡ none → so_far ≡ none
  unfolding numbers_of
  so-bad h a e = rw (parts-step n at l a, one_more h, e)

  pub so-more : (v : ℕ) → k < w → k < length ns → at ≤ length l → number_of most (take (span_of n (drop at l)) (drop at l)) ≡ some v
      → so_far ≡ onto_all (take (k + 1) (set ns k v)) (numbers_of most (w - (k + 1)) (parts_from n (at + span_of n (drop at l) + 1) l))
  unfolding numbers_of
  so-more v h hn a e =
      let t : take (k + 1) (set ns k v) ≡ take k ns ++ (v ∷ []) = rw add-one (take-suc-set ns k v hn) in
      rw (parts-step n at l a, one_more h, e, t) (onto-cons (take k ns) v (numbers_of most (w - (k + 1)) (parts_from n (at + span_of n (drop at l) + 1) l)))

  pub so-extra : w ≤ k → at ≤ length l → so_far ≡ none
  unfolding numbers_of
  so-extra h a = rw (parts-step n at l a, no_more h)

  pub so-all : w ≤ k → length l < at → so_far ≡ some (take k ns)
  unfolding numbers_of
  so-all h a = rw (parts_none n at l a, no_more h, append-nil)
