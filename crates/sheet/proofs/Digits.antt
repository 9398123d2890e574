-- Laws of reading the digits of a field: one digit more, a byte that is none, the end, and what is no number.
-- Assumes nothing.
use mathlib.Core.Bool.{Bool, true, false, ◌&&◌, ◌||◌}
use mathlib.Core.Path.{◌≡◌, refl, sym, ◌∙◌, ap}
use mathlib.Core.Logic.{◌⊎◌, inl, inr}
use mathlib.Core.List.{List, ◌∷◌}
use mathlib.Core.Option.{Option, some, none}
use Rattle.std.specs.Prelude.{Some, None}
use Prim.Native.Nat.{ℕ, ◌+◌, ◌*◌, ◌-◌, ◌≤◌, ◌<◌}
use native.Mathlib.Omega.{arith}
use native.Mathlib.Nat.{add-zero}
use native.Mathlib.Numerals.{add-one}
use lib.Dec.{ltb, eqb}
use lib.ListN.{length, get_or, drop, length-drop}
use lib.Seq.{drop-cons, length-take-le, get_or-take, get_or-drop}
use borrow.Author.Tests.{le-ltb, eq-eqb, ne_eqb, eqb-false}
use Rattle.sheet.specs.Lists.{pick, number}
use Rattle.sheet.specs.Bytes.{kind_of, digit, comma}
use Rattle.sheet.specs.Decimal.{digits_from, number_of}
use Rattle.sheet.specs.Inner.{span_of, field_from, DigitsAre, FieldIs}
use Rattle.sheet.specs.declared.lines.Field.{Field}
use Rattle.sheet.specs.Laws.Passed.{or-false}
use Rattle.sheet.specs.Laws.Decimal.{below_or_not, NumberIs, number_is}
use Rattle.sheet.specs.Laws.Parts.{span-le, span-stop, span-end}

-- a digit is no comma
pub no-comma : (l : List ℕ) (i : ℕ) → kind_of (get_or l i 0) ≡ digit → kind_of (get_or l i 0) ≡ comma → ⊥
no-comma l i d e = omega (arith, d, e)

module _ (l : List ℕ) (i : ℕ) (h : i < length l) where
  field-cons : (kind_of (get_or l i 0) ≡ comma → ⊥) → field_from l i ≡ get_or l i 0 ∷ field_from l (i + 1)
  unfolding span_of
  field-cons n = rw (add-one, drop-cons l i 0, ne_eqb _ _ n)

  pub reads_on : (v : ℕ) → kind_of (get_or l i 0) ≡ digit → digits_from v (field_from l i) ≡ digits_from (v * 10 + (get_or l i 0 - 48)) (field_from l (i + 1))
  unfolding digits_from
  reads_on v e = rw (field-cons (no-comma l i e), eq-eqb _ _ e)

  reads-stop : (v : ℕ) → (kind_of (get_or l i 0) ≡ digit → ⊥) → (kind_of (get_or l i 0) ≡ comma → ⊥) → digits_from v (field_from l i) ≡ none
  unfolding digits_from
  reads-stop v d n = rw (field-cons n, ne_eqb _ _ d)

-- nothing is left to read
reads_end : (l : List ℕ) (i v : ℕ) → span_of comma (drop i l) ≡ 0 → digits_from v (field_from l i) ≡ some v
unfolding digits_from
reads_end l i v e = rw e

field-length : (l : List ℕ) (i : ℕ) → length (field_from l i) ≡ span_of comma (drop i l)
field-length l i = length-take-le _ _ (span-le comma (drop i l))

module _ (most : ℕ) where
  -- a field is no number where no number fits it
  no_number : (f : List ℕ) → ((n : ℕ) → NumberIs most n f → ⊥) → number_of most f ≡ none
  no_number f h = go (number_of most f) (λ n e. h n (number_is most n f e))
    where
      go : (o : Option ℕ) → ((n : ℕ) → o ≡ some n → ⊥) → o ≡ none
      go none h = refl
      go (some n) h = absurd (h n refl)

  -- where i bytes on, with the value v, what is left of the field reads as the whole
  module _ (l : List ℕ) (at i v : ℕ)
      (s : i + span_of comma (drop i l) ≡ at + span_of comma (drop at l))
      (e : digits_from v (field_from l i) ≡ digits_from 0 (field_from l at)) where
    -- the field ends at i
    digits-here : span_of comma (drop i l) ≡ 0 → (j : ℕ) → j ≡ i → DigitsAre most l at (Some (record { end = j; value = v }))
    digits-here z j d =
        record {
          ends = λ f t. let q : j ≡ f.end = cc in omega (arith, s, z, d);
          reads = λ f t. let q : v ≡ f.value = cc in sym e ∙ reads_end l i v z ∙ ap some q;
          fails = λ t. cc;
        }

    pub digits-comma : i < length l → kind_of (get_or l i 0) ≡ comma → DigitsAre most l at (Some (record { end = i; value = v }))
    digits-comma h q = digits-here (span-stop l i comma h q) i refl

    pub digits-over : length l ≤ i → i ≤ length l → DigitsAre most l at (Some (record { end = length l; value = v }))
    digits-over h g = digits-here (span-end l i comma h) (length l) (omega arith)

    -- it is no number
    digits-none : ((n : ℕ) → NumberIs most n (field_from l at) → ⊥) → DigitsAre most l at None
    digits-none h = record { ends = λ f t. cc; reads = λ f t. cc; fails = λ t. no_number _ h }

    pub digits-stop : i < length l → (kind_of (get_or l i 0) ≡ digit → ⊥) → (kind_of (get_or l i 0) ≡ comma → ⊥) → DigitsAre most l at None
    digits-stop h d n =
        digits-none (λ m r.
        let x = sym e ∙ reads-stop l i h v d n in
        let y = r.value in
        let z : ◌≡◌ {A = ℕ} 0 1 = cc in omega arith)

    pub digits-many : at + most < i → DigitsAre most l at None
    digits-many h = digits-none (λ n q. omega (arith, field-length l at, s, q.few))

  pub field-none : (l : List ℕ) (at : ℕ) → number_of most (field_from l at) ≡ none → FieldIs most l at None
  field-none l at n = record { ends = λ f t. cc; number = sym n }

  -- where the field is digits
  module _ (l : List ℕ) (at : ℕ) (r : Field) (is : DigitsAre most l at (Some r)) where
    pub field-ahead : at ≤ r.end
    field-ahead = omega (arith, is.ends r refl)

    size : length (field_from l at) ≡ r.end - at
    size = omega (arith, field-length l at, is.ends r refl)

    first : 0 < r.end - at → number (field_from l at) 0 ≡ get_or l at 0
    first h = get_or-take (span_of comma (drop at l)) (drop at l) 0 0 (omega (arith, is.ends r refl)) ∙ get_or-drop at l 0 0 ∙ ap (λ (j : ℕ). get_or l j 0) (add-zero at)

    -- no digit or too many, and a leading zero
    abbrev sized : Bool
    sized = eqb (r.end - at) 0 || ltb most (r.end - at)

    abbrev zeroed : Bool
    zeroed = ltb 1 (r.end - at) && eqb (get_or l at 0) 48

    pub field-inside : sized ≡ false → at < length l
    field-inside h =
        let z = eqb-false (r.end - at) 0 (or-false (eqb (r.end - at) 0) (ltb most (r.end - at)) h).0 in
        omega (arith, z, is.ends r refl, span-le comma (drop at l), length-drop at l)

    zero_test : (1 < r.end - at) ⊎ (r.end - at ≤ 1) → ltb 1 (length (field_from l at)) && eqb (number (field_from l at) 0) 48 ≡ zeroed
    zero_test (inl h) = rw (size, first (omega arith))
    zero_test (inr h) = rw (size, le-ltb 1 (r.end - at) h)

    -- the definition's tests are these
    field-tests : number_of most (field_from l at) ≡ pick sized none (pick zeroed none (some r.value))
    unfolding number_of
    field-tests = rw (zero_test (below_or_not 1 (r.end - at)), size, is.reads r refl) (go (eqb (r.end - at) 0))
      where
        go : (b : Bool) → pick b none (pick (ltb most (r.end - at)) none (pick zeroed none (some r.value))) ≡ pick (b || ltb most (r.end - at)) none (pick zeroed none (some r.value))
        go true = refl
        go false = refl

    pub field-sized : sized ≡ true → number_of most (field_from l at) ≡ none
    field-sized h = rw (field-tests, h)

    pub field-zeroed : sized ≡ false → zeroed ≡ true → number_of most (field_from l at) ≡ none
    field-zeroed h z = rw (field-tests, h, z)

    pub field_is : sized ≡ false → zeroed ≡ false → FieldIs most l at (Some r)
    field_is h z = record { ends = is.ends; number = rw (field-tests, h, z) }
