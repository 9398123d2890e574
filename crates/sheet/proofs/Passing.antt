-- Tests that pass along lists, position by position: the order of two rows, and counts that are not 0.
-- What is left from a position on decides the same as the whole, as long as every position before it decided nothing.
-- Assumes nothing.
use mathlib.Core.Path.{◌≡◌, refl, ◌∙◌}
use mathlib.Core.Bool.{Bool, true, false, not}
use mathlib.Core.List.{List}
use Prim.Native.Nat.{ℕ, ◌+◌, ◌≤◌, ◌<◌}
use native.Mathlib.Omega.{arith}
use native.Mathlib.Numerals.{add-one}
use lib.Dec.{ltb, eqb}
use lib.ListN.{length, get_or, take, drop, length-drop, drop_of_length-le}
use lib.Seq.{drop-cons, get_or-take, get_or-drop, length-take-le}
use borrow.Author.Tests.{lt-ltb, le-ltb, eq-eqb, ne_eqb}
use Rattle.sheet.specs.Computed.{lexb, after}

-- n numbers of a from `at` on and the first n of b, from position i on
abbrev pub lex_from : ℕ → List ℕ → ℕ → List ℕ → ℕ → Bool
lex_from n a at b i = lexb (drop i (take n (drop at a))) (drop i (take n b))

module _ (n : ℕ) (a : List ℕ) (at : ℕ) (b : List ℕ) (p : at + n ≤ length a) (q : n ≤ length b) (i : ℕ) where
  row-length : length (take n (drop at a)) ≡ n
  row-length = length-take-le n (drop at a) (omega (arith, length-drop at a))

  lex-next : i < n → lex_from n a at b i ≡ after (ltb (get_or a (at + i) 0) (get_or b i 0)) (eqb (get_or a (at + i) 0) (get_or b i 0)) (lex_from n a at b (i + 1))
  lex-next h =
      let x : i < length (take n (drop at a)) = omega (arith, row-length) in
      let y : i < length (take n b) = omega (arith, length-take-le n b q) in
      rw (add-one, drop-cons (take n (drop at a)) i 0 x, drop-cons (take n b) i 0 y, get_or-take n (drop at a) i 0 h, get_or-drop at a i 0, get_or-take n b i 0 h)

  pub lex-differs : i < n → (get_or a (at + i) 0 ≡ get_or b i 0 → ⊥) → lex_from n a at b i ≡ ltb (get_or a (at + i) 0) (get_or b i 0)
  lex-differs h f = lex-next h ∙ rw (ne_eqb (get_or a (at + i) 0) (get_or b i 0) f) (go (ltb (get_or a (at + i) 0) (get_or b i 0)) (lex_from n a at b (i + 1)))
    where
      go : (t r : Bool) → after t false r ≡ t
      go true r = refl
      go false r = refl

  pub lex-below : i < n → get_or a (at + i) 0 < get_or b i 0 → lex_from n a at b i ≡ true
  lex-below h l = lex-next h ∙ rw (lt-ltb (get_or a (at + i) 0) (get_or b i 0) l)

  pub lex-above : i < n → get_or b i 0 < get_or a (at + i) 0 → lex_from n a at b i ≡ false
  lex-above h l = lex-next h ∙ rw (le-ltb (get_or a (at + i) 0) (get_or b i 0) (omega arith), ne_eqb (get_or a (at + i) 0) (get_or b i 0) (λ e. omega arith))

  pub lex-same : i < n → get_or b i 0 ≤ get_or a (at + i) 0 → get_or a (at + i) 0 ≤ get_or b i 0 → lex_from n a at b i ≡ lex_from n a at b (i + 1)
  lex-same h l g = lex-next h ∙ rw (le-ltb (get_or a (at + i) 0) (get_or b i 0) l, eq-eqb (get_or a (at + i) 0) (get_or b i 0) (omega arith))

  pub lex-none : n ≤ i → lex_from n a at b i ≡ false
  lex-none h =
      let x : length (take n (drop at a)) ≤ i = omega (arith, row-length) in
      let y : length (take n b) ≤ i = omega (arith, length-take-le n b q) in
      rw (drop_of_length-le (take n (drop at a)) x, drop_of_length-le (take n b) y)

-- the last numbers decide by themselves
pub lex-last : (n : ℕ) (a : List ℕ) (at : ℕ) (b : List ℕ) → at + n ≤ length a → n ≤ length b → (i : ℕ) → i + 1 ≡ n
    → lex_from n a at b i ≡ ltb (get_or a (at + i) 0) (get_or b i 0)
lex-last n a at b p q i e =
    lex-next n a at b p q i (omega arith)
    ∙ rw (lex-none n a at b p q (i + 1) (omega arith)) (go (ltb (get_or a (at + i) 0) (get_or b i 0)) (eqb (get_or a (at + i) 0) (get_or b i 0)))
  where
    go : (t s : Bool) → after t s false ≡ t
    go true s = refl
    go false true = refl
    go false false = refl

-- a count that is not 0
abbrev pub counted : ℕ → Bool
counted n = not (eqb n 0)
