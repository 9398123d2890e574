-- The first of a line's tests that fails, test by test, after all lines that stand in the arrays: as long as none fails, the tests that are left decide the
-- fault. A test goes by the number of its refusal, so that nothing here depends on which there are; 0 is past the last of them.
-- Assumes nothing.
use mathlib.Core.Path.{◌≡◌, sym, ◌∙◌, ap}
use mathlib.Core.Bool.{Bool, true, false}
use mathlib.Core.List.{List, [], ◌∷◌}
use Prim.Native.Nat.{ℕ}
use lib.Dec.{eqb}
use Rattle.sheet.specs.Lists.{pick}
use Rattle.sheet.specs.Lines.{Line}
use Rattle.sheet.specs.Sheet.{tests, first_failed, fault}
use Rattle.sheet.specs.Inner.{Stored, FaultIs}

-- the tests from that of refusal n on
abbrev pub from : ℕ → List (ℕ × Bool) → List (ℕ × Bool)
from n [] = []
from n (t ∷ ts) = pick (eqb t.0 n) (t ∷ ts) (from n ts)

abbrev pub first : ℕ → List (ℕ × Bool) → Bool → List (ℕ × Bool)
first n ts b = (n, b) ∷ ts

module _ (lines all : List ℕ) (l : Line) where
  -- the tests from that of refusal n on are left
  pub record Left (n : ℕ) : Type 0 where
    pub of : (before : List Line) → Stored before lines all → fault before l ≡ first_failed (from n (tests before l))

  -- the test of refusal n fails where b, and that of m is the next
  pub record Tried (n m : ℕ) (b : Bool) : Type 0 where
    pub of : (before : List Line) → Stored before lines all → from n (tests before l) ≡ first n (from m (tests before l)) b

module _ {lines all : List ℕ} {l : Line} {n m : ℕ} (p : Left lines all l n) where
  pub left-next : Tried lines all l n m false → Left lines all l m
  left-next t = record { of = λ before S. p.of before S ∙ ap first_failed (t.of before S) }

  pub left-stop : Tried lines all l n m true → FaultIs lines all l n
  left-stop t = record { of = λ before S. sym (p.of before S ∙ ap first_failed (t.of before S)) }
