-- Places and steps compared: the library's order of numbers, as the tests that the definitions use.
-- Assumes nothing.
use mathlib.Core.Path.{◌≡◌, refl, sym}
use mathlib.Core.Bool.{Bool, true, false, not}
use Prim.Native.Nat.{ℕ}
use native.Mathlib.Omega.{arith}
use lib.Dec.{eqb, leb, ltb}
use borrow.Author.Tests.{eqb-true, eqb-false, ltb-true, ltb-false, le-leb, lt-leb, not-true, not-false}
use Rattle.std.proofs.Common.{cond, nat_cmp}
use Rattle.std.specs.Ordering.{is_lt, is_le}
use Rattle.std.specs.declared.cmp.Ordering.TheVariants.{Less, Equal, Greater}

pub lt-is : (a b : ℕ) → is_lt (nat_cmp a b) ≡ ltb a b
lt-is a b = go (ltb a b) (eqb a b)
  where
    go : (l e : Bool) → is_lt (cond l Less (cond e Equal Greater)) ≡ l
    go true e = refl
    go false true = refl
    go false false = refl

pub le-is : (a b : ℕ) → is_le (nat_cmp a b) ≡ leb a b
le-is a b = go (ltb a b) refl (eqb a b) refl
  where
    go : (l : Bool) → ltb a b ≡ l → (e : Bool) → eqb a b ≡ e → is_le (cond l Less (cond e Equal Greater)) ≡ leb a b
    go true p e q = sym (le-leb a b (omega (arith, ltb-true a b p)))
    go false p true q = sym (le-leb a b (omega (arith, eqb-true a b q)))
    go false p false q = let d : a ≡ b → ⊥ = eqb-false a b q in sym (lt-leb a b (omega (arith, ltb-false a b p)))

-- what a test of two unlike numbers tells
pub unlike : {a b : ℕ} → true ≡ not (eqb a b) → a ≡ b → ⊥
unlike {a} {b} e = eqb-false a b (not-true (eqb a b) (sym e))

pub alike : {a b : ℕ} → false ≡ not (eqb a b) → a ≡ b
alike {a} {b} e = eqb-true a b (not-false (eqb a b) (sym e))
