-- Laws of what is written: the digits of a number by the most that there may be, and a row in an array.
-- Assumes nothing.
use mathlib.Core.Path.{◌≡◌, refl, sym, ◌∙◌, ap}
use mathlib.Core.List.{List, [], ◌∷◌, ◌++◌}
use Prim.Native.Nat.{ℕ, zero, suc, ◌+◌, ◌-◌, ◌/◌, ◌%◌, ◌≤◌, ◌<◌}
use native.Mathlib.Omega.{arith}
use native.Mathlib.Numerals.{add-one, sub-one}
use lib.ListN.{length, set, take, get_or, length-append}
use lib.Seq.{take-suc, length-take-le}
use Rattle.sheet.specs.Lists.{filled}
use Rattle.sheet.specs.Decimal.{digits_of}
use Rattle.sheet.specs.Laws.Decimal.{digits-small, digits_more}
use Rattle.sheet.specs.Laws.Stores.{sets-filled}

pub digits-none : (k n : ℕ) → k ≡ 0 → digits_of k n ≡ []
unfolding digits_of
digits-none k n e = rw e

pub digits-one : (k n : ℕ) → (k ≡ 0 → ⊥) → n < 10 → digits_of k n ≡ (48 + n) ∷ []
digits-one zero n z h = absurd (z refl)
digits-one (suc k) n z h = digits-small k n h

pub digits-big : (k n : ℕ) → (k ≡ 0 → ⊥) → 10 ≤ n → digits_of k n ≡ digits_of (k - 1) (n / 10) ++ ((48 + n % 10) ∷ [])
digits-big zero n z h = absurd (z refl)
digits-big (suc k) n z h = rw sub-one (digits_more k n h)

pub digits-big-length : (k n : ℕ) → (k ≡ 0 → ⊥) → 10 ≤ n → length (digits_of k n) ≡ length (digits_of (k - 1) (n / 10)) + 1
digits-big-length k n z h = ap length (digits-big k n z h) ∙ simp length-append

-- one number more of an array that is filled up with zeros
pub filled_more : (n i : ℕ) (l : List ℕ) → i < n → i < length l → set (filled n (take i l)) i (get_or l i 0) ≡ filled n (take (i + 1) l)
filled_more n i l p q =
    let e : length (take i l) ≡ i = length-take-le i l (omega arith) in
    sets-filled n (take i l) (get_or l i 0 ∷ []) i (sym e) (omega arith) ∙ rw (add-one, take-suc l i 0 q)
