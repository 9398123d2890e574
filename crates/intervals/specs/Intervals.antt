-- Occupied and free, and safe intervals (document 01, "The sheet": "the place is occupied at each step from first to last, both
-- included", and "Safe intervals and leading arrivals": "a longest run of steps within 0 to T at which a place is unoccupied (001)").
use Rattle.std.specs.Prelude.{◌≡◌, ◌⊎◌, Bool, true, false, not, ◌&&◌, List, ℕ, ◌+◌, ◌-◌, ◌≤◌, leb, eqb}
use Rattle.sheet.specs.Lists.{all}
use Rattle.sheet.specs.Sheet.{Sheet, steps, place_of, first, last}

-- the line o occupies place v at step t, computed
unfoldable pub occupiesb : ℕ → ℕ → List ℕ → Bool
occupiesb v t o = eqb (place_of o) v && leb (first o) t && leb t (last o)

-- place v is unoccupied at step t: no line occupies it
unfoldable pub freeb : Sheet → ℕ → ℕ → Bool
unfolding occupiesb
freeb s v t = all (λ o. not (occupiesb v t o)) s.occupancies

abbrev pub Free : Sheet → ℕ → ℕ → Type 0
Free s v t = freeb s v t ≡ true

-- place v is unoccupied at each step from t to t'
abbrev pub Run : Sheet → ℕ → ℕ → ℕ → Type 0
Run s v t t' = (i : ℕ) → t ≤ i → i ≤ t' → Free s v i

-- a safe interval of v, from its first step to its last: a longest run of steps within 0 to T
pub record Interval (s : Sheet) (v a b : ℕ) : Type 0 where
  pub ordered : a ≤ b
  pub within : b ≤ steps s
  pub free : Run s v a b
  pub no-sooner : (a ≡ 0) ⊎ (freeb s v (a - 1) ≡ false)
  pub no_longer : (b ≡ steps s) ⊎ (freeb s v (b + 1) ≡ false)

-- the steps t and t' are in one safe interval of v, from a to b
abbrev pub Together : Sheet → ℕ → ℕ → ℕ → Type 0
Together s v t t' = (a : ℕ) × (b : ℕ) × Interval s v a b × (a ≤ t) × (t ≤ b) × (a ≤ t') × (t' ≤ b)
