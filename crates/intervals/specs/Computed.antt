-- Runs and safe intervals, computed, and what the promises of the code cite. Need not be believed: Laws.Runs and proofs/Runs.antt say that they are `Run`
-- and `Interval` (`runb-true`, `intervals-are`, `are-intervals`, `since-is`, `is-since`).
use Rattle.std.specs.Prelude.{Bool, ◌&&◌, List, [], ◌∷◌, ◌++◌, map, ℕ, zero, suc, ◌+◌, ◌-◌, eqb, leb}
use Rattle.sheet.specs.Lists.{pick, filter}
use Rattle.sheet.specs.Sheet.{Sheet, steps}
use Rattle.intervals.specs.Intervals.{freeb}

-- v is free at t and at the n steps after it, computed
abbrev pub runb : Sheet → ℕ → ℕ → ℕ → Bool
runb s v t zero = freeb s v t
runb s v t (suc n) = let r = runb s v (suc t) n in freeb s v t && r

-- v is free from t to n steps after it, no later than the step `last`
unfoldable pub stayb : Sheet → ℕ → ℕ → ℕ → ℕ → Bool
unfolding freeb
stayb s v last n t = let r = runb s v t n in leb (t + n) last && r

-- the first step of the free run that holds t, where v is free at t
unfoldable pub first_of : Sheet → ℕ → ℕ → ℕ
unfolding freeb
first_of s v zero = 0
first_of s v (suc t) = pick (freeb s v t) (first_of s v t) (suc t)

-- the last step of the free run that holds t, looking at most n steps on
unfoldable pub last_of : Sheet → ℕ → ℕ → ℕ → ℕ
unfolding freeb
last_of s v t zero = t
last_of s v t (suc n) = pick (freeb s v (suc t)) (last_of s v (suc t) n) t

pub record Span : Type 0 where
  pub first_step : ℕ
  pub last_step : ℕ

-- t begins a safe interval of v
unfoldable pub beginsb : Sheet → ℕ → ℕ → Bool
unfolding freeb first_of
beginsb s v t = freeb s v t && eqb (first_of s v t) t

-- the steps 0 to n
abbrev pub steps_to : ℕ → List ℕ
steps_to zero = 0 ∷ []
steps_to (suc n) = steps_to n ++ (suc n ∷ [])

-- the safe intervals of v, ascending
unfoldable pub intervals_of : Sheet → ℕ → List Span
unfolding beginsb last_of
intervals_of s v = map (λ t. record { first_step = t; last_step = last_of s v t (steps s - t) }) (filter (beginsb s v) (steps_to (steps s)))

-- the first step of the free run that holds t, at any step; 256, above every step, where v is occupied then
unfoldable pub since_of : Sheet → ℕ → ℕ → ℕ
unfolding freeb first_of
since_of s v t = pick (freeb s v t) (first_of s v t) 256
