-- The first way on from the start, to the earliest arrival, is the journey that the tie rule selects (specs/Laws/Tie.antt).
-- Assumes nothing.
use Rattle.std.specs.Prelude.{◌≡◌, refl, ◌⊎◌, Bool, true, false, List, ◌∷◌, ℕ, ◌<◌, length, ltb}
use Rattle.std.proofs.Common.{sym, ap, subst, inl, inr, arith, ltb-true, ltb-false}
use Rattle.sheet.specs.Lists.{Lex}
use Rattle.sheet.specs.Sheet.{Sheet, start}
use Rattle.costs.specs.Costs.{Cost, zero_cost}
use Rattle.intervals.specs.Intervals.{Free}
use Rattle.journeys.specs.Journeys.{Journey, rank, Selected}
use Rattle.journeys.specs.Computed.{journey_of}
use Rattle.journeys.specs.Laws.Journeys.{selected-unique, journey_of-selected}
use Rattle.journeys.specs.Laws.Goal.{AtGoal, journey-at}
use Rattle.journeys.specs.Laws.Exact.{Rest}
use Rattle.journeys.specs.Laws.Tie.{First, Forth, journey-forth, rest-journey}

-- the first from the start, to the earliest arrival, is the journey that the tie rule selects
first-selected : (s : Sheet) (f : Cost) (A : ℕ) (p : List ℕ) → Free s (start s) 0 → ((t : ℕ) → t < A → AtGoal s t f → ⊥) → First s f A (start s) 0 zero_cost p → Selected s f (start s ∷ p)
first-selected s f A p fr none k = record { journey = rest-journey s f A p fr k.rest; first = λ q j. first q j (journey-forth s f q j) }
  where
    first : (q : List ℕ) (j : Journey s q f) → Forth s f j.A q → (start s ∷ p ≡ q) ⊎ Lex (rank (start s ∷ p)) (rank q)
    first q j x = subst (λ (l : List ℕ). (start s ∷ p ≡ l) ⊎ Lex (rank (start s ∷ p)) (rank l)) (sym x.whole) (go (ltb j.A A) (ltb A j.A) refl refl)
      where
        r : List ℕ
        r = x.after

        under : length p ≡ length r → (p ≡ r) ⊎ Lex p r → (◌≡◌ {A = List ℕ} (start s ∷ p) (start s ∷ r)) ⊎ Lex (rank (start s ∷ p)) (rank (start s ∷ r))
        under e (inl d) = inl (ap (λ (l : List ℕ). start s ∷ l) d)
        under e (inr d) = let lower : Lex (start s ∷ p) (start s ∷ r) = inr (refl, d) in inr (inr (omega (arith, e), lower))

        go : (b c : Bool) → ltb j.A A ≡ b → ltb A j.A ≡ c → (◌≡◌ {A = List ℕ} (start s ∷ p) (start s ∷ r)) ⊎ Lex (rank (start s ∷ p)) (rank (start s ∷ r))
        go true c e d = absurd (none j.A (ltb-true j.A A e) (journey-at s q f j))
        go false true e d = inr (inl (omega (arith, ltb-true A j.A d, k.rest.until, x.rest.until)))
        go false false e d =
            let z : j.A ≡ A = omega (arith, ltb-false j.A A e, ltb-false A j.A d) in
            under (omega (arith, z, k.rest.until, x.rest.until)) (k.least r (subst (λ (n : ℕ). Rest s f n (start s) 0 zero_cost r) z x.rest))

pub first-journey_of : (s : Sheet) (f : Cost) (A : ℕ) (p : List ℕ) → Free s (start s) 0 → ((t : ℕ) → t < A → AtGoal s t f → ⊥) → First s f A (start s) 0 zero_cost p → journey_of s f ≡ start s ∷ p
first-journey_of s f A p fr none k =
    let c = first-selected s f A p fr none k in
    selected-unique s f (journey_of s f) (start s ∷ p) (journey_of-selected s f (start s ∷ p, c.journey)) c
