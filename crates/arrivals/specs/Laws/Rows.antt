-- Rows of the arrivals table are made of their numbers.
use Rattle.std.specs.Prelude.{◌≡◌, refl, List, ℕ, ◌+◌, ◌*◌, ◌≤◌, ◌<◌, get_or}
use Rattle.std.proofs.Common.{◌∙◌, inl, inr, ⊎_elim, arith}
use Rattle.sheet.specs.Laws.Decided.{from-same}
use Rattle.costs.specs.Costs.{figures}
use Rattle.arrivals.specs.Rows.{Row, row_at, Besides, Put}

pub row-path : {p q s t : ℕ} {g h : List ℕ} → p ≡ q → s ≡ t → g ≡ h → ◌≡◌ {A = Row} (record { place = p; step = s; cost = g }) (record { place = q; step = t; cost = h })
row-path e f g = λ i. record { place = e i; step = f i; cost = g i }

pub row_kept : (xs ys : List ℕ) (n : ℕ) → ((j : ℕ) → n * 5 ≤ j → j < n * 5 + 5 → get_or ys j 0 ≡ get_or xs j 0) → row_at ys n ≡ row_at xs n
row_kept xs ys n h = row-path (h (n * 5) (omega arith) (omega arith)) (h (n * 5 + 1) (omega arith) (omega arith)) (from-same figures (n * 5 + 2) (n * 5 + 2) ys xs (λ i l. h (n * 5 + 2 + i) (omega arith) (omega arith)))

pub besides-then : {lo hi : ℕ} {a b c : List ℕ} → Besides lo hi a b → Besides lo hi b c → Besides lo hi a c
besides-then p q = record { size = q.size ∙ p.size; same = λ i o. q.same i o ∙ p.same i o }

pub besides-wide : {lo hi : ℕ} {a b : List ℕ} (l h : ℕ) → l ≤ lo → hi ≤ h → Besides lo hi a b → Besides l h a b
besides-wide l h x y p = record { size = p.size; same = λ i o. p.same i (⊎_elim (λ m. inl (omega arith)) (λ m. inr (omega arith)) o) }

pub put_as : {xs ys : List ℕ} {n p q s : ℕ} {g h : List ℕ} → p ≡ q → g ≡ h → Put xs ys n (record { place = p; step = s; cost = g }) → Put xs ys n (record { place = q; step = s; cost = h })
put_as {xs} {ys} {n} {p} {q} {s} {g} {h} d e w = record { below = w.below; above = w.above; row = w.row ∙ row-path d refl e }
