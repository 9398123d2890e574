-- The words of demand 3 (documents 00 and 01, "What is handed back"): equal lists of costs, as two calls of the front handed them back, and
-- the allowances that a sheet can meet. The theorem is `demand-3` of Laws.Demand3.
use Rattle.std.specs.Prelude.{◌≡◌, ◌↔◌, Bool, true, List, [], ◌∷◌, ℕ, ◌+◌, ◌*◌, ◌<◌}
use Rattle.sheet.specs.Lists.{number}
use Rattle.sheet.specs.Sheet.{told, read_of}
use Rattle.costs.specs.Costs.{figures}
use Rattle.journeys.specs.Journeys.{Meets}
use Rattle.journeys.specs.Calls.{FrontEnd, front_call}

-- the lists of costs are equal: the counts, and at each number in the front all figures, in the lists as the calls returned them
pub record SameLists (e f : FrontEnd) : Type 0 where
  pub counts : e.answer.costs ≡ f.answer.costs
  pub figures-same : (i j : ℕ) → i < e.answer.costs → j < figures → number e.list (i * 4 + j) ≡ number f.list (i * 4 + j)

-- the sheet with the bytes b can meet the allowance (x, y, z): a lawful journey on it does; bytes that do not read can meet nothing
abbrev pub CanMeet : List ℕ → ℕ → ℕ → ℕ → Type 0
CanMeet b x y z = told (λ k n. ⊥) (λ s. Meets s (x ∷ y ∷ z ∷ [])) (read_of b)

-- the comparison of the fronts of the sheets with the bytes b and c: both calls end as `front_call` says, refused or not; `same` is true exactly when
-- neither is refused and the lists of costs are equal; and that is, where neither is refused, when the two sheets can meet the same allowances
pub record ComparedIs (b table list c table' list' : List ℕ) (e f : FrontEnd) (same : Bool) : Type 0 where
  pub first-call : e ≡ front_call b table list
  pub second_call : f ≡ front_call c table' list'
  pub compares : (same ≡ true) ↔ ((e.answer.refusal ≡ 0) × (f.answer.refusal ≡ 0) × SameLists e f)
  pub demand : e.answer.refusal ≡ 0 → f.answer.refusal ≡ 0 → (same ≡ true) ↔ ((x y z : ℕ) → CanMeet b x y z ↔ CanMeet c x y z)
