-- The orders on costs and the crossings of a sheet, computed. Need not be believed: Laws.Figures and proofs/Moves.antt say that they are `AtMost`,
-- `Dominates`, equality and `Crossing`.
use Rattle.std.specs.Prelude.{Bool, true, false, not, ◌&&◌, List, [], ◌∷◌, ℕ, leb, eqb}
use Rattle.costs.specs.Costs.{Cost}
use Rattle.sheet.specs.Lists.{filter, any}
use Rattle.sheet.specs.Sheet.{Sheet, from, to}
use Rattle.sheet.specs.declared.Place.{Place}
use Rattle.costs.specs.Moves.{wait_of}

-- the order figure by figure, dominance and equality
abbrev pub at_most_b : Cost → Cost → Bool
at_most_b [] b = true
at_most_b (x ∷ a) [] = leb x 0 && at_most_b a []
at_most_b (x ∷ a) (y ∷ b) = leb x y && at_most_b a b

abbrev pub dominatesb : Cost → Cost → Bool
dominatesb a b = at_most_b a b && not (at_most_b b a)

abbrev pub sameb : List ℕ → List ℕ → Bool
sameb [] [] = true
sameb [] (y ∷ b) = false
sameb (x ∷ a) [] = false
sameb (x ∷ a) (y ∷ b) = eqb x y && sameb a b

-- an X line forbids departing from u to v at step t
abbrev pub closedb : Sheet → ℕ → ℕ → ℕ → Bool
closedb s u v t = any (sameb (u ∷ v ∷ t ∷ [])) s.closures

-- the corridors that a cart at u can take at step t
unfoldable pub leaving : Sheet → ℕ → ℕ → List (List ℕ)
leaving s u t = filter (λ k. eqb (from k) u && not (closedb s u (to k) t)) s.corridors

-- the cost that the promise of the code cites
unfoldable pub wait_at : Sheet → Place → Cost
unfolding wait_of
wait_at s v = wait_of s v.0
