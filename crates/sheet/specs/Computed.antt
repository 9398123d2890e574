-- The ascending order, computed. Need not be believed: Laws.Order says that it is `Lex`.
use Rattle.std.specs.Prelude.{Bool, true, false, List, [], ◌∷◌, ℕ, ltb, eqb}

-- a stands before b; `after` has the tests of the heads, and that of the tails
abbrev pub after : Bool → Bool → Bool → Bool
after true e r = true
after false true r = r
after false false r = false

abbrev pub lexb : List ℕ → List ℕ → Bool
lexb [] [] = false
lexb [] (y ∷ b) = true
lexb (x ∷ a) [] = false
lexb (x ∷ a) (y ∷ b) = after (ltb x y) (eqb x y) (lexb a b)
