-- Costs (document 01, "Lawful journeys": "A cost is three numbers, added and compared place by place as one value"; 001, definition 1).
-- A cost is the list of its figures; what is said of a figure is said of the figure at any position, and a figure past the end is 0.
-- Costs ascend by `Lex`: by first figure, then second, then third.
use Rattle.std.specs.Prelude.{List, [], ◌∷◌, ℕ, ◌+◌, ◌*◌, ◌≤◌, ◌<◌, get_or, replicate}

abbrev pub Cost : Type 0
Cost = List ℕ

-- how many figures a cost has
abbrev pub figures : ℕ
figures = 3

-- the figure at position i
abbrev pub fig : Cost → ℕ → ℕ
fig a i = get_or a i 0

abbrev pub zero_cost : Cost
zero_cost = replicate figures 0

-- the sum, figure by figure
abbrev pub add : Cost → Cost → Cost
add [] b = b
add (x ∷ a) [] = x ∷ a
add (x ∷ a) (y ∷ b) = (x + y) ∷ add a b

-- n times a
abbrev pub times : ℕ → Cost → Cost
times n [] = []
times n (x ∷ a) = (n * x) ∷ times n a

-- a is nowhere greater than b
pub record AtMost (a b : Cost) : Type 0 where
  pub every : (i : ℕ) → fig a i ≤ fig b i

-- a dominates b: no figure of a is greater and one is smaller
pub record Dominates (a b : Cost) : Type 0 where
  pub at_most : AtMost a b
  pub at : ℕ
  pub smaller : fig a at < fig b at
