-- Words about lists that the definitions share: choice, members, tests, flat tables, and the ascending order of document 01 ("by first figure,
-- then second, then third").
use Rattle.std.specs.Prelude.{◌≡◌, ◌⊎◌, Bool, true, false, ◌&&◌, ◌||◌, List, [], ◌∷◌, ◌++◌, ℕ, zero, suc, ◌-◌, ◌<◌, length, get_or, take, drop, replicate}
use Rattle.std.proofs.Math.Option.{Option, some, none}

-- the first where the test passed, else the second
abbrev pub pick {ℓ} : {A : Type ℓ} → Bool → A → A → A
pick true a b = a
pick false a b = b

infixl 40 ◌then◌
-- what f makes of a value, where there is one
abbrev pub ◌then◌ : {A B : Type 0} → Option A → (A → Option B) → Option B
none then f = none
(some a) then f = f a

-- number i of a list, from 0; 0 past its end
abbrev pub number : List ℕ → ℕ → ℕ
number l i = get_or l i 0

-- n numbers of a list, from number i on
abbrev pub numbers_from : ℕ → ℕ → List ℕ → List ℕ
numbers_from zero i l = []
numbers_from (suc n) i l = number l i ∷ numbers_from n (suc i) l

-- the numbers, and zeros up to n of them
abbrev pub filled : ℕ → List ℕ → List ℕ
filled n l = l ++ replicate (n - length l) 0

-- n rows of w numbers each
abbrev pub rows : ℕ → ℕ → List ℕ → List (List ℕ)
rows w zero l = []
rows w (suc n) l = take w l ∷ rows w n (drop w l)

module _ {A : Type 0} where
  infix 50 ◌∈◌
  -- a is a member of the list
  abbrev pub ◌∈◌ : A → List A → Type 0
  a ∈ [] = ⊥
  a ∈ (x ∷ l) = (a ≡ x) ⊎ a ∈ l

  -- x in front of l, if the test passed
  abbrev pub keep : Bool → A → List A → List A
  keep true x l = x ∷ l
  keep false x l = l

  -- the members that pass the test
  abbrev pub filter : (A → Bool) → List A → List A
  filter p [] = []
  filter p (x ∷ l) = keep (p x) x (filter p l)

  -- every member passes the test
  abbrev pub all : (A → Bool) → List A → Bool
  all p [] = true
  all p (x ∷ l) = let r = all p l in p x && r

  -- some member passes the test
  abbrev pub any : (A → Bool) → List A → Bool
  any p [] = false
  any p (x ∷ l) = let r = any p l in p x || r

-- the results of f over the members, one after another
abbrev pub bind : {A B : Type 0} → List A → (A → List B) → List B
bind [] f = []
bind (x ∷ l) f = f x ++ bind l f

-- lists one after another
abbrev pub flat : List (List ℕ) → List ℕ
flat l = bind l (λ k. k)

-- a stands before b: by the first number that differs
abbrev pub Lex : List ℕ → List ℕ → Type 0
Lex [] [] = ⊥
Lex [] (y ∷ b) = Unit {0}
Lex (x ∷ a) [] = ⊥
Lex (x ∷ a) (y ∷ b) = (x < y) ⊎ ((x ≡ y) × Lex a b)
