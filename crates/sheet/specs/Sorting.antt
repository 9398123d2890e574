-- Ascending lists, and the ascending list of the members of a list, each once. Need not be believed: Laws.Ascending has what it holds (`mem-sort_unique`, `sort_unique-mem`,
-- `sort_unique-ascending`), and that two ascending lists with the same members are one.
use Rattle.std.specs.Prelude.{Bool, true, false, List, [], ◌∷◌, ℕ}
use Rattle.sheet.specs.Lists.{Lex}
use Rattle.sheet.specs.Computed.{lexb}

-- things in the order of their keys, which are lists of numbers
module _ {A : Type 0} (key : A → List ℕ) where
  -- x stands before the first member
  abbrev pub Before : A → List A → Type 0
  Before x [] = Unit {0}
  Before x (y ∷ l) = Lex (key x) (key y)

  -- strictly ascending
  abbrev pub Ascending : List A → Type 0
  Ascending [] = Unit {0}
  Ascending (x ∷ l) = Before x l × Ascending l

  -- x put before y ∷ l where it is below y, or further down where it is above, r being l with x; nowhere where it is y
  abbrev pub put : Bool → Bool → A → A → List A → List A → List A
  put true d x y l r = x ∷ y ∷ l
  put false true x y l r = y ∷ r
  put false false x y l r = y ∷ l

  abbrev pub insert : A → List A → List A
  insert x [] = x ∷ []
  insert x (y ∷ l) = let r = insert x l in put (lexb (key x) (key y)) (lexb (key y) (key x)) x y l r

  -- the members, ascending, each once
  abbrev pub sortUnique : List A → List A
  sortUnique [] = []
  sortUnique (x ∷ l) = insert x (sortUnique l)
