-- The kinds of bytes (document 01, "The sheet": "Each byte's kind (digit, comma, line feed, letter, other)"; document 02, E4: "from comparisons with the ends
-- of its range"), and the parts of a text between the bytes of one kind.
use Rattle.std.specs.Prelude.{◌&&◌, List, [], ◌∷◌, ℕ, leb, eqb}
use Rattle.sheet.specs.Lists.{pick}

-- the kinds, by the numbers that the table gave
abbrev pub digit : ℕ
digit = 0

abbrev pub comma : ℕ
comma = 1

abbrev pub line_feed : ℕ
line_feed = 2

abbrev pub letter : ℕ
letter = 3

abbrev pub other : ℕ
other = 4

-- 48 to 57 are the digits, 44 is the comma, 10 the line feed, 65 to 90 are the letters
unfoldable pub kind_of : ℕ → ℕ
kind_of b =
    pick (leb 48 b && leb b 57) digit
    (pick (eqb b 44) comma
    (pick (eqb b 10) line_feed
    (pick (leb 65 b && leb b 90) letter
    other)))

-- b in front of the first part
abbrev pub onto : ℕ → List (List ℕ) → List (List ℕ)
onto b [] = []
onto b (p ∷ ps) = (b ∷ p) ∷ ps

-- the parts between the bytes of kind k: one part more than there are such bytes
unfoldable pub split : ℕ → List ℕ → List (List ℕ)
unfolding kind_of
split k [] = [] ∷ []
split k (b ∷ bs) = pick (eqb (kind_of b) k) ([] ∷ split k bs) (onto b (split k bs))
