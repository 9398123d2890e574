-- Lines and fields (document 01, "The sheet" and refusal 2): what the bytes of a line stand for, and the lines of a text, of any kinds of lines and any most
-- digits of a number.
use Rattle.std.specs.Prelude.{List, [], ◌∷◌, ℕ, zero, suc, eqb}
use Rattle.std.proofs.Math.Option.{Option, some, none}
use Rattle.sheet.specs.Lists.{pick, ◌then◌}
use Rattle.sheet.specs.Bytes.{split, comma, line_feed}
use Rattle.sheet.specs.Decimal.{number_of}
use Rattle.sheet.specs.Kinds.{Kind, width}

pub record Line : Type 0 where
  pub kind : Kind
  pub numbers : List ℕ

abbrev pub line : Kind → List ℕ → Line
line k ns = record { kind = k; numbers = ns }

-- the kind of line with the letter c
abbrev pub with_letter : ℕ → List Kind → Option Kind
with_letter c [] = none
with_letter c (k ∷ ks) = let r = with_letter c ks in pick (eqb k.letter c) (some k) r

-- the numbers of exactly w fields; none where the count is another or a field is no number
unfoldable pub numbers_of : ℕ → ℕ → List (List ℕ) → Option (List ℕ)
unfolding number_of
numbers_of most zero [] = some []
numbers_of most zero (f ∷ fs) = none
numbers_of most (suc w) [] = none
numbers_of most (suc w) (f ∷ fs) = number_of most f then λ n. numbers_of most w fs then λ ns. some (n ∷ ns)

-- the first field is one byte, the letter of a kind
unfoldable pub of_fields : ℕ → List Kind → List (List ℕ) → Option Line
unfolding numbers_of
of_fields most ks [] = none
of_fields most ks ([] ∷ fs) = none
of_fields most ks ((c ∷ []) ∷ fs) = with_letter c ks then λ k. numbers_of most (width k) fs then λ ns. some (line k ns)
of_fields most ks ((c ∷ d ∷ ds) ∷ fs) = none

-- what the bytes of a line, without its line feed, stand for; none where test 2 refuses it
unfoldable pub line_of : ℕ → List Kind → List ℕ → Option Line
unfolding of_fields split
line_of most ks p = of_fields most ks (split comma p)

-- the lines of the parts between line feeds; what stands after the last is nothing, or a line whose line feed is missing, which test 2 refuses
unfoldable pub lines_of : ℕ → List Kind → List (List ℕ) → List (Option Line)
unfolding line_of
lines_of most ks [] = []
lines_of most ks ([] ∷ []) = []
lines_of most ks ((b ∷ bs) ∷ []) = none ∷ []
lines_of most ks (p ∷ q ∷ ps) = line_of most ks p ∷ lines_of most ks (q ∷ ps)

-- the lines of a text
unfoldable pub text_lines : ℕ → List Kind → List ℕ → List (Option Line)
unfolding lines_of split
text_lines most ks b = lines_of most ks (split line_feed b)
