-- What is written of lines (document 01, "The sheet", "Written sheet" and "What is handed back"): a letter, a comma before each number, a line feed.
use Rattle.std.specs.Prelude.{List, [], ◌∷◌, ◌++◌, ℕ}
use Rattle.sheet.specs.Lists.{bind}
use Rattle.sheet.specs.Decimal.{digits_of, most_digits}
use Rattle.sheet.specs.Lines.{Line}
use Rattle.sheet.specs.Sheet.{Sheet, sheet_lines}

-- a comma and the digits, of which there are at most `most`
unfoldable pub number_text : ℕ → ℕ → List ℕ
unfolding digits_of
number_text most n = 44 ∷ digits_of most n

-- the line with the letter c and these numbers
unfoldable pub printed : ℕ → ℕ → List ℕ → List ℕ
unfolding number_text
printed most c ns = c ∷ (bind ns (number_text most) ++ (10 ∷ []))

unfoldable pub line_text : ℕ → Line → List ℕ
unfolding printed
line_text most l = printed most l.kind.letter l.numbers

unfoldable pub sheet_text : Sheet → List ℕ
unfolding line_text
sheet_text s = bind (sheet_lines s) (line_text most_digits)

-- the most digits that a number of 32 bits is printed with
abbrev pub most_printed : ℕ
most_printed = 10

-- `R,number,line`
unfoldable pub refusal_line : ℕ → ℕ → List ℕ
unfolding printed
refusal_line k n = printed most_printed 82 (k ∷ n ∷ [])
