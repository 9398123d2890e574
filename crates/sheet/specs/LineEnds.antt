-- The line reader (document 01, "The sheet": "The line reader goes on from the byte after the last line feed"; refusal 2: "a line feed missing"):
-- where the line from a position on ends, what such an answer stands for, and where the reader stands.
-- The contracts of `read` and `write` cite nothing of this file.
use Rattle.std.specs.Prelude.{◌≡◌, List, [], ◌∷◌, ℕ, ◌+◌, ◌-◌, leb, eqb, length, take, drop, Option as Found, Some, None, Result, Ok, Err}
use Rattle.std.proofs.Math.Option.{Option, none}
use Rattle.std.specs.Borrow.{Bor}
use Rattle.sheet.specs.Lists.{pick}
use Rattle.sheet.specs.Bytes.{line_feed}
use Rattle.sheet.specs.Decimal.{most_digits}
use Rattle.sheet.specs.Kinds.{Kind, kinds}
use Rattle.sheet.specs.Lines.{Line, line_of, text_lines}
use Rattle.sheet.specs.Sheet.{read_of}
use Rattle.sheet.specs.Inner.{span_of, Reached, SoFar}
use Rattle.sheet.specs.Refusals.{number_of, Verdict}
use Rattle.sheet.specs.declared.line_reader.LineReader.{LineReader}
use Rattle.sheet.specs.declared.refusal.Refusal.{Refusal}
use Rattle.sheet.specs.declared.refusal.Refusal.TheVariants.{Malformed}

-- where a line ends: at the line feed at a position, or nothing is left; or its line feed is missing
abbrev pub LineEnd : Type 0
LineEnd = Result (Found ℕ) Refusal

-- the position of the first line feed from `at` on, or the length
abbrev pub feed_from : List ℕ → ℕ → ℕ
feed_from src at = at + span_of line_feed (drop at src)

-- where the line from `at` on ends
abbrev pub line_end_at : List ℕ → ℕ → LineEnd
line_end_at src at = pick (leb (length src) at) (Ok None) (pick (eqb (feed_from src at) (length src)) (Err Malformed) (Ok (Some (feed_from src at))))

-- the line from `at` on ends at the line feed at e
abbrev pub EndsAt : List ℕ → ℕ → ℕ → Type 0
EndsAt src at e = Ok (Some e) ≡ line_end_at src at

-- what an answer stands for: the lines of the text from `at` on; test 2 refuses the one whose line feed is missing
abbrev pub lines_by : ℕ → List Kind → List ℕ → ℕ → LineEnd → List (Option Line)
lines_by most ks src at (Ok (Some e)) = line_of most ks (take (e - at) (drop at src)) ∷ text_lines most ks (drop (e + 1) src)
lines_by most ks src at (Ok None) = []
lines_by most ks src at (Err k) = none ∷ []

-- r is where the line from `at` on ends, and the text from there on has the lines that r stands for
pub record EndIs (src : List ℕ) (at : ℕ) (r : LineEnd) : Type 0 where
  pub found : r ≡ line_end_at src at
  pub lines : (most : ℕ) (ks : List Kind) → text_lines most ks (drop at src) ≡ lines_by most ks src at r

-- the lines left of a sheet's bytes from `at` on
abbrev pub left : List ℕ → ℕ → List (Option Line)
left src at = text_lines most_digits kinds (drop at src)

-- the lines before `at` stand in the array, and n is the number of the next one
abbrev pub ReadUpTo : List ℕ → ℕ → List ℕ → List ℕ → ℕ → Type 0
ReadUpTo src at lines all n = Reached (read_of src) (left src at) lines all n

-- v tells that reading is over: with a refusal; or with 0, and every line stands in the array
abbrev pub OverIs : List ℕ → List ℕ → List ℕ → Verdict → Type 0
OverIs src lines all v = SoFar (read_of src) [] lines all v

-- r tells what became of the line from `at` on, number n: it ends at the line feed found and stands in the array; or reading is over, since nothing is left
-- or the line is refused
abbrev pub TurnIs : List ℕ → ℕ → List ℕ → List ℕ → ℕ → LineEnd → Type 0
TurnIs src at lines all n (Ok (Some e)) = EndsAt src at e × ReadUpTo src (e + 1) lines all (n + 1)
TurnIs src at lines all n (Ok None) = OverIs src lines all (record { refusal = 0; line = n })
TurnIs src at lines all n (Err k) = OverIs src lines all (record { refusal = number_of k; line = n })

-- the same, whichever number the line has by those before it, which stand in the array
pub record NextIs (src : List ℕ) (at : ℕ) (lines all lines' all' : List ℕ) (r : LineEnd) : Type 0 where
  pub of : (n : ℕ) → ReadUpTo src at lines all n → TurnIs src at lines' all' n r

-- the reader of a sheet's bytes, and the same bytes after the line feed at e
abbrev pub opened : Bor (List ℕ) → LineReader
opened s = record { src = s; at = 0 }

abbrev pub gone_on : LineReader → ℕ → LineReader
gone_on r e = record { src = r.src; at = e + 1 }
