-- What the parser of a line promises (document 01, refusal 2), of any kinds of lines and any most digits of a number: crates promise it each other, and no
-- call for the host cites it.
use Rattle.std.specs.Prelude.{◌≡◌, List, map, ℕ, ◌≤◌, ◌<◌, length, get_or, take, Option as Found, Some, None}
use Rattle.std.proofs.Math.Option.{Option, some, none}
use Rattle.sheet.specs.Lists.{number}
use Rattle.sheet.specs.Kinds.{Kind, width, kind_s}
use Rattle.sheet.specs.Lines.{Line, line, line_of}
use Rattle.sheet.specs.declared.lines.Parsed.{Parsed}

-- the letters and the counts of numbers of these kinds of lines, of at most eight numbers each
pub record Forms (ks : List Kind) (letters widths : List ℕ) : Type 0 where
  pub letters-are : letters ≡ map (λ k. k.letter) ks
  pub widths-are : widths ≡ map width ks
  pub narrow : (i : ℕ) → number widths i ≤ 8

pub record SomeForms (letters widths : List ℕ) : Type 0 where
  pub kinds-of : List Kind
  pub forms : Forms kinds-of letters widths

-- the line of the kind at position k of ks whose numbers stand in the array v
abbrev pub line_of_kinds : List Kind → ℕ → List ℕ → Line
line_of_kinds ks k v = line (get_or ks k kind_s) (take (width (get_or ks k kind_s)) v)

abbrev pub as_parsed : List Kind → Found Parsed → Option Line
as_parsed ks (Some p) = some (line_of_kinds ks p.kind p.values)
as_parsed ks None = none

-- r is what the bytes p of a line stand for, among lines of these forms
pub record LineIs (most : ℕ) (letters widths p : List ℕ) (r : Found Parsed) : Type 0 where
  pub known : (l : Parsed) → r ≡ Some l → l.kind < length letters
  pub of : (ks : List Kind) → Forms ks letters widths → as_parsed ks r ≡ line_of most ks p
