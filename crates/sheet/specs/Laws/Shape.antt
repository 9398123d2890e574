-- A line in shape: of one of the kinds of lines that an input may hold, with as many numbers as the kind has. Every line that is read is in shape.
use Rattle.std.specs.Prelude.{◌≡◌, List, length}
use Rattle.sheet.specs.Lists.{◌∈◌}
use Rattle.sheet.specs.Kinds.{Kind, width, kinds}
use Rattle.sheet.specs.Lines.{Line}

pub record ShapedIn (ks : List Kind) (l : Line) : Type 0 where
  pub known : l.kind ∈ ks
  pub count : length l.numbers ≡ width l.kind

abbrev pub AllShapedIn : List Kind → List Line → Type 0
AllShapedIn ks ls = (l : Line) → l ∈ ls → ShapedIn ks l

-- on a sheet
abbrev pub Shaped : Line → Type 0
Shaped l = ShapedIn kinds l

abbrev pub AllShaped : List Line → Type 0
AllShaped ls = AllShapedIn kinds ls
