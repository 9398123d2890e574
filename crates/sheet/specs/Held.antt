-- A valid sheet in one array, as a fact that a value can carry: the text of the sheet there is read as that sheet, and nothing else stands there.
use Rattle.std.specs.Prelude.{◌≡◌, List, ℕ, map, length}
use Rattle.sheet.specs.Kinds.{kinds}
use Rattle.sheet.specs.Sheet.{read_of, loaded, groups_of}
use Rattle.sheet.specs.Text.{sheet_text}
use Rattle.sheet.specs.Store.{spread, sheet_in}

pub record IsHeld (lines all : List ℕ) : Type 0 where
  pub readable : read_of (sheet_text (sheet_in lines all)) ≡ loaded (sheet_in lines all)
  pub counts : lines ≡ map length (groups_of (sheet_in lines all))
  pub cells : all ≡ spread kinds (groups_of (sheet_in lines all))
