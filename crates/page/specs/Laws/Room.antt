-- A line of two numbers is short, and 200 front costs fit. That no page is longer than the room that the program has for it stands in proofs/Room.antt.
use Rattle.std.specs.Prelude.{◌≡◌, false, [], ◌∷◌, ℕ, ◌≤◌, length}
use Rattle.std.proofs.Common.{ltb-false}
use Rattle.sheet.specs.Sheet.{Sheet}
use Rattle.sheet.specs.Text.{printed, most_printed}
use Rattle.sheet.specs.Laws.Printed.{printed-most}
use Rattle.journeys.specs.Computed.{front}
use Rattle.journeys.specs.Calls.{overfull}
use Rattle.page.specs.Page.{list_numbers}

pub two-long : (c m n : ℕ) → length (printed most_printed c (m ∷ n ∷ [])) ≤ 24
two-long c m n = printed-most most_printed c (m ∷ n ∷ [])

-- 200 costs fit
pub few-costs : (s : Sheet) → overfull s list_numbers ≡ false → length (front s) ≤ 200
unfolding overfull
few-costs s e = ltb-false 200 (length (front s)) e
