-- `sheet::held::HeldSheet::of` meets its contract: the valid sheet that stands in the arrays is what the value carries.
-- Assumes nothing.
use Rattle.sheet.proofs.HeldSheets.{store-held}
use Rattle.sheet.proofs.held.HeldSheet.of.Goals as goal

pub invariant_of-result : goal.invariant_of-result
invariant_of-result c = store-held c.requires
