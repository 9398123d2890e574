-- `sheet::held::HeldSheet::count` meets its contract: the counts of lines stand in the order of kinds.
-- Assumes nothing.
use native.Mathlib.Omega.{arith}
use Rattle.sheet.specs.Laws.Store.{store-counts, store-count}
use Rattle.sheet.proofs.HeldSheets.{held-is}
use Rattle.sheet.proofs.held.HeldSheet.count.Goals as goal

pub bounds-lines-k : goal.bounds-lines-k
bounds-lines-k c = omega (arith, store-counts (held-is c.self.invariant c.self.view_is))

pub returns : goal.returns
returns c = let S = held-is c.self.invariant c.self.view_is in record { valid = S.valid; counted = store-count S c.args.k c.requires }
