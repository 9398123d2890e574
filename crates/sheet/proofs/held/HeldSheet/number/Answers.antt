-- `sheet::held::HeldSheet::number` meets its contract: the S line stands first.
-- Assumes nothing.
use mathlib.Core.Path.{◌∙◌, ap}
use native.Mathlib.Omega.{arith}
use Rattle.sheet.specs.Lists.{number}
use Rattle.sheet.specs.Sheet.{Sheet}
use Rattle.sheet.specs.Laws.Store.{store_length, head-number}
use Rattle.sheet.proofs.HeldSheets.{held-is}
use Rattle.sheet.proofs.held.HeldSheet.number.Goals as goal

pub bounds-all-i : goal.bounds-all-i
bounds-all-i c = omega (arith, store_length (held-is c.self.invariant c.self.view_is), c.requires)

pub returns : goal.returns
returns c =
    let S = held-is c.self.invariant c.self.view_is in
    record { valid = S.valid; is = head-number S c.args.i c.requires ∙ ap (λ (s : Sheet). number s.head c.args.i) c.self.view_is }
