-- `costs::is_closed` meets its contract: the closures of the sheet ascend by their three numbers, so one is sought among them.
-- Assumes nothing.
use mathlib.Core.Path.{refl}
use native.Mathlib.Omega.{arith}
use Rattle.sheet.specs.Kinds.{kind_x}
use Rattle.sheet.specs.Laws.Store.{store-counts, store-few}
use Rattle.sheet.proofs.HeldSheets.{held-is}
use Rattle.costs.proofs.Crossings.{closures-seekable, closed-sought}
use Rattle.costs.proofs.is_closed.Goals as goal

pub bounds-sheet-inside-3 : goal.bounds-sheet-inside-3
bounds-sheet-inside-3 c = omega (arith, store-counts (held-is c.sheet.invariant c.sheet.view_is))

pub overflow_cast-closures : goal.overflow_cast-closures
overflow_cast-closures c = omega (arith, (store-few (held-is c.sheet.invariant c.sheet.view_is) kind_x.order (omega arith)).0)

pub holds-requires : goal.holds-requires
holds-requires c = closures-seekable (held-is c.sheet.invariant c.sheet.view_is) (record { base-is = refl; width_is = refl; count-is = refl; key-is = refl })

pub returns : goal.returns
returns c = closed-sought (held-is c.sheet.invariant c.sheet.view_is) (record { base-is = refl; width_is = refl; count-is = refl; key-is = refl }) _ refl c.holds.ensures
