-- `costs::wait_at` meets its contract: the three numbers after the place on the W line of v.
-- Assumes nothing.
use mathlib.Core.Path.{◌∙◌}
use native.Mathlib.Omega.{arith}
use Rattle.sheet.proofs.HeldSheets.{held-is}
use Rattle.costs.proofs.Crossings.{whole-store, wait-cost}
use Rattle.costs.proofs.wait_at.Goals as goal

pub cost_from-requires : goal.cost_from-requires
cost_from-requires c = omega (arith, whole-store (held-is c.sheet.invariant c.sheet.view_is), c.requires)

pub returns : goal.returns
returns c = c.cost_from.ensures ∙ wait-cost (held-is c.sheet.invariant c.sheet.view_is) c.args.v c.requires
