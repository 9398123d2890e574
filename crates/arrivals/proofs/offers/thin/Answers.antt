-- `arrivals::offers::thin` meets its contract: row after row is kept or dropped. Assumes nothing.
use mathlib.Core.Path.{◌∙◌, refl}
use native.Mathlib.Omega.{arith}
use borrow.Author.Rules.{rules}
use Rattle.arrivals.specs.Inner.Offering.{thin-end, thin-more, thin-zero}
use Rattle.arrivals.proofs.offers.thin.Goals as goal

pub loop-i-init : goal.loop-i-init
loop-i-init c = (omega arith, omega arith, refl, (λ j l. refl), (λ j l. refl), thin-zero _ _ _ _)

pub loop-i-preserved : goal.loop-i-preserved
loop-i-preserved c = let inv = c.loop-i.invariant in let t = c.thin_row-k.ensures in (omega (arith, t.most), omega arith, search rules, (λ j l. t.below j l ∙ inv.3 j l), (λ j l. t.above j (omega arith) ∙ inv.4 j (omega arith)), thin-more _ _ c.loop-i.i c.loop-i.k _ _ _ _ inv.4 inv.5 t)

pub shape_of-table : goal.shape_of-table
shape_of-table c = c.loop-i.invariant.2

pub returns : goal.returns
returns c = let inv = c.loop-i.invariant in record { most = omega arith; below = inv.3; thin = thin-end _ _ _ _ _ _ _ inv.1 c.loop-i-test.false inv.5 }
