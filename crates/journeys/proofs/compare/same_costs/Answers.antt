-- `journeys::compare::same_costs` meets its contract. Assumes nothing.
use mathlib.Core.Path.{sym}
use Prim.Native.Nat.{◌+◌, ◌*◌, ◌-◌}
use native.Mathlib.Omega.{arith}
use borrow.Author.Count.{below_more}
use borrow.Author.Tests.{not-true, not-false}
use Rattle.std.specs.Cmp.Lexicographic.{same_text, other_text}
use Rattle.sheet.specs.Laws.Decided.{holds, fails}
use Rattle.journeys.proofs.Sameness.{parts-same, same-parts}
use Rattle.journeys.proofs.compare.same_costs.Goals as goal

pub returns-then-ne : goal.returns-then-ne
returns-then-ne c =
    let at = c.loop-k.k * 4 in
    let w = at + 3 - at in
    fails (λ h. other_text _ _ (sym (not-true _ (sym c.if-ne.ensures))) (same-parts w at (omega arith) (omega (arith, c.requires.0)) (omega (arith, c.requires.1)) (h.every c.loop-k.k (omega arith))))

pub loop-k-preserved : goal.loop-k-preserved
loop-k-preserved c =
    let at = c.loop-k.k * 4 in
    let w = at + 3 - at in
    record { every = below_more _ _ c.loop-k.invariant.every (parts-same w at (omega arith) (same_text _ _ (sym (not-false _ (sym c.if-ne.ensures))))) }

pub returns : goal.returns
returns c = holds (record { every = λ i h. c.loop-k.invariant.every i (omega arith) })
