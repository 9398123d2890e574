-- `journeys::compare::both_same` meets its contract: each early return fails by what it tested, and what is left is the comparison of the costs.
-- Assumes nothing.
use native.Mathlib.Omega.{arith}
use Rattle.sheet.specs.Laws.Decided.{fails}
use Rattle.journeys.proofs.Sameness.{both-decided}
use Rattle.journeys.proofs.compare.both_same.Goals as goal
use Rattle.journeys.proofs.compare.both_same.Goals.{Start}

pub returns-then-first-ne0 : goal.returns-then-first-ne0
returns-then-first-ne0 c = fails (λ h. c.if-first-ne0.true h.0)

pub returns-then-second-ne0 : goal.returns-then-second-ne0
returns-then-second-ne0 c = fails (λ h. c.if-second-ne0.true h.1)

pub returns-then-first-second : goal.returns-then-first-second
returns-then-first-second c = fails (λ h. c.if-first-second.true h.2.counts)

pub same_costs-requires : goal.same_costs-requires
same_costs-requires c =
    let s = (goal.at.same_costs-requires c).Start in
    let p = s.requires.0 c.if-first-ne0.false in
    let q = s.requires.1 c.if-second-ne0.false in
    let e = c.if-first-second.false in
    (omega (arith, p, q, e), omega (arith, p, q, e))

pub returns : goal.returns
returns c = both-decided _ _ _ c.if-first-ne0.false c.if-second-ne0.false c.if-first-second.false c.same_costs.ensures
