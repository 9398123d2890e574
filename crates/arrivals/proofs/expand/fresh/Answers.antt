-- `arrivals::expand::fresh` meets its contract: the departure at t - 2 is looked at first, those before it where it is closed and the one at t - 1 is open.
-- Assumes nothing.
use mathlib.Core.Path.{◌≡◌, ◌∙◌, sym}
use mathlib.Core.Bool.{false, ◌||◌}
use Prim.Native.Nat.{ℕ, ◌-◌, ◌≤◌, ◌<◌}
use native.Mathlib.Omega.{arith}
use lib.Dec.{ltb, eqb}
use borrow.Author.Tests.{eqb-false, ltb-false}
use Rattle.sheet.specs.Laws.Passed.{or-false}
use Rattle.arrivals.specs.Inner.Pruning.{fresh_at, fresh-none}
use Rattle.arrivals.proofs.expand.fresh.Goals as goal

-- what the second test leaves
sooner : (a b : ℕ) → eqb a 0 || ltb a b ≡ false → (0 < a) × (b ≤ a)
sooner a b e =
    let q = or-false (eqb a 0) (ltb a b) e in
    let n = eqb-false a 0 q.0 in
    (omega (arith, n), ltb-false a b q.1)

pub is_dear-requires : goal.is_dear-requires
is_dear-requires c = (c.requires.0, c.requires.2.size)

pub returns-then-is_dear : goal.returns-then-is_dear
returns-then-is_dear c = fresh-none _ _ _

pub overflow_sub-last : goal.overflow_sub-last
overflow_sub-last c = omega (arith, c.requires.3)

pub returns-then-last-here : goal.returns-then-last-here
returns-then-last-here c = fresh-none _ _ _

pub overflow_sub-last-2 : goal.overflow_sub-last-2
overflow_sub-last-2 c = omega (arith, sooner (c.args.here.step.0 - 1) c.args.here.since.0 c.if-last-here.false)

pub is_open-requires : goal.is_open-requires
is_open-requires c = (c.requires.0, c.requires.1, c.requires.2)

pub returns-then-is_open : goal.returns-then-is_open
returns-then-is_open c =
    let q = sooner (c.args.here.step.0 - 1) c.args.here.since.0 c.if-last-here.false in
    fresh_at _ _ _ _ q.0 (omega (arith, c.requires.3)) q.1 (sym c.is_open.ensures ∙ c.if-is_open.true) (c.is_dear.ensures c.if-is_dear.false)

pub is_open-requires-2 : goal.is_open-requires-2
is_open-requires-2 c = (c.requires.0, c.requires.1, c.requires.2)

pub returns-then-not-is_open : goal.returns-then-not-is_open
returns-then-not-is_open c = fresh-none _ _ _

pub overflow_sub-last-3 : goal.overflow_sub-last-3
overflow_sub-last-3 c = omega (arith, sooner (c.args.here.step.0 - 1) c.args.here.since.0 c.if-last-here.false)

pub fresh_before-requires : goal.fresh_before-requires
fresh_before-requires c = (c.requires.0, c.requires.1, c.requires.2, omega (arith, c.requires.3), c.is_dear.ensures c.if-is_dear.false)

pub returns : goal.returns
returns c = c.fresh_before.ensures
