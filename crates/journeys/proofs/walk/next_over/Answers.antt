-- `journeys::walk::next_over` meets its contract: corridor l leads to a lower place that is on the way, or the best so far stays.
-- Assumes nothing.
use mathlib.Core.Path.{◌≡◌, sym, ◌∙◌, ap}
use mathlib.Core.Bool.{Bool, ◌&&◌}
use Prim.Native.Nat.{ℕ}
use lib.Dec.{ltb}
use Rattle.std.proofs.Common.{nat_cmp}
use Rattle.std.specs.Ordering.{is_lt}
use Rattle.journeys.proofs.Orders.{lt-is, unlike, alike}
use native.Mathlib.Omega.{arith}
use Rattle.sheet.specs.Laws.Decided.{yes_of, no_of}
use Rattle.journeys.specs.Inner.Lookup.{standing}
use Rattle.journeys.proofs.Choosing.{over-other, lower-decided, lower-place, lower-within, over-not, over-marked, over-unmarked}
use Rattle.journeys.proofs.walk.next_over.Goals as goal

-- the test of the places, as the definitions say it
tested : (o : Bool) (u v : ℕ) {b d : Bool} → b ≡ is_lt (nat_cmp u v) → o && b ≡ d → o && ltb u v ≡ d
tested o u v e f = ap (λ (x : Bool). o && x) (sym (e ∙ lt-is u v)) ∙ f

pub returns-then-ne : goal.returns-then-ne
returns-then-ne c = over-other c.requires.2 c.end_of-from.ensures (unlike c.if-ne.ensures)

pub returns-then-not-c-lt : goal.returns-then-not-c-lt
returns-then-not-c-lt c =
    let k = c.corridor_at-c in
    over-not c.requires.2 k.ensures (no_of (lower-decided (standing c.args.at) (standing c.args.best) k.ensures c.end_of-from.ensures (alike c.if-ne.ensures)) (tested _ _ _ c.lt.ensures c.if-not-c-lt.true))

pub sum-cost-requires : goal.sum-cost-requires
sum-cost-requires c =
    let k = c.corridor_at-c in
    let o = yes_of (lower-decided (standing c.args.at) (standing c.args.best) k.ensures c.end_of-from.ensures (alike c.if-ne.ensures)) (tested _ _ _ c.lt.ensures c.if-not-c-lt.false) in
    (c.requires.0.cost, lower-within k.ensures o c.requires.0.rowed.derived.valid)

pub is_marked-requires : goal.is_marked-requires
is_marked-requires c =
    let k = c.corridor_at-c in
    let o = yes_of (lower-decided (standing c.args.at) (standing c.args.best) k.ensures c.end_of-from.ensures (alike c.if-ne.ensures)) (tested _ _ _ c.lt.ensures c.if-not-c-lt.false) in
    (c.requires.0.rowed, lower-place k.ensures o c.requires.0.rowed.derived.valid, omega (arith, c.requires.0.step))

pub returns-then-is_marked : goal.returns-then-is_marked
returns-then-is_marked c =
    let k = c.corridor_at-c in
    let o = yes_of (lower-decided (standing c.args.at) (standing c.args.best) k.ensures c.end_of-from.ensures (alike c.if-ne.ensures)) (tested _ _ _ c.lt.ensures c.if-not-c-lt.false) in
    over-marked c.requires.2 k.ensures c.sum-cost.ensures c.is_marked.ensures o c.if-is_marked.true

pub returns : goal.returns
returns c =
    let k = c.corridor_at-c in
    over-unmarked c.requires.2 k.ensures c.sum-cost.ensures c.is_marked.ensures c.if-is_marked.false
