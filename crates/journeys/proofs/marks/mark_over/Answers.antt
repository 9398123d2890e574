-- `journeys::marks::mark_over` meets its contract: by corridor l a cart comes from one row at most, the one that waits until the step before with what is
-- left of the cost; and where it could wait a step longer, that row is marked already.
-- Assumes nothing.
use mathlib.Core.Path.{sym, ◌∙◌, subst}
use Prim.Native.Nat.{ℕ, ◌<◌}
use native.Mathlib.Omega.{arith}
use Rattle.costs.specs.Laws.Moves.{corridor-crosses}
use Rattle.journeys.specs.Inner.Lookup.{standing}
use Rattle.journeys.proofs.Marking.{raised-none}
use Rattle.journeys.proofs.Crossings.{from_low, to_low, cross-other, cross-off, cross-on, cross-one, cross-none, cross-settled}
use Rattle.journeys.proofs.Orders.{unlike, alike}
use Rattle.journeys.proofs.marks.mark_over.Goals as goal

pub returns-then-ne : goal.returns-then-ne
returns-then-ne c = raised-none (λ k h. cross-other (standing c.args.b) c.end_of-to.ensures (unlike c.if-ne.ensures) _)

pub returns-then-not-c-at_most : goal.returns-then-not-c-at_most
returns-then-not-c-at_most c = raised-none (λ k h. cross-off (standing c.args.b) c.corridor_at-c.result c.corridor_at-c.ensures c.at_most.ensures c.if-not-c-at_most.true _)

pub crosses_later-requires : goal.crosses_later-requires
crosses_later-requires c =
    let d = c.requires.0.rowed.derived in
    let low = subst (λ (n : ℕ). n < 64) (sym c.end_of-to.ensures ∙ alike c.if-ne.ensures) (to_low d.valid _ c.requires.1) in
    (d, from_low d.valid (corridor-crosses c.corridor_at-c.ensures (cross-on (standing c.args.b) c.corridor_at-c.result c.corridor_at-c.ensures c.at_most.ensures c.if-not-c-at_most.false).0), c.requires.1, c.requires.0.day, low)

pub returns-then-crosses_later : goal.returns-then-crosses_later
returns-then-crosses_later c =
    let r = c.corridor_at-c in
    let w = c.crosses_later.ensures c.if-crosses_later.true in
    cross-settled (standing c.args.b) r.result r.ensures c.requires.0.moved (c.requires.0.settles w.0) w.1

pub less-cost-requires : goal.less-cost-requires
less-cost-requires c = (cross-on (standing c.args.b) c.corridor_at-c.result c.corridor_at-c.ensures c.at_most.ensures c.if-not-c-at_most.false).1

pub waiting_row-requires : goal.waiting_row-requires
waiting_row-requires c = (c.requires.0.rowed, from_low c.requires.0.rowed.derived.valid (corridor-crosses c.corridor_at-c.ensures (cross-on (standing c.args.b) c.corridor_at-c.result c.corridor_at-c.ensures c.at_most.ensures c.if-not-c-at_most.false).0), omega (arith, c.requires.0.day))

pub returns-in-Some : goal.returns-in-Some
returns-in-Some c =
    let r = c.corridor_at-c in
    let q = cross-on (standing c.args.b) c.corridor_at-c.result c.corridor_at-c.ensures c.at_most.ensures c.if-not-c-at_most.false in
    cross-one (standing c.args.b) r.result r.ensures q.0 (r.ensures.enters ∙ sym c.end_of-to.ensures ∙ alike c.if-ne.ensures) _ c.less-cost.ensures c.in-Some.ensures.1 c.in-Some.ensures.0 c.raise.ensures

pub returns-in_default : goal.returns-in_default
returns-in_default c =
    let r = c.corridor_at-c in
    let q = cross-on (standing c.args.b) c.corridor_at-c.result c.corridor_at-c.ensures c.at_most.ensures c.if-not-c-at_most.false in
    cross-none (standing c.args.b) r.result r.ensures q.0 (r.ensures.enters ∙ sym c.end_of-to.ensures ∙ alike c.if-ne.ensures) _ c.less-cost.ensures c.in_default.ensures (omega arith)
