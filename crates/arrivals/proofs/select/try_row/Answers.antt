-- `arrivals::select::try_row` meets its contract: the one cost of crossing from row k takes the place of the best, where it is better and no row
-- leads it.
-- Assumes nothing.
use mathlib.Core.List.{List}
use mathlib.Core.Path.{◌∙◌, subst, sym}
use Prim.Native.Nat.{ℕ}
use native.Mathlib.Omega.{arith}
use Rattle.sheet.specs.Laws.Decided.{no_of, yes_of}
use Rattle.arrivals.specs.Inner.Compared.{never-below, never-upto, not-below, not-upto, other_of, same_of}
use Rattle.arrivals.specs.Inner.Entering.{LedAt}
use Rattle.arrivals.specs.Inner.Rows.{Bounded, all-at, rows_of}
use Rattle.arrivals.specs.Inner.Selecting.{improved-better, improved-skip, improved-worse}
use Rattle.arrivals.proofs.select.try_row.Goals as goal

pub returns-then-ne : goal.returns-then-ne
returns-then-ne c = improved-skip _ _ (λ g q. other_of c.ne.ensures c.if-ne.true q.0.place)

pub returns-then-lt : goal.returns-then-lt
returns-then-lt c = improved-skip _ _ (λ g q. never-below q.0.above c.lt.ensures c.if-lt.true)

pub returns-then-le : goal.returns-then-le
returns-then-le c = improved-skip _ _ (λ g q. never-upto q.0.early c.le.ensures c.if-le.true)

pub reach_cost-g-requires : goal.reach_cost-g-requires
reach_cost-g-requires c = let r = c.requires.0 in (omega (arith, r.room), r.steps, c.requires.1, all-at Bounded c.args.table.now c.args.n c.args.k c.requires.2 r.bounded, not-upto c.le.ensures c.if-le.false)

pub led-requires : goal.led-requires
led-requires c = c.requires.0

pub returns-then-led : goal.returns-then-led
returns-then-led c = let a = c.args in improved-skip _ _ (λ g q. q.1 (subst (λ (x : List ℕ). LedAt (rows_of a.table.now a.n) a.here x) (c.reach_cost-g.ensures ∙ sym q.0.sum) (yes_of c.led.ensures c.if-led.true)))

pub returns-then-better : goal.returns-then-better
returns-then-better c = let e = c.reach_cost-g.ensures in improved-better _ _ _ (yes_of c.better.ensures c.if-better.true) (record { place = same_of c.ne.ensures c.if-ne.false; above = not-below c.lt.ensures c.if-lt.false; early = not-upto c.le.ensures c.if-le.false; sum = e }, no_of c.led.ensures c.if-led.false) (λ h q. q.0.sum ∙ sym e)

pub returns : goal.returns
returns c = let e = c.reach_cost-g.ensures in improved-worse _ _ _ (no_of c.better.ensures c.if-better.false) (λ h q. q.0.sum ∙ sym e)
