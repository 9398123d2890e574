-- `arrivals::select::leads` meets its contract: the tests of a row that leads, one after another.
-- Assumes nothing.
use mathlib.Core.List.{List}
use mathlib.Core.Path.{◌∙◌, ◌≡◌, ap₂, subst, sym}
use Prim.Native.Nat.{◌*◌, ◌+◌, ◌-◌, ◌≤◌, ℕ}
use native.Mathlib.Omega.{arith}
use lib.ListN.{get_or}
use Rattle.sheet.specs.Laws.Decided.{decided-as, fails}
use Rattle.costs.specs.Costs.{AtMost, add, times}
use Rattle.costs.specs.Laws.Figures.{within-times}
use Rattle.arrivals.specs.Inner.Compared.{never-below, not-below, other_of, same_of}
use Rattle.arrivals.specs.Inner.Facts.{at-most-decided, within_of}
use Rattle.arrivals.specs.Rows.{cost_at}
use Rattle.arrivals.proofs.select.leads.Goals as goal

pub returns-then-ne : goal.returns-then-ne
returns-then-ne c = fails (λ d. other_of c.ne.ensures c.if-ne.true d.place)

pub returns-then-lt : goal.returns-then-lt
returns-then-lt c = fails (λ d. never-below d.late c.lt.ensures c.if-lt.true)

pub returns-then-lt-2 : goal.returns-then-lt-2
returns-then-lt-2 c = fails (λ d. never-below d.early c.lt-2.ensures c.if-lt-2.true)

pub sum-requires : goal.sum-requires
sum-requires c =
    let s : get_or c.args.table.now (c.args.k * 5 + 1) 0 ≤ c.args.here.step.0 = not-below c.lt-2.ensures c.if-lt-2.false in
    (within_of _ _ c.row_cost.ensures (omega arith) c.requires.3.within, within_of _ _ c.multiple-lag.ensures (omega arith) (within-times _ 60000 _ c.requires.2))

pub returns : goal.returns
returns c =
    let a = c.args in
    let xs = a.table.now in
    let e : c.sum.result ≡ add (cost_at xs a.k) (times (a.here.step.0 - get_or xs (a.k * 5 + 1) 0) a.here.wait) = c.sum.ensures ∙ ap₂ add c.row_cost.ensures c.multiple-lag.ensures in
    decided-as (λ h. record { place = same_of c.ne.ensures c.if-ne.false; late = not-below c.lt.ensures c.if-lt.false; early = not-below c.lt-2.ensures c.if-lt-2.false; least = subst (λ (g : List ℕ). AtMost g a.g) e h })
    (λ d. subst (λ (g : List ℕ). AtMost g a.g) (sym e) d.least) (at-most-decided _ _ _ c.at_most.ensures)
