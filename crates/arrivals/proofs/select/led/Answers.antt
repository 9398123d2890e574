-- `arrivals::select::led` meets its contract: the rows are gone through from the last. Assumes nothing.
use Prim.Native.Nat.{◌-◌}
use native.Mathlib.Omega.{arith}
use Rattle.sheet.specs.Laws.Decided.{fails, holds, no_of, yes_of}
use Rattle.arrivals.specs.Inner.Entering.{RowLeadsAt}
use Rattle.arrivals.specs.Inner.Rows.{Bounded, all-at, any_at, none_below, none-down}
use Rattle.arrivals.proofs.select.led.Goals as goal

pub loop-k-init : goal.loop-k-init
loop-k-init c = (omega arith, λ j l m p. omega arith)

pub leads-requires : goal.leads-requires
leads-requires c = let p = c.requires in (omega (arith, p.room), p.steps, p.waits, all-at Bounded c.args.table.now c.args.n (c.loop-k.k - 1) (omega arith) p.bounded)

pub returns-then-leads : goal.returns-then-leads
returns-then-leads c = holds (any_at _ c.args.table.now c.args.n (c.loop-k.k - 1) (omega arith) (yes_of c.leads.ensures c.if-leads.true))

pub loop-k-preserved : goal.loop-k-preserved
loop-k-preserved c = (omega arith, none-down (RowLeadsAt c.args.here c.args.g) c.args.table.now _ _ (omega arith) c.loop-k.invariant.1 (no_of c.leads.ensures c.if-leads.false))

pub returns : goal.returns
returns c = fails (none_below _ _ _ (λ j l. c.loop-k.invariant.1 j (omega arith) l))
