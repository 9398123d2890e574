-- `arrivals::select::scan_rows` meets its contract: the rows are tried one after another. Assumes nothing.
use native.Mathlib.Omega.{arith}
use Rattle.arrivals.specs.Inner.Entering.{LedAt}
use Rattle.arrivals.specs.Inner.Pruning.{Tried}
use Rattle.arrivals.specs.Inner.Rows.{rows_more, rows-zero, rows_of}
use Rattle.arrivals.specs.Inner.Selecting.{scan-end, scan-more, scan-none}
use Rattle.arrivals.specs.Rows.{row_at}
use Rattle.arrivals.proofs.select.scan_rows.Goals as goal

pub loop-k-init : goal.loop-k-init
loop-k-init c = (omega arith, scan-none (Tried c.args.from c.args.here.step.0) (λ g. LedAt (rows_of c.args.table.now c.args.n) c.args.here g → ⊥) (row_at c.args.table.now) (rows_of c.args.table.now) (rows-zero _) _)

pub try_row-b-requires : goal.try_row-b-requires
try_row-b-requires c = (c.requires.0, c.requires.1, omega arith)

pub loop-k-preserved : goal.loop-k-preserved
loop-k-preserved c = (omega arith, scan-more (Tried c.args.from c.args.here.step.0) (λ g. LedAt (rows_of c.args.table.now c.args.n) c.args.here g → ⊥) (row_at c.args.table.now) (rows_of c.args.table.now) _ (rows_more _ _) _ _ _ c.loop-k.invariant.1 c.try_row-b.ensures)

pub returns : goal.returns
returns c = scan-end (Tried c.args.from c.args.here.step.0) (λ g. LedAt (rows_of c.args.table.now c.args.n) c.args.here g → ⊥) (row_at c.args.table.now) (rows_of c.args.table.now) _ _ _ _ c.loop-k.invariant.0 c.loop-k-test.false c.loop-k.invariant.1
