-- `arrivals::select::next_label` meets its contract: the corridors are tried one after another. Assumes nothing.
use mathlib.Core.Path.{refl}
use native.Mathlib.Omega.{arith}
use Rattle.arrivals.specs.Inner.Entering.{Enters, LedAt}
use Rattle.arrivals.specs.Inner.Network.{case_of, link_at, links-more, links-zero, links_of}
use Rattle.arrivals.specs.Inner.Rows.{rows_of}
use Rattle.arrivals.specs.Inner.Selecting.{least-of, scan-end, scan-more, scan-none}
use Rattle.arrivals.proofs.select.next_label.Goals as goal

pub count_of-j-end-requires : goal.count_of-j-end-requires
count_of-j-end-requires c = c.requires.given.size

pub loop-j-init : goal.loop-j-init
loop-j-init c = (omega arith, refl, scan-none (Enters (case_of c.args.runs.now c.args.net.now) (rows_of c.args.table.now c.args.n) c.args.here.place.0 c.args.here.step.0) (λ g. LedAt (rows_of c.args.table.now c.args.n) c.args.here g → ⊥) (link_at c.args.net.now) (links_of c.args.net.now) (links-zero _) _)

pub try_link-b-requires : goal.try_link-b-requires
try_link-b-requires c = (c.requires, omega (arith, c.count_of-j-end.ensures))

pub overflow_step-j : goal.overflow_step-j
overflow_step-j c = omega (arith, c.count_of-j-end.ensures, c.requires.given.few)

pub loop-j-smaller : goal.loop-j-smaller
loop-j-smaller c = omega (arith, c.count_of-j-end.ensures)

pub loop-j-preserved : goal.loop-j-preserved
loop-j-preserved c = (omega (arith, c.count_of-j-end.ensures), c.loop-j.invariant.1, scan-more (Enters (case_of c.args.runs.now c.args.net.now) (rows_of c.args.table.now c.args.n) c.args.here.place.0 c.args.here.step.0) (λ g. LedAt (rows_of c.args.table.now c.args.n) c.args.here g → ⊥) (link_at c.args.net.now) (links_of c.args.net.now) _ (links-more _ _) _ _ _ c.loop-j.invariant.2 c.try_link-b.ensures)

pub returns : goal.returns
returns c = least-of _ _ _ c.loop-j.invariant.1 (scan-end (Enters (case_of c.args.runs.now c.args.net.now) (rows_of c.args.table.now c.args.n) c.args.here.place.0 c.args.here.step.0) (λ g. LedAt (rows_of c.args.table.now c.args.n) c.args.here g → ⊥) (link_at c.args.net.now) (links_of c.args.net.now) _ _ _ _ c.loop-j.invariant.0 (omega (arith, c.count_of-j-end.ensures)) c.loop-j.invariant.2)
