-- `arrivals::select::fill_place` meets its contract: row after row is chosen and put in. Assumes nothing.
use mathlib.Core.Path.{refl}
use Rattle.std.specs.Prelude.{None, Some}
use native.Mathlib.Omega.{arith}
use borrow.Author.Rules.{rules}
use Rattle.arrivals.specs.Inner.Filling.{filling-as, filling-of, grown-more, grown-none, reaching, result-done, result-full}
use Rattle.arrivals.specs.Inner.Rows.{put-rows}
use Rattle.arrivals.specs.Inner.Selecting.{crowded-next, next_more, next_of, next-stop}
use Rattle.arrivals.proofs.select.fill_place.Goals as goal

pub loop-cost-init : goal.loop-cost-init
loop-cost-init c = let p = c.requires.0 in (p.room, refl, filling-of _ _ _ _ p.filled, grown-none _ _ _ _)

pub next_label-requires : goal.next_label-requires
next_label-requires c = let inv = c.loop-cost.invariant in reaching _ _ _ _ _ c.requires.0.given c.requires.1 inv.0 inv.2.bounded inv.2.complete

pub returns : goal.returns
returns c = let inv = c.loop-cost.invariant in record { result = result-done _ _ _ _ _ inv.0 (next-stop _ _ _ c.requires.1 (next_of None) inv.2 c.in_default.ensures refl); grown = inv.3 }

pub returns-then-table-n : goal.returns-then-table-n
returns-then-table-n c = let inv = c.loop-cost.invariant in record { result = result-full _ _ _ _ _ inv.0 (crowded-next _ _ _ _ c.requires.1 (next_of (Some c.in-Some.cost)) c.requires.0.given.legal inv.2 c.in-Some.ensures refl (omega arith)); grown = inv.3 }

pub loop-cost-preserved : goal.loop-cost-preserved
loop-cost-preserved c = let inv = c.loop-cost.invariant in (search rules, search rules, filling-as (put-rows c.push_row.ensures) (next_more _ _ _ c.requires.1 (next_of (Some c.in-Some.cost)) c.requires.0.given.legal inv.2 c.in-Some.ensures refl), grown-more _ _ _ _ _ _ _ _ inv.3 c.push_row.ensures)
