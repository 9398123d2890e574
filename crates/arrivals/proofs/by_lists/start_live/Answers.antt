-- `arrivals::by_lists::start_live` meets its contract: where the start is occupied at step 0 there is no row; else its row, if there is room, and what that comes
-- to by waiting in the list of the start.
-- Assumes nothing.
use mathlib.Core.Path.{refl, sym, ap, ◌∙◌, subst}
use Prim.Native.Nat.{◌<◌}
use native.Mathlib.Omega.{arith}
use borrow.Author.Rules.{rules}
use Rattle.sheet.specs.Laws.Decided.{false-not-true}
use Rattle.costs.specs.Costs.{times}
use Rattle.costs.specs.Priced.{Within}
use Rattle.arrivals.specs.Inner.Filling.{filled-as, filled_none, filled-start, result-done, start-since}
use Rattle.arrivals.specs.Inner.Network.{places_of}
use Rattle.arrivals.specs.Inner.Rows.{put-rows, rows-zero}
use Rattle.arrivals.specs.Inner.Standing.{figures-at, sourcing-first, sourcing-none}
use Rattle.arrivals.specs.Laws.Rows.{put_as}
use Rattle.arrivals.proofs.by_lists.start_live.Goals as goal
use Rattle.arrivals.proofs.by_lists.start_live.Goals.{Start}

pub start_of-start-requires : goal.start_of-start-requires
start_of-start-requires c = c.requires.0.size

pub first_step-since-requires : goal.first_step-since-requires
first_step-since-requires c = let p = c.requires in (omega (arith, c.start_of-start.ensures, p.0.start, p.0.places), omega arith, p.0.intervals)

pub returns-then-since-gt0 : goal.returns-then-since-gt0
returns-then-since-gt0 c =
    let z = (goal.at.returns-then-since-gt0 c).Start in
    record {
      result = λ e. result-done _ _ _ _ 0 (omega arith)
          (filled-as (rows-zero _) (filled_none _ (λ f. omega (arith, start-since z.args.runs.now z.args.net.now _ _ c.start_of-start.ensures c.first_step-since.ensures))));
      sourcing = λ e. sourcing-none _ z.requires.1 z.requires.2;
    }

pub returns-then-table-lt5 : goal.returns-then-table-lt5
returns-then-table-lt5 c = record { result = λ e. absurd (false-not-true refl e); sourcing = λ e. absurd (false-not-true refl e) }

pub list_at-requires : goal.list_at-requires
list_at-requires c = let p = c.requires in omega (arith, c.start_of-start.ensures, p.0.start, p.0.places)

pub wait_of-requires : goal.wait_of-requires
wait_of-requires c = let p = c.requires in (omega (arith, c.start_of-start.ensures, p.0.start, p.0.places), p.0.size)

pub multiple-requires : goal.multiple-requires
multiple-requires c =
    let p = c.requires in
    let s = c.start_of-start in
    (omega arith, subst (Within 60000) (sym c.wait_of.ensures) (p.0.legal.waits s.result.0 (omega (arith, s.ensures, p.0.start))))

pub put_figures-requires : goal.put_figures-requires
put_figures-requires c = let p = c.requires in omega (arith, c.list_at.ensures, c.start_of-start.ensures, p.0.start, p.1)

pub head-requires : goal.head-requires
head-requires c = let p = c.requires in (omega (arith, c.start_of-start.ensures, p.0.start, p.0.places), omega (arith, c.put_figures.ensures.others.size, p.1), omega arith, omega arith)

pub returns : goal.returns
returns c =
    let z = (goal.at.returns c).Start in
    let p = z.requires in
    let start = c.start_of-start in
    let put = c.push_row.ensures in
    let inside : start.result.0 < places_of z.args.net.now = omega (arith, start.ensures, p.0.start) in
    let is = c.multiple.ensures ∙ ap (times 255) c.wait_of.ensures in
    record {
      result = λ e. result-done _ _ _ _ 1 (omega arith)
          (filled-start _ _ _ (omega (arith, start-since z.args.runs.now z.args.net.now _ _ start.ensures c.first_step-since.ensures)) (put-rows (put_as start.ensures refl put)));
      sourcing = λ e. sourcing-first start.result.0 _ _ _ _ p.0.places inside p.1 p.2 put is (search (rules, c.multiple)) (figures-at c.list_at.ensures c.put_figures.ensures) c.head.ensures;
    }
