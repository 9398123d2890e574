-- `arrivals::fill::first_row` meets its contract: where the start is occupied at step 0 there is no row; else its row, if there is room.
-- Assumes nothing.
use mathlib.Core.Path.{refl}
use Prim.Native.Nat.{◌<◌}
use native.Mathlib.Omega.{arith}
use Rattle.sheet.specs.Laws.Decided.{false-not-true}
use Rattle.costs.specs.Costs.{zero_cost}
use Rattle.arrivals.specs.Inner.Filling.{crowded-first, filled-as, filled_none, filled-start, result-done, result-full, start-since}
use Rattle.arrivals.specs.Inner.Gather.{noted-first, covers-first}
use Rattle.arrivals.specs.Inner.Index.{covers-step}
use Rattle.arrivals.specs.Inner.Rows.{put-rows, rows-zero}
use Rattle.arrivals.specs.Laws.Rows.{put_as}
use Rattle.arrivals.proofs.fill.first_row.Goals as goal
use Rattle.arrivals.proofs.fill.first_row.Goals.{Start}

pub start_of-start-requires : goal.start_of-start-requires
start_of-start-requires c = c.requires.0.size

pub first_step-since-requires : goal.first_step-since-requires
first_step-since-requires c = let p = c.requires in (omega (arith, c.start_of-start.ensures, p.0.start, p.0.places), omega arith, p.0.intervals)

pub returns-then-since-gt0 : goal.returns-then-since-gt0
returns-then-since-gt0 c =
    let z = (goal.at.returns-then-since-gt0 c).Start in
    record {
      result = result-done _ _ _ _ 0 (omega arith) (filled-as (rows-zero _) (filled_none _ (λ f. omega (arith, start-since z.args.runs.now z.args.net.now _ _ c.start_of-start.ensures c.first_step-since.ensures))));
      index = λ e b. (z.requires.1, λ v l. record { of = λ i m q. absurd (omega arith) });
    }

pub returns-then-table-lt5 : goal.returns-then-table-lt5
returns-then-table-lt5 c =
    let z = (goal.at.returns-then-table-lt5 c).Start in
    record {
      result = result-full _ _ _ _ 0 (omega arith) (crowded-first _ _ c.if-table-lt5.true (omega (arith, start-since z.args.runs.now z.args.net.now _ _ c.start_of-start.ensures c.first_step-since.ensures)));
      index = λ e. absurd (false-not-true refl e);
    }

pub note-requires : goal.note-requires
note-requires c = let p = c.requires in (omega (arith, c.start_of-start.ensures, p.0.start, p.0.places), omega arith, p.1.size, omega arith, omega arith)

pub returns : goal.returns
returns c =
    let z = (goal.at.returns c).Start in
    let p = z.requires in
    let n = c.note.ensures in
    let put = c.push_row.ensures in
    let start = c.start_of-start in
    let low : start.result.0 < 64 = omega (arith, start.ensures, p.0.start, p.0.places) in
    record {
      result = result-done _ _ _ _ 1 (omega arith) (filled-start _ _ _ (omega (arith, start-since z.args.runs.now z.args.net.now _ _ start.ensures c.first_step-since.ensures)) (put-rows (put_as start.ensures refl put)));
      index = λ e b. (noted-first z.args.table.now _ _ _ _ zero_cost low p.1 put n, λ v l. covers-step 1 (omega arith) (covers-first z.args.table.now _ _ _ _ zero_cost low p.1 put n));
    }
