-- `arrivals::fill::visit` meets its contract: the place is filled in, and its new rows are noted in the index.
-- Assumes nothing.
use mathlib.Core.Path.{refl}
use Prim.Native.Nat.{◌<◌}
use native.Mathlib.Omega.{arith}
use Rattle.std.proofs.lemmas.Result.{err_from_is_err_and}
use Rattle.sheet.specs.Laws.Decided.{false-not-true}
use Rattle.arrivals.specs.Inner.Gather.{noted-covers, noted_more, noted-none, covers-none}
use Rattle.arrivals.specs.Inner.Walking.{walking-visiting}
use Rattle.arrivals.proofs.fill.visit.Goals as goal

pub fill_slow-requires : goal.fill_slow-requires
fill_slow-requires c = let p = c.requires in (walking-visiting p.0 p.1, p.2)

pub returns-then-table-gt41943039 : goal.returns-then-table-gt41943039
returns-then-table-gt41943039 c = (record { result = c.fill_slow.ensures.result; index = λ e b. absurd (omega arith) }, c.fill_slow.ensures.grown)

pub fill_fast-requires : goal.fill_fast-requires
fill_fast-requires c =
    let p = c.requires in
    let w = p.3 c.if-table-gt41943039.false in
    record { visiting = walking-visiting p.0 p.1; vacant = p.2; indexed = w.0; covered = w.1 }

pub note-requires : goal.note-requires
note-requires c =
    let p = c.requires in
    let w = p.3 c.if-table-gt41943039.false in
    (omega (arith, p.1, p.0.given.places), p.0.last, w.0.size, omega arith, omega (arith, c.in_ok-rows.ensures.result.room))

pub returns-then-n-rows : goal.returns-then-n-rows
returns-then-n-rows c =
    let p = c.requires in
    let w = p.3 c.if-table-gt41943039.false in
    let f = c.in_ok-rows.ensures in
    let n = c.note.ensures in
    let low : c.args.v.0 < 64 = omega (arith, p.1, p.0.given.places) in (
      record {
        result = f.result;
        index = λ e b. (noted_more _ _ _ _ _ _ _ _ _ low p.0.filled w.0 f.grown n, λ v l. noted-covers _ _ _ _ _ _ _ _ _ low p.0.filled w.0 f.grown n (w.1 v l));
      },
      f.grown,
    )

pub returns-else-n-rows : goal.returns-else-n-rows
returns-else-n-rows c =
    let p = c.requires in
    let w = p.3 c.if-table-gt41943039.false in
    let f = c.in_ok-rows.ensures in (
      record { result = f.result; index = λ e b. (noted-none _ _ _ _ _ _ _ c.if-n-rows.false w.0 f.grown, λ v l. covers-none _ _ _ _ _ _ _ c.if-n-rows.false f.grown (w.1 v l)) },
      f.grown,
    )

pub returns-in_err-rows : goal.returns-in_err-rows
returns-in_err-rows c =
    let p = err_from_is_err_and c.from_residual.result c.from_residual.ensures.1 in
    rw (p.1, p.2) ((record { result = c.in_err-rows.ensures.result; index = λ e. absurd (false-not-true refl e) }, c.in_err-rows.ensures.grown))
