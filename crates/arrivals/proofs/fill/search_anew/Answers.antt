-- `arrivals::fill::search_anew` meets its contract: the row of the start, then every step.
-- Assumes nothing.
use mathlib.Core.Path.{refl}
use native.Mathlib.Omega.{arith}
use Rattle.std.proofs.lemmas.Result.{err_from_is_err_and}
use Rattle.arrivals.specs.Inner.Filling.{crowded-last, result-full}
use Rattle.arrivals.proofs.fill.search_anew.Goals as goal

pub first_row-requires : goal.first_row-requires
first_row-requires c = let p = c.requires in (p.0.given, p.1)

pub fill_steps-requires : goal.fill_steps-requires
fill_steps-requires c =
    let r = c.in_ok-rows.ensures in
    let p = c.requires in (
      record { given = p.0.given; inside = omega (arith, p.0.given.start); first = omega arith; last = omega arith; room = r.result.room; filled = r.result.done refl },
      r.index refl,
      p.0.day,
      omega arith,
      p.0.watching,
      omega (arith, p.2, c.table-1.given, c.ix-1.given),
    )

pub returns : goal.returns
returns c = c.fill_steps.ensures

pub returns-in_err-rows : goal.returns-in_err-rows
returns-in_err-rows c =
    let r = c.in_err-rows.ensures in
    let p = err_from_is_err_and c.from_residual.result c.from_residual.ensures.1 in
    rw (p.1, p.2) (result-full _ _ _ _ _ r.result.room (crowded-last _ (omega arith) (r.result.full refl)))
