-- `arrivals::by_lists::add_new` meets its contract: where there is room, the costs of the new rows stand after those of the list, and their number is noted.
-- Assumes nothing.
use native.Mathlib.Omega.{arith}
use Rattle.costs.specs.Laws.Figures.{within-times}
use Rattle.arrivals.specs.Inner.Facts.{within_of}
use Rattle.arrivals.specs.Inner.Standing.{new_in, new_none}
use Rattle.arrivals.proofs.by_lists.add_new.Goals as goal

pub overflow_sub-size : goal.overflow_sub-size
overflow_sub-size c = omega (arith, c.requires.6)

pub returns-then-size-d : goal.returns-then-size-d
returns-then-size-d c = new_none _ _ _ _ _

pub list_at-requires : goal.list_at-requires
list_at-requires c = c.requires.1

pub overflow_mul-size : goal.overflow_mul-size
overflow_mul-size c = omega (arith, c.requires.6)

pub overflow_add-list_at : goal.overflow_add-list_at
overflow_add-list_at c = omega (arith, c.list_at.ensures, c.requires.6, c.requires.1)

pub multiple-rest-requires : goal.multiple-rest-requires
multiple-rest-requires c = (omega arith, c.requires.3)

pub append-requires : goal.append-requires
append-requires c =
    let p = c.requires in (
      p.0,
      omega (arith, c.list_at.ensures, p.6, p.5, c.if-size-d.false),
      within_of _ 100000000 c.multiple-rest.ensures (omega arith) (within-times _ 60000 _ p.3),
      p.4,
    )

pub overflow_add-live : goal.overflow_add-live
overflow_add-live c = omega (arith, c.requires.6, c.if-size-d.false)

pub overflow_cast-live : goal.overflow_cast-live
overflow_cast-live c = omega (arith, c.requires.6, c.if-size-d.false)

pub returns : goal.returns
returns c =
    let p = c.requires in
    new_in _ _ _ _ _ _ _ _ _ p.1 (omega (arith, c.list_at.ensures)) (omega arith) c.multiple-rest.ensures (omega (arith, c.if-size-d.false, p.6)) (omega (arith, p.5)) c.append.ensures
