-- `journeys::front::list_front` meets its contract: all rows are passed and those of the front listed, the table is put back, and the rest of the list
-- is zero; or they are too many, and are compared.
-- Assumes nothing.
use native.Mathlib.Omega.{arith}
use mathlib.Core.Path.{refl, ◌∙◌}
use Rattle.journeys.proofs.Listing.{listable-front, listed-through, listed-front}
use Rattle.journeys.proofs.front.list_front.Goals as goal

pub list_slow-requires : goal.list_slow-requires
list_slow-requires c = c.requires

pub returns-then-n-gt4294967295 : goal.returns-then-n-gt4294967295
returns-then-n-gt4294967295 c = record { listed = c.list_slow.ensures; kept = refl }

pub begin-all-requires : goal.begin-all-requires
begin-all-requires c = (c.if-n-gt4294967295.false, c.requires.room)

pub list_rows-end-requires : goal.list_rows-end-requires
list_rows-end-requires c = listable-front c.begin-all.ensures c.requires

pub undo-requires : goal.undo-requires
undo-requires c = record { base = _; fs = _; sweeps = (listed-through c.begin-all.ensures c.requires c.list_rows-end.ensures).0 }

pub overflow_mul-end : goal.overflow_mul-end
overflow_mul-end c = omega (arith, (listed-through c.begin-all.ensures c.requires c.list_rows-end.ensures).0.few-counted)

pub clear_from-requires : goal.clear_from-requires
clear_from-requires c = let w = listed-through c.begin-all.ensures c.requires c.list_rows-end.ensures in omega (arith, w.0.on.within, w.1.room)

pub returns : goal.returns
returns c =
    let w = listed-through c.begin-all.ensures c.requires c.list_rows-end.ensures in
    record { listed = c.clear_from.ensures ∙ listed-front c.begin-all.ensures w.0 c.list_rows-end.ensures.end w.1 _ c.list_rows-end.auto.list; kept = c.undo.ensures.of _ _ w.0 }
