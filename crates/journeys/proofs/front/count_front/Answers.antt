-- `journeys::front::count_front` meets its contract: all rows are passed, and the table is put back; or they are too many, and are compared.
-- Assumes nothing.
use mathlib.Core.Path.{refl, ◌∙◌}
use mathlib.Core.List.{[], ◌∷◌}
use Rattle.journeys.proofs.Comparing.{slow-count}
use Rattle.journeys.proofs.FrontRows.{counted-front}
use native.Mathlib.Omega.{arith}
use Rattle.journeys.proofs.front.count_front.Goals as goal

pub returns-then-n-gt4294967295 : goal.returns-then-n-gt4294967295
returns-then-n-gt4294967295 c = record { counted = c.count_rows.ensures ∙ slow-count c.args.v.0 c.args.counting.now c.args.n c.args.table.now (0 ∷ 0 ∷ 0 ∷ []); kept = refl }

pub pass_rows-end-requires : goal.pass_rows-end-requires
pass_rows-end-requires c = (record { base = _; fs = _; sweeps = c.begin-all.ensures.sweeps }, omega (arith, c.begin-all.ensures.none_yet))

pub undo-requires : goal.undo-requires
undo-requires c = record { base = _; fs = _; sweeps = c.pass_rows-end.ensures.on.of _ _ c.begin-all.ensures.sweeps }

pub returns : goal.returns
returns c = record { counted = counted-front c.begin-all.ensures c.pass_rows-end.ensures; kept = c.undo.ensures.of _ _ (c.pass_rows-end.ensures.on.of _ _ c.begin-all.ensures.sweeps) }
