-- `journeys::front::nth_front` meets its contract: rows are passed until the one with the number is taken, and the table is put back; or they are too
-- many, and are compared.
-- Assumes nothing.
use Rattle.journeys.proofs.Chains.{in_table}
use Rattle.arrivals.specs.Rows.{cost_at}
use Rattle.sheet.specs.Lists.{number}
use lib.ListN.{length}
use Prim.Native.Nat.{ℕ, ◌+◌, ◌*◌}
use mathlib.Core.List.{List}
use Rattle.journeys.proofs.FrontRows.{number-off, number-room, number-on}
use native.Mathlib.Omega.{arith}
use mathlib.Core.Path.{◌∙◌, ap}
use Rattle.journeys.proofs.front.nth_front.Goals as goal

pub undo-requires : goal.undo-requires
undo-requires c = record { base = _; fs = _; sweeps = c.pass_rows-end.ensures.on.of _ _ c.begin-all.ensures.sweeps }

pub returns-then-end-number : goal.returns-then-end-number
returns-then-end-number c = record { numbered = number-off _ c.begin-all.ensures c.pass_rows-end.ensures c.if-end-number.true; kept = c.undo.ensures.of _ _ (c.pass_rows-end.ensures.on.of _ _ c.begin-all.ensures.sweeps) }

pub row_cost-requires : goal.row_cost-requires
row_cost-requires c = (in_table {ys = c.undo.new.table} (ap length (c.undo.ensures.of _ _ (c.pass_rows-end.ensures.on.of _ _ c.begin-all.ensures.sweeps))) (number-room _ c.begin-all.ensures c.pass_rows-end.ensures c.if-end-number.false)).room

pub bounds-table-end : goal.bounds-table-end
bounds-table-end c = omega (arith, ap length (c.undo.ensures.of _ _ (c.pass_rows-end.ensures.on.of _ _ c.begin-all.ensures.sweeps)), (number-room _ c.begin-all.ensures c.pass_rows-end.ensures c.if-end-number.false).room)

pub returns : goal.returns
returns c = let e = (c.undo.ensures.of _ _ (c.pass_rows-end.ensures.on.of _ _ c.begin-all.ensures.sweeps)) in
    let k = c.pass_rows-end.result.row in
    record { numbered = number-on _ c.begin-all.ensures c.pass_rows-end.ensures _ c.if-end-number.false (c.row_cost.ensures ∙ ap (λ (xs : List ℕ). cost_at xs k) e) (ap (λ (xs : List ℕ). number xs (k * 5 + 1)) e); kept = e }
