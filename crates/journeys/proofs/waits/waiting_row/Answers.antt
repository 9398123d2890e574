-- `journeys::waits::waiting_row` meets its contract: the first step of the safe interval and the cost of a wait are the sheet's.
-- Assumes nothing.
use native.Mathlib.Omega.{arith}
use Rattle.arrivals.specs.declared.network.Here.{Here}
use Rattle.journeys.specs.Inner.Lookup.{standing}
use Rattle.journeys.specs.Inner.Waits.{KeptRow, WaitingRow}
use Rattle.journeys.proofs.Waiting.{row-as, wait-within, row-waiting}
use Rattle.journeys.proofs.waits.waiting_row.Goals as goal
use Rattle.journeys.proofs.waits.waiting_row.Goals.{Start}

pub kept_row-requires : goal.kept_row-requires
kept_row-requires c = (c.requires.0.rows.sorted, omega (arith, c.requires.2), wait-within c.requires.0.derived.valid _ c.wait_at.ensures)

pub returns : goal.returns
returns c =
    let z = (goal.at.returns c).Start in
    let a = z.args in
    let here : Here = record { place = a.a.place; step = a.a.step; since = c.first_step.result; wait = c.wait_at.result } in
    row-as a.n (KeptRow a.n a.table.now here a.a.cost) (WaitingRow a.sheet.now a.n a.table.now (standing a.a))
    (λ k x. row-waiting z.requires.0 z.requires.1 z.requires.2 c.first_step.ensures c.wait_at.ensures x) c.kept_row.result c.kept_row.ensures
