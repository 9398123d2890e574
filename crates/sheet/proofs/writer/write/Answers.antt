-- `sheet::writer::write` meets its contract: 2 by the lengths; then the lines are judged as they are taken into the array; then it is written.
-- Assumes nothing.
use Rattle.std.specs.Prelude.{refl}
use Rattle.std.proofs.Common.{arith, sym, ◌∙◌}
use Rattle.sheet.specs.Sheet.{refused, loaded}
use Rattle.sheet.specs.Calls.{groups}
use Rattle.sheet.specs.Refusals.{number_of}
use Rattle.sheet.specs.Laws.Refusals.{number-some}
use Rattle.sheet.specs.Laws.RoundTrip.{whole_of, write-uneven}
use Rattle.sheet.proofs.Writing.{refused_as, write-judged}
use Rattle.sheet.proofs.writer.write.Goals as goal

pub returns-then-head-waits : goal.returns-then-head-waits
returns-then-head-waits c =
    let a = c.args in
    let g = groups a.head.now a.waits.now a.corridors.now a.closures.now a.occupancies.now in
    refused_as c.refuse.result 2 0 a.out.now c.refuse.ensures ∙ sym (write-uneven g a.out.now c.if-head-waits.true)

pub take_groups-taken-requires : goal.take_groups-taken-requires
take_groups-taken-requires c =
    let a = c.args in
    let g = groups a.head.now a.waits.now a.corridors.now a.closures.now a.occupancies.now in
    ((whole_of g c.if-head-waits.false).head-whole, record { no_lines = refl; no_cells = refl })

pub returns-in-Err : goal.returns-in-Err
returns-in-Err c =
    let a = c.args in
    let g = groups a.head.now a.waits.now a.corridors.now a.closures.now a.occupancies.now in
    let r = c.in-Err.refused in
    refused_as c.refuse-in-Err.result (number_of r.refusal) r.line a.out.now c.refuse-in-Err.ensures
    ∙ write-judged g a.out.now c.if-head-waits.false (refused (number_of r.refusal) r.line) (c.in-Err.ensures.refuses (λ z. omega (arith, number-some r.refusal)))

pub returns-in-Ok : goal.returns-in-Ok
returns-in-Ok c =
    let a = c.args in
    let g = groups a.head.now a.waits.now a.corridors.now a.closures.now a.occupancies.now in
    let h = c.in-Ok.ensures.holds refl in
    c.write_stored.ensures.of h.0 h.2 ∙ write-judged g a.out.now c.if-head-waits.false (loaded h.0) h.1
