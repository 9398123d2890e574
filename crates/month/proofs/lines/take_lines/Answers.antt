-- `month::lines::take_lines` meets its contract. Assumes nothing.
use Rattle.std.specs.Prelude.{◌≡◌, suc, ◌+◌}
use Rattle.std.proofs.Common.{arith, ◌∙◌, ap}
use Rattle.sheet.specs.Refusals.{number_of}
use Rattle.month.specs.Month.{refused}
use Rattle.month.proofs.Reading.{read-begun}
use Rattle.month.proofs.lines.take_lines.Goals as goal

pub loop-next-init : goal.loop-next-init
loop-next-init c = read-begun c.args.src.now c.requires

pub returns-in-Err : goal.returns-in-Err
returns-in-Err c =
    let n = c.loop-next.n in
    let e : suc n ≡ n + 1 = omega arith in
    c.in-Err.ensures.of _ c.loop-next.invariant ∙ ap (refused (number_of c.in-Err.refusal)) e
