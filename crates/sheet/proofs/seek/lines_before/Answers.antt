-- `sheet::seek::lines_before` meets its contract. Assumes nothing.
use Rattle.std.proofs.Common.{take, rules}
use Rattle.sheet.specs.Seek.{key_in}
use Rattle.sheet.proofs.seek.lines_before.Goals as goal

pub returns : goal.returns
returns c =
    let a = c.args in
    c.partition_point.ensures (key_in a.all.now a.g) (take a.g.key a.v) (λ k h b q. search rules) c.requires.ascends
