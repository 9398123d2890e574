-- `sheet::text::widen` meets its contract. Assumes nothing.
use Rattle.std.proofs.Math.Nat.{zero-add}
use Rattle.sheet.specs.Laws.Stores.{sets_more}
use Rattle.sheet.proofs.text.widen.Goals as goal

pub loop-i-preserved : goal.loop-i-preserved
loop-i-preserved c =
    let a = c.args in
    let e = rw zero-add at (sets_more a.to.now a.numbers.now 0 c.loop-i.i c.loop-i-test.true) in
    cc
