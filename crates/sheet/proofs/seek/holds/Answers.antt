-- `sheet::seek::holds` meets its contract: a line with the first numbers of v is the first that does not come before v, so that no other is looked at.
-- Assumes nothing.
use Rattle.std.proofs.lemmas.Bool.Decides.{Decides-eqb}
use Rattle.std.proofs.lemmas.Slice.Eq.{slice_eq-Decides}
use Rattle.std.proofs.Common.{le-ltb}
use Rattle.sheet.specs.Laws.Decided.{fails, decided-by}
use Rattle.sheet.specs.Laws.Seek.{listed_here, listed-none}
use Rattle.sheet.proofs.seek.holds.Goals as goal

pub returns-then-i-g : goal.returns-then-i-g
returns-then-i-g c =
    let d = slice_eq-Decides Decides-eqb _ _ _ (rw c.key_at.ensures at c.eq.ensures) in
    listed_here c.requires c.lines_before-i.ensures c.if-i-g.true (decided-by _ d.0 d.1)

pub returns-else-i-g : goal.returns-else-i-g
returns-else-i-g c = rw (le-ltb c.lines_before-i.result c.args.g.count c.if-i-g.false) (fails (listed-none c.requires c.lines_before-i.ensures c.if-i-g.false))
