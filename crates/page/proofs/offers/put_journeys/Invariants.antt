-- `page::offers::put_journeys`. The loop's invariant: the lines of the rows so far are written, and the table is what it was.
use Rattle.std.specs.Prelude.{◌≡◌, ◌*◌}
use Rattle.page.specs.Laws.Offers.{Through}
use Rattle.page.proofs.offers.put_journeys.Given as goal

abbrev pub invariant-loop-row : goal.invariant-loop-row
invariant-loop-row l = (l.table ≡ l.initial.table) × Through l.sheet (l.row-index * 4) l.initial.out l.at l.out l.next
