-- `month::lines::take_lines`. The loop's invariant: the lines from `at` on are judged, after those before, as the whole. The measure is what is left of the
-- bytes: each line taken ends further on.
use Rattle.std.specs.Prelude.{◌-◌, length}
use Rattle.month.specs.Month.{month_of}
use Rattle.month.specs.Inner.{Reached, left}
use Rattle.month.proofs.lines.take_lines.Given as goal

abbrev pub invariant-loop-next : goal.invariant-loop-next
invariant-loop-next l = Reached (month_of l.src) (left l.src l.at) l.n l.sums

abbrev pub decreases-loop-next : goal.decreases-loop-next
decreases-loop-next l = length l.src - l.at
