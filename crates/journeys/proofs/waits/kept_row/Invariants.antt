-- `journeys::waits::kept_row`. The loop's invariant: no row at a step from s on becomes the cost.
use Rattle.journeys.proofs.Waiting.{NoneFrom}
use Rattle.journeys.proofs.waits.kept_row.Given as goal

abbrev pub invariant-loop-s : goal.invariant-loop-s
invariant-loop-s l = NoneFrom l.n l.table l.here l.h l.s
