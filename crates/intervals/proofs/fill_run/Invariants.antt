-- `intervals::fill_run`. The loop's invariant: the steps before t from the first on were not marked and are written, and nothing else is changed.
use Rattle.intervals.proofs.Fill.{Filling}
use Rattle.intervals.proofs.fill_run.Given as goal

abbrev pub invariant-loop-t : goal.invariant-loop-t
invariant-loop-t l = Filling l.row l.first l.t l.initial.since l.since
