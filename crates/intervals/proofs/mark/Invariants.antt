-- `intervals::mark`. The loop's invariant: the steps before t are marked, and nothing else is changed.
use Rattle.std.specs.Prelude.{◌+◌, ◌-◌, ◌≤◌}
use Rattle.intervals.proofs.Tables.{Steps}
use Rattle.intervals.proofs.mark.Given as goal

abbrev pub invariant-loop-t : goal.invariant-loop-t
invariant-loop-t l = (l.t ≤ l.initial.t + (l.t-end - l.initial.t)) × Steps 256 l.row l.initial.t l.t l.initial.since l.since
