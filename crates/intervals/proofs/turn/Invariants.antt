-- `intervals::turn`. The loop's invariant: the runs after the lines so far are written.
use Rattle.std.specs.Prelude.{◌≡◌, length}
use Rattle.intervals.proofs.Fill.{Filled}
use Rattle.intervals.proofs.turn.Given as goal

abbrev pub invariant-loop-place : goal.invariant-loop-place
invariant-loop-place l = (length l.since ≡ 16384) × Filled l.occupancies l.place-index l.since
