-- `intervals::mark_all`. The loop's invariant: the entries of the lines so far are marked, and the others are 0.
use Rattle.std.specs.Prelude.{◌≡◌, length}
use Rattle.intervals.specs.Inner.{Marked}
use Rattle.intervals.proofs.mark_all.Given as goal

abbrev pub invariant-loop-place : goal.invariant-loop-place
invariant-loop-place l = (length l.since ≡ 16384) × Marked l.occupancies l.place-index l.since
