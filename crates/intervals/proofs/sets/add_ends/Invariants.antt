-- `intervals::sets::add_ends`. The loop's invariant: the places of the lines so far are added.
use Rattle.intervals.specs.Inner.{Followed}
use Rattle.intervals.proofs.sets.add_ends.Given as goal

abbrev pub invariant-loop-place : goal.invariant-loop-place
invariant-loop-place l = Followed l.occupancies l.place-index l.initial.sets l.sets
