-- `journeys::walk::next_stand`. The loop's invariant: of a wait and the corridors below number l, the best has the lowest place. The measure is the number of
-- corridors left.
use Prim.Native.Nat.{◌-◌}
use Rattle.journeys.specs.Inner.Lookup.{standing}
use Rattle.journeys.specs.Inner.Walk.{LowestOf}
use Rattle.journeys.proofs.walk.next_stand.Given as goal

abbrev pub invariant-loop-l : goal.invariant-loop-l
invariant-loop-l l = LowestOf l.sheet l.n l.table (standing l.at) l.l (standing l.best)

abbrev pub decreases-loop-l : goal.decreases-loop-l
decreases-loop-l l = l.count - l.l
