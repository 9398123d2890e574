-- `arrivals::fill::note_rows`. The loop's invariant: the rows below k are those of so many steps, and are noted.
use mathlib.Core.Path.{◌≡◌}
use Prim.Native.Nat.{◌-◌}
use lib.ListN.{length}
use Rattle.arrivals.specs.Inner.Renoting.{Renoted}
use Rattle.arrivals.proofs.fill.note_rows.Given as goal

abbrev pub invariant-loop-k : goal.invariant-loop-k
invariant-loop-k l = (length l.ix ≡ length l.initial.ix) × Renoted l.net l.table l.n l.k l.ix

abbrev pub decreases-loop-k : goal.decreases-loop-k
decreases-loop-k l = l.n - l.k
