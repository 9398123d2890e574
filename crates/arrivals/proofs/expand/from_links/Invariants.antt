-- `arrivals::expand::from_links`. The loop's invariant: what comes over those from j on is offered.
use mathlib.Core.Bool.{true}
use mathlib.Core.Path.{◌≡◌}
use Prim.Native.Nat.{◌≤◌}
use lib.ListN.{length}
use Rattle.arrivals.specs.Inner.Entering.{Entry}
use Rattle.arrivals.specs.Inner.Network.{case_of, count_of}
use Rattle.arrivals.specs.Inner.Sweeps.{Over, SweptAt}
use Rattle.arrivals.proofs.expand.from_links.Given as goal

abbrev pub invariant-loop-j : goal.invariant-loop-j
invariant-loop-j l = (l.j ≤ count_of l.net) × (length l.table ≡ length l.initial.table) × SweptAt (λ g. Over (Entry l.here l.a (case_of l.runs l.net) l.initial.table g) l.net l.j (count_of l.net)) l.here l.a l.initial.table l.table 0 true l.e

abbrev pub decreases-loop-j : goal.decreases-loop-j
decreases-loop-j l = l.j
