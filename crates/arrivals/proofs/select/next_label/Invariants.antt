-- `arrivals::select::next_label`. The loop's invariant: b is the best over those below j.
use mathlib.Core.Bool.{false}
use mathlib.Core.Path.{◌≡◌}
use Prim.Native.Nat.{◌-◌, ◌≤◌}
use Rattle.arrivals.specs.Inner.Entering.{Enters, LedAt}
use Rattle.arrivals.specs.Inner.Network.{case_of, count_of, link_at, links_of}
use Rattle.arrivals.specs.Inner.Rows.{rows_of}
use Rattle.arrivals.specs.Inner.Selecting.{Improved, Scan, next_of}
use Rattle.arrivals.proofs.select.next_label.Given as goal

abbrev pub invariant-loop-j : goal.invariant-loop-j
invariant-loop-j l = (l.j ≤ count_of l.net) × ((next_of l.initial.b).found ≡ false) × Improved (Scan (Enters (case_of l.runs l.net) (rows_of l.table l.n) l.here.place.0 l.here.step.0) (λ g. LedAt (rows_of l.table l.n) l.here g → ⊥) (link_at l.net) (links_of l.net) l.j) (next_of l.initial.b) (next_of l.b)

abbrev pub decreases-loop-j : goal.decreases-loop-j
decreases-loop-j l = count_of l.net - l.j
