-- `arrivals::lay::copy`. The loop's invariant: those below i are, and all else is kept.
use mathlib.Core.Path.{◌≡◌}
use Prim.Native.Nat.{ℕ, ◌+◌, ◌<◌, ◌≤◌}
use lib.ListN.{get_or}
use Rattle.arrivals.specs.Rows.{Besides}
use Rattle.arrivals.proofs.lay.copy.Given as goal

abbrev pub invariant-loop-i : goal.invariant-loop-i
invariant-loop-i l = (l.i ≤ l.n) × ((q : ℕ) → q < l.i → get_or l.net (l.at + q) 0 ≡ get_or l.all (l.from + q) 0) × Besides l.at (l.at + l.n) l.initial.net l.net
