-- `arrivals::live::settle_place`. The loop's invariant: the index has what it promises, and the listed rows of the place before step p begin below step s.
use Rattle.std.proofs.Common.{◌≡◌, ℕ, ◌≤◌, length}
use Rattle.arrivals.specs.Inner.Settling.{Settling, Begins}
use Rattle.arrivals.proofs.live.settle_place.Given as goal

abbrev pub invariant-loop-v : goal.invariant-loop-v
invariant-loop-v l = (l.s.0 ≤ l.p.0) × (l.p.0 ≤ l.t.0) × (length l.ix ≡ length l.initial.ix) × ((n : ℕ) → Settling l.net l.table n l.initial.ix l.t.0 → Settling l.net l.table n l.ix l.t.0 × Begins l.table n l.ix l.v.0 l.p.0 l.s.0)

abbrev pub decreases-loop-v : goal.decreases-loop-v
decreases-loop-v l = l.s.0
