-- `sheet::seek::partition_point`. The loop's invariant: the things below `low` come before the key, and those from `high` on do not. The measure is what
-- lies between.
use Rattle.std.proofs.Common.{ℕ, List, ◌-◌, ◌≤◌}
use Rattle.sheet.specs.Seek.{Parted, Tells}
use Rattle.sheet.specs.Laws.Seek.{Ascends}
use Rattle.sheet.proofs.seek.partition_point.Given as goal

abbrev pub invariant-loop-low : goal.invariant-loop-low
invariant-loop-low g l = record {
  order : l.low ≤ l.high;
  most : l.high ≤ l.n;
  parted : (at : ℕ → List ℕ) (a : List ℕ) → Tells (goal.F-post g l.is_before) l.n at a → Ascends l.n at → Parted l.n at a l.low l.high;
}

abbrev pub decreases-loop-low : goal.decreases-loop-low
decreases-loop-low g l = l.high - l.low
