-- `arrivals::watch::watch_closure` meets its contract.
-- Assumes nothing.
use Rattle.std.proofs.Common.{ap, ℕ, ◌+◌, arith}
use Rattle.intervals.specs.Laws.Sets.{added}
use Rattle.arrivals.proofs.watch.watch_closure.Goals as goal

pub returns-then-s-lt256 : goal.returns-then-s-lt256
returns-then-s-lt256 c =
    let s = c.closure_number-s.ensures in
    let a = added c.add.ensures (ap (λ (x : ℕ). x + 2) s) c.closure_number.ensures (omega (arith, c.requires.3)) in
    record { kept = a.kept; own = λ l. a.own }
