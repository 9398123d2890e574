-- `journeys::lookup::rows_before` meets its contract. Assumes nothing.
use Prim.Native.Nat.{ℕ}
use Rattle.std.proofs.Common.{rules}
use Rattle.arrivals.specs.Arrivals.{key_of}
use Rattle.journeys.specs.Inner.Lookup.{standing, stand_at}
use Rattle.journeys.proofs.lookup.rows_before.Goals as goal

pub returns : goal.returns
returns c =
    let a = c.args in
    c.partition_point.ensures (λ (k : ℕ). key_of (stand_at a.table.now k)) (key_of (standing a.a)) (λ k h b q. search rules) c.requires.ascends
