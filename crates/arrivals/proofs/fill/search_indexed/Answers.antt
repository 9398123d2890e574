-- `arrivals::fill::search_indexed` meets its contract: whichever the index, it is long enough.
-- Assumes nothing.
use mathlib.Core.Path.{sym, ap}
use Prim.Native.Nat.{ℕ}
use native.Mathlib.Omega.{arith}
use lib.ListN.{replicate, length-replicate}
use Rattle.arrivals.specs.Inner.Compared.{below_of}
use Rattle.arrivals.proofs.fill.search_indexed.Goals as goal

pub search_by-requires : goal.search_by-requires
search_by-requires c =
    let p = c.requires in (p.0, ap (λ (n : ℕ). replicate {A = ℕ} n 0) (sym (length-replicate {A = ℕ} 2112 0)), omega (arith, length-replicate {A = ℕ} 2112 0, below_of {a = c.args.last.0} {b = 16} c.lt.ensures c.if-lt.true), p.1)

pub returns-then-lt : goal.returns-then-lt
returns-then-lt c = c.search_by.ensures

pub search_by-requires-then-lt-2 : goal.search_by-requires-then-lt-2
search_by-requires-then-lt-2 c =
    let p = c.requires in (p.0, ap (λ (n : ℕ). replicate {A = ℕ} n 0) (sym (length-replicate {A = ℕ} 8256 0)), omega (arith, length-replicate {A = ℕ} 8256 0, below_of {a = c.args.last.0} {b = 64} c.lt-2.ensures c.if-lt-2.true), p.1)

pub returns-then-lt-2 : goal.returns-then-lt-2
returns-then-lt-2 c = c.search_by-then-lt-2.ensures

pub search_by-requires-2 : goal.search_by-requires-2
search_by-requires-2 c =
    let p = c.requires in (p.0, ap (λ (n : ℕ). replicate {A = ℕ} n 0) (sym (length-replicate {A = ℕ} 32832 0)), omega (arith, length-replicate {A = ℕ} 32832 0, p.0.day), p.1)

pub returns : goal.returns
returns c = c.search_by-2.ensures
