-- `intervals::stays::stay_from` meets its contract, test by test.
-- Assumes nothing.
use Prim.Native.Nat.{◌+◌}
use native.Mathlib.Omega.{arith}
use borrow.Author.Tests.{le-leb, lt-leb}
use Rattle.intervals.specs.Inner.{entry}
use Rattle.intervals.proofs.stays.stay_from.Goals as goal

pub overflow_add-end : goal.overflow_add-end
overflow_add-end c = omega (arith, c.requires.1, c.requires.0.short)

pub returns-then-last-end : goal.returns-then-last-end
returns-then-last-end c =
    let a = c.args in
    rw (lt-leb (a.t.0 + a.n) a.last.0 c.if-last-end.true)

pub first_step-first-requires : goal.first_step-first-requires
first_step-first-requires c = (c.requires.0.place, omega (arith, c.if-last-end.false, c.requires.0.day), omega (arith, c.requires.0.size))

pub returns-then-t-first : goal.returns-then-t-first
returns-then-t-first c =
    let a = c.args in
    rw (
      le-leb (a.t.0 + a.n) a.last.0 c.if-last-end.false,
      lt-leb (entry a.since.now a.v.0 (a.t.0 + a.n)) a.t.0 (omega (arith, c.if-t-first.true, c.first_step-first.ensures)),
    )

pub returns : goal.returns
returns c =
    let a = c.args in
    rw (
      le-leb (a.t.0 + a.n) a.last.0 c.if-last-end.false,
      le-leb (entry a.since.now a.v.0 (a.t.0 + a.n)) a.t.0 (omega (arith, c.if-t-first.false, c.first_step-first.ensures)),
    )
