-- `arrivals::by_lists::grown_by` meets its contract.
-- Assumes nothing.
use mathlib.Core.Path.{refl}
use borrow.Author.Tests.{lt-ltb, le-ltb}
use Rattle.arrivals.proofs.by_lists.grown_by.Goals as goal

pub with-requires : goal.with-requires
with-requires c = c.requires

pub returns-then-n-m : goal.returns-then-n-m
returns-then-n-m c = rw (lt-ltb _ _ c.if-n-m.true) c.with.ensures

pub returns : goal.returns
returns c = rw (le-ltb _ _ c.if-n-m.false) refl
