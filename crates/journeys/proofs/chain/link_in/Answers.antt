-- `journeys::chain::link_in` meets its contract: the branch is that of `link_in`.
-- Assumes nothing.
use borrow.Author.Tests.{eq-eqb, ne_eqb}
use lib.ListN.{length-set}
use native.Mathlib.Omega.{arith}
use Rattle.journeys.proofs.chain.link_in.Goals as goal

pub returns-then-gap : goal.returns-then-gap
returns-then-gap c = let e = eq-eqb c.args.gap.rest c.args.gap.rows c.if-gap.true in (rw e, rw e)

pub bounds-table-gap : goal.bounds-table-gap
bounds-table-gap c = simp length-set (omega (arith, c.requires.left-room c.if-gap.false))

pub returns : goal.returns
returns c = let e = ne_eqb c.args.gap.rest c.args.gap.rows c.if-gap.false in (rw e, rw e)
