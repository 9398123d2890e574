-- `arrivals::live::last_live` meets its contract. Assumes nothing.
use Rattle.std.proofs.Common.{◌≡◌, subst, ⊎_elim, ◌-◌, arith}
use Rattle.sheet.specs.Laws.Decided.{lt-or-le}
use Rattle.arrivals.specs.Inner.Settling.{Undercut}
use Rattle.arrivals.proofs.live.last_live.Goals as goal

pub returns-then-not-is_undercut : goal.returns-then-not-is_undercut
returns-then-not-is_undercut c = record { from = omega arith; upto = omega arith; dead = λ k a b. c.loop-i.invariant.2 k (omega arith) b }

pub loop-i-preserved : goal.loop-i-preserved
loop-i-preserved c = let inv = c.loop-i.invariant in let u = c.is_undercut.ensures c.if-not-is_undercut.false in (omega arith, omega (arith, inv.1), λ k a b. ⊎_elim (λ lt. let e : c.loop-i.i - 1 ≡ k = omega arith in subst (Undercut c.args.table.now c.args.lag c.args.by) e u) (λ ge. inv.2 k ge b) (lt-or-le k c.loop-i.i))

pub returns : goal.returns
returns c = record { from = omega arith; upto = omega arith; dead = λ k a b. c.loop-i.invariant.2 k (omega arith) b }
