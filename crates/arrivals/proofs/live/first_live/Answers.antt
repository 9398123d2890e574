-- `arrivals::live::first_live` meets its contract. Assumes nothing.
use Rattle.std.proofs.Common.{◌≡◌, subst, ⊎_elim, arith}
use Rattle.sheet.specs.Laws.Decided.{lt-or-le}
use Rattle.arrivals.specs.Inner.Settling.{Undercut}
use Rattle.arrivals.proofs.live.first_live.Goals as goal

pub loop-k-preserved : goal.loop-k-preserved
loop-k-preserved c = let inv = c.loop-k.invariant in let u = c.is_undercut.ensures c.if-not-is_undercut.false in (omega arith, omega arith, λ i a b. ⊎_elim (λ lt. inv.2 i a lt) (λ ge. let e : c.loop-k.k ≡ i = omega arith in subst (Undercut c.args.table.now c.args.lag c.args.by) e u) (lt-or-le i c.loop-k.k))

pub returns : goal.returns
returns c = record { from = omega arith; upto = omega arith; dead = λ i a b. c.loop-k.invariant.2 i a (omega arith) }
