-- `arrivals::network::none_between` meets its contract: the closures of the cell are gone through from the last. One that is of it is of the cell. Assumes
-- nothing.
use Rattle.std.proofs.Common.{◌∙◌, sym, ap₂, ◌-◌, arith}
use Rattle.sheet.specs.Laws.Decided.{no_of, yes_of}
use Rattle.arrivals.specs.Inner.Chains.{cell, passed-all, passed-next}
use Rattle.arrivals.specs.Inner.Network.{open_of, shut-of}
use Rattle.arrivals.proofs.network.none_between.Goals as goal

pub returns-then-closes : goal.returns-then-closes
returns-then-closes c = sym (shut-of _ _ _ _ (c.loop-x.x - 1) (omega (arith, c.loop-x.invariant.1.most)) (yes_of c.closes.ensures c.if-closes.true))

pub loop-x-preserved : goal.loop-x-preserved
loop-x-preserved c =
    let n = c.next_shut-x.ensures in
    let e = c.loop-x.invariant.0 in
    (e, passed-next (omega arith) (no_of c.closes.ensures c.if-closes.false) (record { most = n.most; none = λ i l m k. n.none i l m (k ∙ sym e) }) c.loop-x.invariant.1)

pub returns : goal.returns
returns c = sym (open_of _ _ _ _ (λ i l p. passed-all (omega arith) c.loop-x.invariant.1 i l (ap₂ cell p.to p.step) p))
