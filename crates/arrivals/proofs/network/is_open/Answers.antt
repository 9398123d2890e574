-- `arrivals::network::is_open` meets its contract: a place to which no closure leads is not shut off, nor is a cell without
-- closures; else its closures are gone through.
-- Assumes nothing.
use Rattle.std.proofs.Common.{◌∙◌, ap, ap₂, sym, ℕ, arith}
use Rattle.arrivals.specs.Inner.Chains.{cell}
use Rattle.arrivals.specs.Inner.Network.{into_of, open_of}
use Rattle.arrivals.proofs.network.is_open.Goals as goal

pub returns-then-is_plain : goal.returns-then-is_plain
returns-then-is_plain c =
    let z = ap (into_of c.args.net.now) (sym c.link_end-v.ensures) ∙ c.is_plain.ensures c.if-is_plain.true in
    sym (open_of _ _ _ _ (λ i l p. c.requires.2.noted i l (ap (into_of c.args.net.now) p.to ∙ z)))

pub returns-then-last-eq0 : goal.returns-then-last-eq0
returns-then-last-eq0 c =
    let z = c.last_shut-last.ensures in
    let e = c.cell_of.ensures.0 ∙ ap (λ (v : ℕ). cell v c.args.s.0) c.link_end-v.ensures in
    sym (open_of _ _ _ _ (λ i l p. c.requires.2.chained.head _ i c.cell_of.ensures.1 (omega (arith, z)) l (ap₂ cell p.to p.step ∙ sym e)))
