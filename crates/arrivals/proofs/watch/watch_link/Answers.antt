-- `arrivals::watch::watch_link` meets its contract.
-- Assumes nothing.
use Rattle.std.proofs.Common.{refl, ap, inl, inr, ℕ, ◌+◌, arith}
use Rattle.intervals.specs.Laws.Sets.{kept_on, added}
use Rattle.arrivals.proofs.watch.watch_link.Goals as goal

pub returns-then-is_dear : goal.returns-then-is_dear
returns-then-is_dear c =
    let p = c.requires in
    let from = c.link_end-from.ensures in
    let a = added c.add.ensures (ap (λ (x : ℕ). 258 + x) from) c.link_end.ensures (omega (arith, from, p.0.ends 0 _ (omega arith) p.1, p.2)) in
    let b = added c.add-then-is_dear.ensures refl c.link_end-then-is_dear.ensures (omega (arith, a.kept.size, p.2)) in
    record { kept = kept_on a.kept b.kept; onward = b.kept.more _ _ a.own; dear = inr b.own }

pub returns-else-is_dear : goal.returns-else-is_dear
returns-else-is_dear c =
    let p = c.requires in
    let from = c.link_end-from.ensures in
    let a = added c.add.ensures (ap (λ (x : ℕ). 258 + x) from) c.link_end.ensures (omega (arith, from, p.0.ends 0 _ (omega arith) p.1, p.2)) in
    record { kept = a.kept; onward = a.own; dear = inl (c.is_dear.ensures c.if-is_dear.false) }
