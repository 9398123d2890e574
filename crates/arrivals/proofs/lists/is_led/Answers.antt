-- `arrivals::lists::is_led` meets its contract: a cost of the part is nowhere above c, or none is. Assumes nothing.
use Rattle.std.proofs.Common.{Some, ◌≡◌, ◌<◌, ℕ, true, false, rules}
use Rattle.std.proofs.lemmas.Bool.{true_from_ne_false}
use Rattle.std.proofs.iter.runs.Sources.{ranges}
use Rattle.sheet.specs.Laws.Decided.{decided-by, false-not-true}
use Rattle.costs.specs.Laws.Figures.{at_most_b-true, at-most-at_most_b}
use Rattle.costs.specs.Computed.{at_most_b}
use Rattle.arrivals.specs.Inner.Lists.{cost_in}
use Rattle.arrivals.proofs.lists.is_led.Goals as goal

pub returns : goal.returns
returns c =
    decided-by c.any.result
    (λ e.
    let k : (i : ℕ) × (i < c.args.part.n) × (at_most_b (cost_in c.args.live.now c.args.part.at i) c.args.c ≡ true) = search (rules, ranges) in
    record { at = k.0; upto = k.1; least = at_most_b-true (cost_in c.args.live.now c.args.part.at k.0) _ k.2 })
    (λ l. true_from_ne_false _
    (λ e.
    let b = rw e at c.any.ensures.runs.2 in
    let o : c.any.ensures.runs.0.at l.at ≡ Some l.at = search (rules, ranges, b.0, l.upto) in
    let m = rw o at (b.1 (search (rules, ranges)) l.at) in
    let n : at_most_b (cost_in c.args.live.now c.args.part.at l.at) c.args.c ≡ false = search (rules, m) in
    false-not-true n (at-most-at_most_b _ _ l.least)))
