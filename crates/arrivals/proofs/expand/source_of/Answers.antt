-- `arrivals::expand::source_of` meets its contract: the numbers of the corridor, and the later of two steps.
-- Assumes nothing.
use mathlib.Core.Path.{◌≡◌, sym, ap, ◌∙◌}
use native.Mathlib.Omega.{arith}
use Rattle.arrivals.specs.Inner.Compared.{later_of}
use Rattle.arrivals.specs.Inner.Lent.{given-linked}
use Rattle.arrivals.specs.Inner.Network.{wait_in}
use Rattle.arrivals.specs.Inner.Pruning.{sourced}
use Rattle.arrivals.proofs.expand.source_of.Goals as goal

pub link_end-place-requires : goal.link_end-place-requires
link_end-place-requires c = (omega (arith, c.requires.0.few), omega arith, c.requires.0.size)

pub first_step-since-requires : goal.first_step-since-requires
first_step-since-requires c = (omega (arith, c.link_end-place.ensures, (given-linked c.requires.0).ends 0 c.args.j (omega arith) c.requires.1), omega arith, c.requires.0.intervals)

pub link_end-requires : goal.link_end-requires
link_end-requires c = (omega (arith, c.requires.0.few), omega arith, c.requires.0.size)

pub wait_of-requires : goal.wait_of-requires
wait_of-requires c = (omega (arith, c.link_end.ensures, (given-linked c.requires.0).ends 0 c.args.j (omega arith) c.requires.1), c.requires.0.size)

pub link_cost-requires : goal.link_cost-requires
link_cost-requires c = (omega (arith, c.requires.0.few), c.requires.0.size)

pub returns : goal.returns
returns c =
    let e : c.link_end.result.0 ≡ c.link_end-place.result.0 = c.link_end.ensures ∙ sym c.link_end-place.ensures in
    sourced _ _ c.args.j _ _ _ _ c.link_end-place.ensures c.first_step-since.ensures (later_of _ _ _ c.max.ensures) (c.wait_of.ensures ∙ ap (wait_in c.args.net.now) e) c.link_cost.ensures
