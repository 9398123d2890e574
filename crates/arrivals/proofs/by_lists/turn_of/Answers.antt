-- `arrivals::by_lists::turn_of` meets its contract: what it returns is what it calls for.
-- Assumes nothing.
use mathlib.Core.Path.{◌∙◌, ap, subst, sym}
use Prim.Native.Nat.{◌-◌}
use native.Mathlib.Omega.{arith}
use Rattle.costs.specs.Costs.{times}
use Rattle.costs.specs.Priced.{Within}
use Rattle.arrivals.specs.Inner.Network.{wait_in}
use Rattle.arrivals.proofs.by_lists.turn_of.Goals as goal

pub overflow_sub-here : goal.overflow_sub-here
overflow_sub-here c = omega (arith, c.requires.4)

pub link_end-requires : goal.link_end-requires
link_end-requires c = (c.requires.0, omega arith, c.requires.2)

pub wait_of-requires : goal.wait_of-requires
wait_of-requires c = (omega (arith, c.link_end.ensures, c.requires.1), c.requires.2)

pub multiple-requires : goal.multiple-requires
multiple-requires c = (omega (arith, c.requires.3), subst (Within 60000) (sym (c.wait_of.ensures ∙ ap (wait_in c.args.net.now) c.link_end.ensures)) c.requires.5)

pub link_cost-requires : goal.link_cost-requires
link_cost-requires c = (c.requires.0, c.requires.2)

pub overflow_sub-here-2 : goal.overflow_sub-here-2
overflow_sub-here-2 c = omega (arith, c.requires.4)

pub multiple-requires-2 : goal.multiple-requires-2
multiple-requires-2 c = (omega (arith, c.requires.3), c.requires.6)

pub returns : goal.returns
returns c =
    let a = c.args in
    (c.multiple.ensures ∙ ap (times (256 - a.here.step.0)) (c.wait_of.ensures ∙ ap (wait_in a.net.now) c.link_end.ensures), c.link_cost.ensures, c.multiple-2.ensures)
