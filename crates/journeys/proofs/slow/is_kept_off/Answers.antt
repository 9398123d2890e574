-- `journeys::slow::is_kept_off` meets its contract: the tests are those of `kept_off`.
-- Assumes nothing.
use mathlib.Core.Path.{◌∙◌, ap, ap₂}
use mathlib.Core.Bool.{Bool, ◌&&◌, ◌||◌}
use lib.Dec.{ltb}
use Rattle.sheet.specs.Computed.{lexb}
use Rattle.costs.specs.Computed.{at_most_b}
use Rattle.journeys.specs.Inner.Slow.{kept_off}
use Rattle.journeys.proofs.slow.is_kept_off.Goals as goal

pub returns : goal.returns
unfolding kept_off
returns c =
    let g = c.row_cost-g.ensures in
    let h = c.row_cost-h.ensures in
    ap₂ ◌&&◌ (ap₂ ◌&&◌ c.is_goal_row.ensures (c.at_most.ensures ∙ ap₂ at_most_b h g))
    (ap (λ (b : Bool). b || ltb c.args.j c.args.k) (c.before-2.ensures ∙ ap₂ lexb h g))
