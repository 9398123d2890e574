-- `journeys::marks::crosses_later` meets its contract: the corridor can be departed by at the step too, its first place is free until then, and neither
-- wait is above the other.
-- Assumes nothing.
use Rattle.journeys.proofs.Waiting.{wait-is}
use Rattle.journeys.proofs.Crossings.{later-crosses}
use mathlib.Core.Path.{sym, ◌∙◌, ap}
use mathlib.Core.Bool.{Bool, ◌&&◌}
use Rattle.journeys.proofs.Orders.{lt-is}
use Rattle.journeys.proofs.marks.crosses_later.Goals as goal

pub returns : goal.returns
returns c =
    let z = ap (λ (b : Bool). ((c.corridor_at-c.result.open && b) && c.at_most.result) && c.at_most-2.result) (c.lt.ensures ∙ lt-is _ _) in
    λ e. (c.if-not-settled.false, later-crosses c.requires.0 c.corridor_at-c.result c.corridor_at-c.ensures c.requires.1 c.requires.3 c.first_step-first.ensures (wait-is _ c.args.u c.wait_at-a.ensures) (wait-is _ c.args.v c.wait_at-b.ensures) c.at_most.ensures c.at_most-2.ensures (sym z ∙ e))
