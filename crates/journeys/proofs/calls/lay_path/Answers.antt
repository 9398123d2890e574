-- `journeys::calls::lay_path` meets its contract: the journey is walked, and zeros are put past it.
-- Assumes nothing.
use mathlib.Core.Path.{◌∙◌}
use Rattle.journeys.proofs.Walking.{laid}
use Rattle.journeys.proofs.calls.lay_path.Goals as goal

pub returns : goal.returns
returns c =
    let w = c.walk.ensures in
    (w.0, c.clear_from.ensures ∙ laid c.requires _ w.1)
