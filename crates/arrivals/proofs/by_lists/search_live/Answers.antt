-- `arrivals::by_lists::search_live` meets its contract: the row of the start, then every step.
-- Assumes nothing.
use mathlib.Core.Path.{refl}
use native.Mathlib.Omega.{arith}
use Rattle.arrivals.proofs.by_lists.search_live.Goals as goal

pub start_live-requires : goal.start_live-requires
start_live-requires c = let p = c.requires in (p.0.given, p.1, p.2)

pub live_steps-requires : goal.live_steps-requires
live_steps-requires c =
    let r = c.in-Ok.ensures in
    let p = c.requires in
    let z = r.result refl in (
      record { given = p.0.given; inside = omega (arith, p.0.given.start); first = omega arith; last = omega arith; room = z.room; filled = z.done refl },
      r.sourcing refl,
      p.0.day,
      p.0.watching,
    )

pub returns : goal.returns
returns c = c.live_steps.ensures
