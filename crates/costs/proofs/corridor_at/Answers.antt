-- `costs::corridor_at` meets its contract: the five numbers of line k are the corridor's ends and its cost, and it is
-- open where it is not closed.
-- Assumes nothing.
use mathlib.Core.Path.{◌≡◌, refl}
use native.Mathlib.Omega.{arith}
use Prim.Native.Nat.{◌<◌}
use lib.ListN.{length}
use Rattle.sheet.specs.Store.{store_room}
use Rattle.sheet.proofs.HeldSheets.{held-is}
use Rattle.costs.proofs.Crossings.{whole-store, line-few, corridor-is}
use Rattle.costs.proofs.corridor_at.Goals as goal
use Rattle.costs.proofs.corridor_at.Goals.{After-sheet}

-- line k is one of 256, in an array of full length
room : (c : After-sheet) → (c.args.k < 256) × (length c.sheet.inside.all.now ≡ store_room)
room c = let S = held-is c.sheet.invariant c.sheet.view_is in (line-few S _ c.requires, whole-store S)

pub overflow_mul-at : goal.overflow_mul-at
overflow_mul-at c = omega (arith, room (goal.at.overflow_mul-at c).After-sheet)

pub overflow_add-at : goal.overflow_add-at
overflow_add-at c = omega (arith, room (goal.at.overflow_add-at c).After-sheet)

pub offset_bounds-all-at : goal.offset_bounds-all-at
offset_bounds-all-at c = omega (arith, room (goal.at.offset_bounds-all-at c).After-sheet)

pub bounds-all-at : goal.bounds-all-at
bounds-all-at c = omega (arith, room (goal.at.bounds-all-at c).After-sheet)

pub overflow_add-to : goal.overflow_add-to
overflow_add-to c = omega (arith, room (goal.at.overflow_add-to c).After-sheet)

pub offset_bounds-all-at-2 : goal.offset_bounds-all-at-2
offset_bounds-all-at-2 c = omega (arith, room (goal.at.offset_bounds-all-at-2 c).After-sheet)

pub bounds-all-at-2 : goal.bounds-all-at-2
bounds-all-at-2 c = omega (arith, room (goal.at.bounds-all-at-2 c).After-sheet)

pub overflow_add-at-2 : goal.overflow_add-at-2
overflow_add-at-2 c = omega (arith, room (goal.at.overflow_add-at-2 c).After-sheet)

pub cost_from-requires : goal.cost_from-requires
cost_from-requires c = omega (arith, room (goal.at.cost_from-requires c).After-sheet)

pub returns : goal.returns
returns c = corridor-is (held-is c.sheet.invariant c.sheet.view_is) c.args.k c.requires c.args.t.0 _ refl c.is_closed.ensures refl refl c.cost_from.ensures
