-- `costs::end_of` meets its contract: the first two numbers of line k are the corridor's ends.
-- Assumes nothing.
use mathlib.Core.Path.{◌≡◌}
use native.Mathlib.Omega.{arith}
use Prim.Native.Nat.{◌<◌}
use lib.ListN.{length}
use Rattle.sheet.specs.Store.{store_room}
use Rattle.sheet.proofs.HeldSheets.{held-is}
use Rattle.costs.proofs.Crossings.{whole-store, line-few, end_is}
use Rattle.costs.proofs.end_of.Goals as goal
use Rattle.costs.proofs.end_of.Goals.{After-sheet}

-- line k is one of 256, in an array of full length
room : (c : After-sheet) → (c.args.k < 256) × (length c.sheet.inside.all.now ≡ store_room) × (c.args.q < 2)
room c = let S = held-is c.sheet.invariant c.sheet.view_is in (line-few S _ c.requires.0, whole-store S, c.requires.1)

pub overflow_mul-result : goal.overflow_mul-result
overflow_mul-result c = omega (arith, room (goal.at.overflow_mul-result c).After-sheet)

pub overflow_add-result : goal.overflow_add-result
overflow_add-result c = omega (arith, room (goal.at.overflow_add-result c).After-sheet)

pub overflow_add-result-2 : goal.overflow_add-result-2
overflow_add-result-2 c = omega (arith, room (goal.at.overflow_add-result-2 c).After-sheet)

pub offset_bounds-all-k : goal.offset_bounds-all-k
offset_bounds-all-k c = omega (arith, room (goal.at.offset_bounds-all-k c).After-sheet)

pub bounds-all-k : goal.bounds-all-k
bounds-all-k c = omega (arith, room (goal.at.bounds-all-k c).After-sheet)

pub returns : goal.returns
returns c = end_is (held-is c.sheet.invariant c.sheet.view_is) c.args.k c.requires.0 c.args.q c.requires.1
