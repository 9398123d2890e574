-- What the functions of costs ask of figures, and what they answer about a corridor. Laws.Moves says that a crossing is by one of the corridors.
use Rattle.std.specs.Prelude.{◌≡◌, [], ℕ, ◌≤◌, ◌<◌, length, get_or}
use Rattle.sheet.specs.Sheet.{Sheet, from, to}
use Rattle.sheet.specs.Laws.Decided.{Decided}
use Rattle.costs.specs.Costs.{Cost, fig}
use Rattle.costs.specs.Moves.{cost_of, Closed}
use Rattle.costs.specs.declared.Corridor.{Corridor}

-- no figure is above m
pub record Within (m : ℕ) (a : Cost) : Type 0 where
  pub every : (i : ℕ) → fig a i ≤ m

-- corridor k of the sheet leads from u to v at cost c, for a cart that departs at step t, and is not closed then
pub record CrossingBy (s : Sheet) (k u v t : ℕ) (c : Cost) : Type 0 where
  pub listed : k < length s.corridors
  pub leaves : from (get_or s.corridors k []) ≡ u
  pub enters : to (get_or s.corridors k []) ≡ v
  pub price : c ≡ cost_of (get_or s.corridors k [])
  pub opens : Closed s u v t → ⊥

-- r is corridor k: its ends, its cost, and whether it is open for a cart that departs at step t
pub record CorridorIs (s : Sheet) (k t : ℕ) (r : Corridor) : Type 0 where
  pub listed : k < length s.corridors
  pub leaves : r.from.0 ≡ from (get_or s.corridors k [])
  pub enters : r.to.0 ≡ to (get_or s.corridors k [])
  pub price : r.cost ≡ cost_of (get_or s.corridors k [])
  pub opens : Decided (Closed s r.from.0 r.to.0 t → ⊥) r.open
