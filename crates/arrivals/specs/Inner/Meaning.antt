-- The case that a search is given is that of the sheet. What that comes to is in proofs/Meaning.antt: the rows of a finished search are exactly the leading
-- arrivals, and those of one that is under way are leading arrivals.
use Rattle.std.specs.Prelude.{◌≡◌, Bool, true, ℕ, ◌≤◌, ◌<◌}
use Rattle.sheet.specs.Sheet.{Sheet, steps, start}
use Rattle.sheet.specs.Laws.Decided.{In}
use Rattle.costs.specs.Costs.{Cost}
use Rattle.costs.specs.Moves.{wait_of, Crossing}
use Rattle.intervals.specs.Intervals.{Free, Run}
use Rattle.arrivals.specs.Inner.Network.{Link, openb, Case, since, Vacant}

-- a corridor of the case leads from u to v at cost c and is open at step t
pub record Listed (k : Case) (u v t : ℕ) (c : Cost) : Type 0 where
  pub opens : ℕ → Bool
  pub open-then : opens t ≡ true
  pub has : In (record { from = u; to = v; cost = c; opens = opens }) k.links

-- the case is that of the sheet: its free runs within the horizon, its corridors, its waiting cost, its places and its start
pub record Fits (s : Sheet) (k : Case) : Type 0 where
  pub free : (v t : ℕ) → v < k.places → t ≤ steps s → Vacant k v t → Free s v t
  pub vacant : (v t : ℕ) → v < k.places → t ≤ steps s → Free s v t → Vacant k v t
  pub runs : (v u t : ℕ) → v < k.places → t ≤ steps s → since k v t ≤ u → u ≤ t → since k v u ≡ since k v t
  pub soonest : (v u t : ℕ) → v < k.places → t ≤ steps s → u ≤ t → Run s v u t → since k v t ≤ u
  pub crossing : (l : Link) → In l k.links → (t : ℕ) → openb l t ≡ true → Crossing s l.from l.to t l.cost
  pub listed : (u v t : ℕ) (c : Cost) → Crossing s u v t c → Listed k u v t c
  pub from : (l : Link) → In l k.links → l.from < k.places
  pub into : (l : Link) → In l k.links → l.to < k.places
  pub wait : (v : ℕ) → v < k.places → wait_of s v ≡ k.wait v
  pub start : k.start ≡ start s
  pub start-place : k.start < k.places
