-- The ways, the arrivals and the leading arrivals of a sheet, enumerated. Need not be believed: Laws.Trails and proofs/Leading.antt say that the lists hold
-- exactly the ways, `Arrives` and `Leading`, in order (`leading-is`, `is_leading`, `leading-ascending`).
use Rattle.std.specs.Prelude.{List, ◌∷◌, map, ◌++◌, [], ℕ, zero, suc, ◌-◌, Bool, not, ◌&&◌, eqb, leb}
use Rattle.sheet.specs.Lists.{keep, filter, bind, all}
use Rattle.sheet.specs.Sorting.{sortUnique}
use Rattle.sheet.specs.Sheet.{Sheet, start, to, steps}
use Rattle.costs.specs.Costs.{Cost, zero_cost, add, times}
use Rattle.costs.specs.Computed.{at_most_b, sameb, leaving}
use Rattle.costs.specs.Moves.{wait_of, cost_of}
use Rattle.intervals.specs.Intervals.{freeb}
use Rattle.intervals.specs.Computed.{runb}
use Rattle.arrivals.specs.Arrivals.{Arrival, key_of}

-- the arrival at place v and step t with cost g
abbrev pub arrival : ℕ → ℕ → Cost → Arrival
arrival v t g = record { place = v; step = t; cost = g }

-- the cost g after n steps of waiting at v
abbrev pub waited : Sheet → ℕ → ℕ → Cost → Cost
waited s v n g = add g (times n (wait_of s v))

-- the enumeration: a way by its last place, the places before it (the last step first) and its cost
pub record Walk : Type 0 where
  pub at : ℕ
  pub before : List ℕ
  pub cost : Cost

pub record Target : Type 0 where
  pub to : ℕ
  pub cost : Cost

abbrev pub across : List ℕ → Target
across k = record { to = to k; cost = cost_of k }

-- every place and cost to which a cart at u can move at step t, occupied or not
unfoldable pub targets : Sheet → ℕ → ℕ → List Target
unfolding leaving cost_of wait_of
targets s u t = record { to = u; cost = wait_of s u } ∷ map across (leaving s u t)

abbrev pub onward : Walk → Target → Walk
onward w m = record { at = m.to; before = w.at ∷ w.before; cost = add w.cost m.cost }

-- the way w, which ends at step t, with each next step
unfoldable pub grow : Sheet → ℕ → Walk → List Walk
unfolding targets freeb
grow s t w = map (onward w) (filter (λ m. freeb s m.to (suc t)) (targets s w.at t))

-- every way of t steps
unfoldable pub walks : Sheet → ℕ → List Walk
unfolding grow freeb
walks s zero = keep (freeb s (start s) 0) (record { at = start s; before = []; cost = zero_cost }) []
walks s (suc t) = bind (walks s t) (grow s t)

-- the same, computed
unfoldable pub leadsb : Sheet → Arrival → Arrival → Bool
unfolding freeb wait_of
leadsb s a b =
    let d = not (sameb (key_of a) (key_of b)) in
    let r = runb s b.place a.step (b.step - a.step) in
    let g = at_most_b (waited s b.place (b.step - a.step) a.cost) b.cost in
    let m = leb b.step (steps s) in
    let n = g && d && m && r in
    let o = leb a.step b.step && n in
    eqb a.place b.place && o

abbrev pub at_step : ℕ → Walk → Arrival
at_step t w = arrival w.at t w.cost

-- the arrivals of the ways of at most t steps
unfoldable pub arrivals_to : Sheet → ℕ → List Arrival
unfolding walks
arrivals_to s zero = map (at_step zero) (walks s zero)
arrivals_to s (suc t) = arrivals_to s t ++ map (at_step (suc t)) (walks s (suc t))

-- every arrival, ascending, each once
unfoldable pub arrivals : Sheet → List Arrival
unfolding arrivals_to
arrivals s = sortUnique key_of (arrivals_to s (steps s))

-- no arrival of the list leads a
unfoldable pub unledb : Sheet → List Arrival → Arrival → Bool
unfolding leadsb
unledb s l a = all (λ b. not (leadsb s b a)) l

-- the leading arrivals, ascending by step, place, cost
unfoldable pub leading : Sheet → List Arrival
unfolding arrivals unledb
leading s = filter (unledb s (arrivals s)) (arrivals s)
