-- The lawful journeys and the front of a sheet, enumerated. Need not be believed: Laws.Journeys and Laws.Front say that the lists hold exactly the journeys
-- and the front costs, in order, and that `journey_of` is the journey that the tie rule selects.
use Rattle.std.specs.Prelude.{Bool, ◌&&◌, not, List, [], ◌∷◌, ◌++◌, map, reverse, ℕ, zero, suc, ◌-◌, eqb, length}
use Rattle.sheet.specs.Lists.{filter, all}
use Rattle.sheet.specs.Sorting.{sortUnique}
use Rattle.sheet.specs.Sheet.{Sheet, steps, goal, unload}
use Rattle.costs.specs.Costs.{Cost}
use Rattle.costs.specs.Computed.{sameb, dominatesb}
use Rattle.intervals.specs.Computed.{stayb}
use Rattle.arrivals.specs.Computed.{Walk, walks}
use Rattle.journeys.specs.Journeys.{rank}

unfoldable pub countsb : Sheet → ℕ → Bool
unfolding stayb
countsb s t = stayb s (goal s) (steps s) (unload s) t

-- the enumeration: the ways of t steps that end at the goal, where t counts
abbrev pub at_goal : Sheet → ℕ → Walk → Bool
at_goal s t w = let c = countsb s t in eqb w.at (goal s) && c

-- every lawful journey of at most t steps
unfoldable pub journeys_to : Sheet → ℕ → List Walk
unfolding walks countsb
journeys_to s zero = filter (at_goal s zero) (walks s zero)
journeys_to s (suc t) = journeys_to s t ++ filter (at_goal s (suc t)) (walks s (suc t))

unfoldable pub journeys : Sheet → List Walk
unfolding journeys_to
journeys s = journeys_to s (steps s)

-- a way's places from step 0 on
abbrev pub path_of : Walk → List ℕ
path_of w = reverse (w.at ∷ w.before)

abbrev pub with_cost : Cost → Walk → Bool
with_cost g w = sameb w.cost g

abbrev pub head_or : List ℕ → List (List ℕ) → List ℕ
head_or d [] = d
head_or d (p ∷ l) = p

-- the journey that the tie rule selects for the cost g
unfoldable pub journey_of : Sheet → Cost → List ℕ
unfolding journeys
journey_of s g = head_or [] (sortUnique rank (map path_of (filter (with_cost g) (journeys s))))

-- its arrival step
unfoldable pub arrival_of : Sheet → Cost → ℕ
unfolding journey_of
arrival_of s g = length (journey_of s g) - 1

-- costs are put in order by their figures
abbrev pub self : Cost → Cost
self g = g

abbrev pub undominatedb : List Cost → Cost → Bool
undominatedb l g = all (λ h. not (dominatesb h g)) l

-- the costs of the list that none of it dominates, ascending, each once
unfoldable pub front_of : List Cost → List Cost
front_of l = let k = sortUnique self l in filter (undominatedb k) k

unfoldable pub front : Sheet → List Cost
unfolding front_of journeys
front s = front_of (map (λ w. w.cost) (journeys s))
