-- The live costs of the places, as one list of numbers. For each place v: at v the step past its newest rows, at 64 + v the number of costs in its list, at
-- 128 + v how many of them come before those of the newest rows, at 192 + v, where costs are added at this step, the number with them; and its list, from
-- 256 + v * 510 on, three figures for each. A cost in a list is what a row of the place comes to by waiting until step 255, so that rows of different steps
-- are compared without a look at their steps. Costs that a later row undercuts are left out.
use Rattle.std.specs.Prelude.{◌≡◌, Bool, true, false, ◌⊎◌, List, ℕ, ◌+◌, ◌*◌, ◌-◌, ◌^◌, ◌≤◌, ◌<◌, ltb, length, get_or, Option, Some, None, Ok, Err, ⊤}
use Rattle.std.specs.Int.Bits.{bit_or}
use Rattle.sheet.specs.Lists.{pick, numbers_from}
use Rattle.intervals.specs.Sets.{Has}
use Rattle.costs.specs.Costs.{Cost, figures, add, times, AtMost}
use Rattle.costs.specs.Priced.{Within}
use Rattle.arrivals.specs.Rows.{Row, row_at, cost_at, Besides, FiguresPut}
use Rattle.arrivals.specs.Inner.Rows.{rows_of, tail_of}
use Rattle.arrivals.specs.Inner.Network.{case_of, places_of, since_in, wait_in}
use Rattle.arrivals.specs.Inner.Entering.{LedAt, Ready}
use Rattle.arrivals.specs.Inner.Offering.{Sorted}
use Rattle.arrivals.specs.Inner.Filling.{Filled, Result, Visited}
use Rattle.arrivals.specs.Inner.Due.{Onward}
use Rattle.arrivals.specs.declared.network.Here.{Here}
use Rattle.arrivals.specs.declared.lists.Part.{Part}
use Rattle.arrivals.specs.declared.lists.Turn.{Turn}
use Rattle.arrivals.specs.Inner.Outcomes.{Outcome, StepOutcome, Ended}
use Rattle.arrivals.specs.declared.by_lists.Halt.{Halt}

abbrev pub past_of : List ℕ → ℕ → ℕ
past_of live v = get_or live v 0

abbrev pub size_of : List ℕ → ℕ → ℕ
size_of live v = get_or live (64 + v) 0

abbrev pub fresh_of : List ℕ → ℕ → ℕ
fresh_of live v = get_or live (128 + v) 0

abbrev pub new_of : List ℕ → ℕ → ℕ
new_of live v = get_or live (192 + v) 0

abbrev pub list_at : ℕ → ℕ
list_at v = 256 + v * 510

-- the numbers that the lists of so many places need
abbrev pub lists_room : ℕ → ℕ
lists_room places = 256 + places * 510

-- cost i from number `at` on
abbrev pub cost_in : List ℕ → ℕ → ℕ → Cost
cost_in live at i = numbers_from figures (at + i * 3) live

-- cost i in the list of place v
abbrev pub entry : List ℕ → ℕ → ℕ → Cost
entry live v i = cost_in live (list_at v) i

-- what cost g at step t comes to by waiting until step 255
abbrev pub stood : ℕ → Cost → Cost → Cost
stood t wait g = add g (times (255 - t) wait)

abbrev pub stood_row : Cost → Row → Cost
stood_row wait r = stood r.step wait r.cost

-- one of the costs of part p is nowhere above c
pub record LedIn (live : List ℕ) (p : Part) (c : Cost) : Type 0 where
  pub at : ℕ
  pub upto : at < p.n
  pub least : AtMost (cost_in live p.at at) c

-- the costs of part p show which costs the rows of xs below a lead at h
pub record Shows (live : List ℕ) (p : Part) (xs : List ℕ) (a : ℕ) (h : Here) : Type 0 where
  pub inside : p.at + p.n * 3 ≤ length live
  pub led : (g : Cost) → LedIn live p (stood h.step.0 h.wait g) → LedAt (rows_of xs a) h g
  pub shown : (g : Cost) → LedAt (rows_of xs a) h g → LedIn live p (stood h.step.0 h.wait g)

-- what is asked where costs are offered to the d rows at h from row a on, which stand in order
pub record Placeable (xs : List ℕ) (a d : ℕ) (h : Here) : Type 0 where
  pub room : (a + d) * 5 ≤ length xs
  pub ready : Ready xs a h
  pub sorted : Sorted (tail_of xs a d)

-- the costs of part p can be turned
pub record Turnable (live : List ℕ) (p : Part) (o : Turn) : Type 0 where
  pub inside : p.at + p.n * 3 ≤ length live
  pub small : (i : ℕ) → i < p.n → Within 100000000 (cost_in live p.at i)
  pub most : (i : ℕ) → i < p.n → AtMost o.over (cost_in live p.at i)
  pub cost : Within 60000 o.cost
  pub rest : Within 100000000 o.rest

-- a cost of part p, with what it has too much taken off and the crossing added, is g
pub record Brought (live : List ℕ) (p : Part) (o : Turn) (g : Cost) : Type 0 where
  pub at : ℕ
  pub upto : at < p.n
  pub left : Cost
  pub three : length left ≡ figures
  pub whole : add left o.over ≡ cost_in live p.at at
  pub sum : g ≡ add left o.cost

-- c is what a row of place v below n, not before step s, comes to
pub record Stems (net xs : List ℕ) (n v s : ℕ) (c : Cost) : Type 0 where
  pub at : ℕ
  pub inside : at < n
  pub place : (row_at xs at).place ≡ v
  pub late : s ≤ (row_at xs at).step
  pub sum : c ≡ stood_row (wait_in net v) (row_at xs at)

-- one of the costs of place v from f to m is nowhere above c
pub record Under (live : List ℕ) (v f m : ℕ) (c : Cost) : Type 0 where
  pub at : ℕ
  pub from : f ≤ at
  pub upto : at < m
  pub least : AtMost (entry live v at) c

-- the list of place v, for the rows below n, which are all before step t: where v has rows in the safe interval that holds step t - 1, the list stands for
-- them, and its costs from the fresh ones on for those of the newest step
pub record Listing (free net xs : List ℕ) (n : ℕ) (live : List ℕ) (t v : ℕ) : Type 0 where
  pub few : size_of live v ≤ 170
  pub fresh : fresh_of live v ≤ size_of live v
  pub soon : past_of live v ≤ t
  pub newest : (k : ℕ) → k < n → (row_at xs k).place ≡ v → (row_at xs k).step < past_of live v
  pub stems : since_in free v (t - 1) < past_of live v → (i : ℕ) → i < size_of live v → Stems net xs n v (since_in free v (t - 1)) (entry live v i)
  pub whole : since_in free v (t - 1) < past_of live v → (k : ℕ) → k < n → (row_at xs k).place ≡ v → since_in free v (t - 1) ≤ (row_at xs k).step
      → Under live v 0 (size_of live v) (stood_row (wait_in net v) (row_at xs k))
  pub new : since_in free v (t - 1) < past_of live v → (k : ℕ) → k < n → (row_at xs k).place ≡ v → (row_at xs k).step + 1 ≡ past_of live v
      → Under live v (fresh_of live v) (size_of live v) (stood_row (wait_in net v) (row_at xs k))

-- the lists of all places, for the rows below m; the rows from m to n are of step t
pub record Sourcing (free net xs : List ℕ) (m n : ℕ) (live : List ℕ) (t : ℕ) : Type 0 where
  pub size : lists_room (places_of net) ≤ length live
  pub upto : m ≤ n
  pub later : (k : ℕ) → m ≤ k → k < n → (row_at xs k).step ≡ t
  pub lists : (v : ℕ) → v < places_of net → Listing free net xs m live t v

-- the same, whatever rows came before step t
pub record Sources (free net xs : List ℕ) (n : ℕ) (live : List ℕ) (t : ℕ) : Type 0 where
  pub rows : ℕ
  pub sourcing : Sourcing free net xs rows n live t

-- the costs of place v that count at h
pub record OwnIs (live : List ℕ) (h : Here) (p : Part) : Type 0 where
  pub at : p.at ≡ list_at h.place.0
  pub n : ((past_of live h.place.0 ≤ h.since.0) × (p.n ≡ 0)) ⊎ ((h.since.0 < past_of live h.place.0) × (p.n ≡ size_of live h.place.0))

-- the costs of the newest rows of place v, or all of its costs
abbrev pub PartIs : List ℕ → ℕ → Bool → Part → Type 0
PartIs live v newest p =
    (newest ≡ true → (p.at ≡ list_at v + fresh_of live v * 3) × (p.n ≡ size_of live v - fresh_of live v)) × (newest ≡ false → (p.at ≡ list_at v) × (p.n ≡ size_of live v))

-- all numbers but those of place v that a visit may write are the same
pub record Aside (live after : List ℕ) (v : ℕ) : Type 0 where
  pub size : length after ≡ length live
  pub same : (j : ℕ) → (j ≡ 192 + v → ⊥) → (j < list_at v + size_of live v * 3) ⊎ (list_at v + 510 ≤ j) → get_or after j 0 ≡ get_or live j 0

-- the costs that are added to place v are those of the rows from lo to hi
pub record Pending (net xs live : List ℕ) (v lo hi : ℕ) : Type 0 where
  pub size : new_of live v ≡ size_of live v + (hi - lo)
  pub few : new_of live v ≤ 170
  pub each : (i : ℕ) → i < hi - lo → entry live v (size_of live v + i) ≡ stood_row (wait_in net v) (row_at xs (lo + i))

-- the d rows at h from row n on are added to the costs of the place, unless there is no room
pub record NewIn (xs : List ℕ) (n d : ℕ) (live after : List ℕ) (h : Here) (r : Bool) : Type 0 where
  pub size : length after ≡ length live
  pub aside : r ≡ true → Aside live after h.place.0
  pub more : r ≡ true → new_of after h.place.0 ≡ size_of live h.place.0 + d
  pub few : r ≡ true → size_of live h.place.0 + d ≤ 170
  pub each : r ≡ true → (i : ℕ) → i < d → entry after h.place.0 (size_of live h.place.0 + i) ≡ stood h.step.0 h.wait (cost_at xs (n + i))

-- what a visit of place v at step t leaves, unless it gives up
pub record LiveVisited (free net xs ys live after : List ℕ) (n v t : ℕ) (o : Outcome) : Type 0 where
  pub size : length after ≡ length live
  pub below : (j : ℕ) → j < n * 5 → get_or ys j 0 ≡ get_or xs j 0
  pub visited : o.ok ≡ true → Visited (case_of free net) xs ys n v t o
  pub aside : o.ok ≡ true → Aside live after v
  pub pending : o.ok ≡ true → n < o.rows → Pending net ys after v n o.rows

-- the fresh costs of place v are among its costs
pub record FreshIn (live : List ℕ) (v : ℕ) : Type 0 where
  pub upto : fresh_of live v ≤ size_of live v

-- the costs of the d rows from row `from` on are modest
pub record Modest (xs : List ℕ) (from d : ℕ) : Type 0 where
  pub each : (i : ℕ) → i < d → Within 100000000 (cost_at xs (from + i))

-- the d rows from row `from` on, with `rest` added, stand from number `at` on
pub record Appended (xs : List ℕ) (from d : ℕ) (live after : List ℕ) (at : ℕ) (rest : Cost) : Type 0 where
  pub others : Besides at (at + d * 3) live after
  pub each : (i : ℕ) → i < d → cost_in after at i ≡ add (cost_at xs (from + i)) rest

-- cost i is kept as cost k, or is dropped
pub record RetainedOne (live after : List ℕ) (at i k : ℕ) (by : Part) (r : ℕ) : Type 0 where
  pub way : ((r ≡ k) × (after ≡ live) × LedIn live by (cost_in live at i)) ⊎ ((r ≡ k + 1) × FiguresPut (at + k * 3) (cost_in live at i) live after)

-- cost j of those before is one of the k costs after
pub record Among (live after : List ℕ) (at k j : ℕ) : Type 0 where
  pub place : ℕ
  pub upto : place < k
  pub same : cost_in after at place ≡ cost_in live at j

-- cost i of those after is one of the n costs before
pub record Came (live after : List ℕ) (at n i : ℕ) : Type 0 where
  pub place : ℕ
  pub upto : place < n
  pub same : cost_in after at i ≡ cost_in live at place

-- of the first i of n costs k are kept, and the others are led by one of the m after the n
pub record RetainedTo (live after : List ℕ) (at n m i k : ℕ) : Type 0 where
  pub most : k ≤ i
  pub others : Besides at (at + i * 3) live after
  pub came : (j : ℕ) → j < k → Came live after at i j
  pub each : (j : ℕ) → j < i → Among live after at k j ⊎ LedIn live (record { at = at + n * 3; n = m }) (cost_in live at j)

abbrev pub Retained : List ℕ → List ℕ → ℕ → ℕ → ℕ → ℕ → Type 0
Retained live after at n m k = RetainedTo live after at n m n k

-- n costs are moved down
pub record Shifted (live after : List ℕ) (from to n : ℕ) : Type 0 where
  pub others : Besides to (from + n * 3) live after
  pub each : (i : ℕ) → i < n → cost_in after to i ≡ cost_in live from i

-- the numbers of place v before the lists are written
pub record Headed (live after : List ℕ) (v p n f : ℕ) : Type 0 where
  pub length : length after ≡ length live
  pub past : past_of after v ≡ p
  pub size : size_of after v ≡ n
  pub fresh : fresh_of after v ≡ f
  pub others : (j : ℕ) → (j ≡ v → ⊥) → (j ≡ 64 + v → ⊥) → (j ≡ 128 + v → ⊥) → get_or after j 0 ≡ get_or live j 0

-- a cost of the list after it is settled, among those before
pub record Kept (live after : List ℕ) (v f m j : ℕ) : Type 0 where
  pub at : ℕ
  pub from : f ≤ at
  pub upto : at < m
  pub same : entry after v at ≡ entry live v j

pub record Origin (live after : List ℕ) (v s i : ℕ) : Type 0 where
  pub at : ℕ
  pub upto : at < new_of live v
  pub old : at < size_of live v → s < past_of live v
  pub same : entry after v i ≡ entry live v at

-- the list of place v is settled at step t, where the safe interval of v began at step s
pub record Settled (live after : List ℕ) (v s t : ℕ) : Type 0 where
  pub past : past_of after v ≡ t + 1
  pub few : size_of after v ≤ new_of live v
  pub fresh : fresh_of after v ≤ size_of after v
  pub origin : (i : ℕ) → i < size_of after v → Origin live after v s i
  pub new : (j : ℕ) → size_of live v ≤ j → j < new_of live v → Kept live after v (fresh_of after v) (size_of after v) j
  pub old : s < past_of live v → (j : ℕ) → j < size_of live v
      → Kept live after v 0 (size_of after v) j ⊎ Under live v (size_of live v) (new_of live v) (entry live v j)

-- the numbers of place v are the same
pub record SameAt (live after : List ℕ) (v : ℕ) : Type 0 where
  pub past : past_of after v ≡ past_of live v
  pub size : size_of after v ≡ size_of live v
  pub fresh : fresh_of after v ≡ fresh_of live v
  pub new : new_of after v ≡ new_of live v
  pub list : (j : ℕ) → j < 510 → get_or after (list_at v + j) 0 ≡ get_or live (list_at v + j) 0

-- what settling place v leaves
pub record SettledOne (live after : List ℕ) (v s t : ℕ) : Type 0 where
  pub size : length after ≡ length live
  pub own : Settled live after v s t
  pub others : (w : ℕ) → w < 64 → (w ≡ v → ⊥) → SameAt live after w

-- what is asked where place v is settled
pub record Settleable (live : List ℕ) (v : ℕ) : Type 0 where
  pub room : list_at v + 510 ≤ length live
  pub order : size_of live v ≤ new_of live v
  pub few : new_of live v ≤ 170

-- every place of a set can be settled
pub record AllSettleable (live : List ℕ) (set places : ℕ) : Type 0 where
  pub each : (v : ℕ) → v < places → Has set v → Settleable live v

-- the places of a set below u are settled at step t, and all others are the same
pub record SettledTo (free live after : List ℕ) (set u t : ℕ) : Type 0 where
  pub size : length after ≡ length live
  pub done : (v : ℕ) → v < u → v < 64 → Has set v → Settled live after v (since_in free v t) t
  pub others : (v : ℕ) → v < 64 → (v < u → Has set v → ⊥) → SameAt live after v

-- what filling in step t by the lists leaves, unless it gives up
pub record LiveStepped (free net xs ys : List ℕ) (n : ℕ) (live : List ℕ) (t : ℕ) (o : StepOutcome) : Type 0 where
  pub below : (j : ℕ) → j < n * 5 → get_or ys j 0 ≡ get_or xs j 0
  pub result : o.ok ≡ true → Result (case_of free net) ys (t + 1) 0 true o.rows
  pub sourcing : o.ok ≡ true → Sourcing free net ys o.rows o.rows live (t + 1)
  pub onward : o.ok ≡ true → Onward net ys o.rows (t + 1) o.next

-- the set with place v, if there are new rows of v
abbrev pub grown_by : ℕ → ℕ → ℕ → ℕ → ℕ
grown_by set v n m = pick (ltb n m) (bit_or set (2 ^ v)) set

-- the first row and its cost, unless there is no room
pub record StartLive (free net xs live : List ℕ) (o : Outcome) : Type 0 where
  pub result : o.ok ≡ true → Result (case_of free net) xs 1 0 true o.rows
  pub sourcing : o.ok ≡ true → Sourcing free net xs o.rows o.rows live 1

-- all is filled in before step t, from which the search can go on
pub record Halted (free net xs : List ℕ) (last n t : ℕ) : Type 0 where
  pub upto : t ≤ last
  pub room : n * 5 ≤ length xs
  pub filled : Filled (case_of free net) (rows_of xs n) t 0

-- the step from which the search can go on, if there is one
abbrev pub Resumable : List ℕ → List ℕ → List ℕ → ℕ → Option Halt → Type 0
Resumable free net xs last None = ⊤
Resumable free net xs last (Some h) = (1 ≤ h.step.0) × Halted free net xs last h.rows h.step.0

-- what the search by lists leaves
abbrev pub Found : List ℕ → List ℕ → List ℕ → ℕ → Ended → Type 0
Found free net xs last (Ok n) = Result (case_of free net) xs (last + 1) 0 true n
Found free net xs last (Err h) = Resumable free net xs last h
