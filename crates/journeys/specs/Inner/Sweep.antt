-- What the functions that read the front off the chained rows of the goal promise each other. No exported contract cites this file.
use Rattle.std.specs.Prelude.{◌≡◌, ◌⊎◌, Bool, false, List, [], ◌∷◌, ◌++◌, map, ℕ, ◌+◌, ◌*◌, ◌-◌, ◌≤◌, ◌<◌, length, get_or, take, drop, Option}
use Rattle.sheet.specs.Lists.{◌∈◌, pick, number, any, bind, Lex, filled}
use Rattle.sheet.specs.Sorting.{Ascending}
use Rattle.costs.specs.Costs.{Cost, fig}
use Rattle.costs.specs.Computed.{at_most_b}
use Rattle.arrivals.specs.Rows.{cost_at, row_at}
use Rattle.journeys.specs.Computed.{front_of}
use Rattle.journeys.specs.Inner.{goal_rows, costs_of, first_step_of, NumberIs, offered_rows}
use Rattle.journeys.specs.Inner.Chain.{chain, Parted, Differ, InTable, rank}
use Rattle.journeys.specs.declared.chain.Gap.{Gap}
use Rattle.journeys.specs.declared.chain.Spot.{Spot}
use Rattle.journeys.specs.declared.front.Offered.{Offered}
use Rattle.journeys.specs.declared.front.Sweep.{Sweep}

-- some row of es is nowhere above row k
abbrev pub led_by : (ℕ → Cost) → List ℕ → ℕ → Bool
led_by c es k = any (λ e. at_most_b (c e) (c k)) es

-- the rows of ks, in their order, that neither a row of es nor one taken before is nowhere above
abbrev pub swept : (ℕ → Cost) → List ℕ → List ℕ → List ℕ
swept c es [] = []
swept c es (k ∷ ks) =
    let r = swept c es ks in
    let q = swept c (k ∷ es) ks in
    pick (led_by c es k) r (k ∷ q)

-- the third figure ascends along the stair
abbrev pub third : (ℕ → Cost) → ℕ → List ℕ
third c k = fig (c k) 2 ∷ []

pub record Climbable (xs : List ℕ) (top size k : ℕ) : Type 0 where
  pub room : k * 5 + 5 ≤ length xs
  pub rooms : (e : ℕ) → e ∈ chain xs size top → InTable xs e
  pub ascending : Ascending (third (cost_at xs)) (chain xs size top)

-- the gap of the stair before which the third figure is below row k's, and after which it is not
pub record Between (xs : List ℕ) (k : ℕ) (g : Gap) (ks : List ℕ) : Type 0 where
  pub before : List ℕ
  pub parted : Parted xs g ks before
  pub below : (e : ℕ) → e ∈ before → fig (cost_at xs e) 2 < fig (cost_at xs k) 2
  pub above : (e : ℕ) → e ∈ chain xs g.rest g.right → fig (cost_at xs k) 2 ≤ fig (cost_at xs e) 2

pub record Climbed (xs : List ℕ) (top size k : ℕ) (r : Spot) : Type 0 where
  pub led-is : r.led ≡ led_by (cost_at xs) (chain xs size top) k
  pub between : r.led ≡ false → Between xs k r.gap (chain xs size top)

abbrev pub stair_of : List ℕ → Sweep → List ℕ
stair_of xs s = chain xs s.size s.top

abbrev pub ahead_of : List ℕ → Sweep → List ℕ
ahead_of xs s = chain xs s.rest s.at

-- The table `base` is being swept: the rows es of the stair and those ahead, ks, are v's, xs is `base` but for their place column, every row of the
-- stair comes before every row ahead, and of the rows fs, which are the front's, `count` have been passed, the last of them `row`; the others are
-- those ahead that the stair leaves.
pub record SweepsOn (base : List ℕ) (v : ℕ) (xs es ks : List ℕ) (count row : ℕ) (fs : List ℕ) : Type 0 where
  pub ahead : Ascending (rank (cost_at base)) ks
  pub stair : Ascending (third (cost_at base)) es
  pub past : (e k : ℕ) → e ∈ es → k ∈ ks → Lex (rank (cost_at base) e) (rank (cost_at base) k)
  pub rows : (k : ℕ) → k ∈ (es ++ ks) → InTable base k × (number base (k * 5) ≡ v)
  pub differ : Differ base xs (es ++ ks)
  pub left : swept (cost_at base) es ks ≡ drop count fs
  pub within : count ≤ length fs
  pub last : 0 < count → row ≡ get_or fs (count - 1) 0
  pub rooms : (k : ℕ) → k ∈ fs → InTable base k

pub record Sweeps (base : List ℕ) (v : ℕ) (xs : List ℕ) (s : Sweep) (fs : List ℕ) : Type 0 where
  pub on : SweepsOn base v xs (stair_of xs s) (ahead_of xs s) s.count s.row fs
  pub few : s.size + s.rest ≤ 4294967295
  pub few-counted : s.count + s.rest ≤ 4294967295

pub record Sweepable (v : ℕ) (xs : List ℕ) (s : Sweep) : Type 0 where
  pub base : List ℕ
  pub fs : List ℕ
  pub sweeps : Sweeps base v xs s fs

-- the sweep goes on
pub record SweptOn (v : ℕ) (xs ys : List ℕ) (s r : Sweep) : Type 0 where
  pub of : (base fs : List ℕ) → Sweeps base v xs s fs → Sweeps base v ys r fs

-- by one row
pub record SweptOne (v : ℕ) (xs ys : List ℕ) (s r : Sweep) : Type 0 where
  pub on : SweptOn v xs ys s r
  pub less : r.rest + 1 ≡ s.rest
  pub more : (r.count ≡ s.count) ⊎ (r.count ≡ s.count + 1)

-- until so many rows are taken, or none is left
pub record SweptTo (v most : ℕ) (xs ys : List ℕ) (s r : Sweep) : Type 0 where
  pub on : SweptOn v xs ys s r
  pub end : (r.rest ≡ 0) ⊎ (most ≤ r.count)
  pub most-is : r.count ≤ most

-- the table is as it was before the sweep
pub record Undone (v : ℕ) (xs ys : List ℕ) (s : Sweep) : Type 0 where
  pub of : (base fs : List ℕ) → Sweeps base v xs s fs → ys ≡ base

-- fs are the rows of the front: the costs of the front, and with each the step of its first arrival
pub record FrontRows (v : ℕ) (counting : List ℕ) (n : ℕ) (base fs : List ℕ) : Type 0 where
  pub costs-are : map (cost_at base) fs ≡ front_of (costs_of (goal_rows v counting n base))
  pub steps-are : (k : ℕ) → k ∈ fs → (row_at base k).step ≡ first_step_of (cost_at base k) (goal_rows v counting n base)

pub record Begun (v : ℕ) (counting : List ℕ) (n : ℕ) (base xs : List ℕ) (s : Sweep) : Type 0 where
  pub fs : List ℕ
  pub front : FrontRows v counting n base fs
  pub sweeps : Sweeps base v xs s fs
  pub none_yet : s.count ≡ 0

-- a row of the front list
abbrev pub list_row : List ℕ → ℕ → List ℕ
list_row base k = cost_at base k ++ ((row_at base k).step ∷ [])

-- the list has room for the rows fs, and begins with the first i of them
pub record Listed (base fs : List ℕ) (i : ℕ) (list : List ℕ) : Type 0 where
  pub room : length fs * 4 ≤ length list
  pub stands : take (i * 4) list ≡ bind (take i fs) (list_row base)

pub record Listable (v : ℕ) (xs : List ℕ) (s : Sweep) (list : List ℕ) : Type 0 where
  pub base : List ℕ
  pub fs : List ℕ
  pub sweeps : Sweeps base v xs s fs
  pub listed : Listed base fs s.count list

pub record ListedOn (v : ℕ) (xs ys : List ℕ) (s r : Sweep) (list list' : List ℕ) : Type 0 where
  pub of : (base fs : List ℕ) → Sweeps base v xs s fs → Listed base fs s.count list → Sweeps base v ys r fs × Listed base fs r.count list'

pub record ListedOne (v : ℕ) (xs ys : List ℕ) (s r : Sweep) (list list' : List ℕ) : Type 0 where
  pub on : ListedOn v xs ys s r list list'
  pub less : r.rest + 1 ≡ s.rest

pub record ListedAll (v : ℕ) (xs ys : List ℕ) (s r : Sweep) (list list' : List ℕ) : Type 0 where
  pub on : ListedOn v xs ys s r list list'
  pub end : r.rest ≡ 0

-- what listing the front asks for
pub record ListableFront (v : ℕ) (counting : List ℕ) (n : ℕ) (xs list : List ℕ) : Type 0 where
  pub room : n * 5 ≤ length xs
  pub list-room : length (front_of (costs_of (goal_rows v counting n xs))) * 4 ≤ length list

-- the count of front costs; the front cost with a number; the list of the front. Each leaves the table as it was
pub record FrontCounted (v : ℕ) (counting : List ℕ) (n : ℕ) (xs ys : List ℕ) (r : ℕ) : Type 0 where
  pub counted : r ≡ length (front_of (costs_of (goal_rows v counting n xs)))
  pub kept : ys ≡ xs

pub record FrontNumbered (v : ℕ) (counting : List ℕ) (n : ℕ) (xs ys : List ℕ) (i : ℕ) (r : Option Offered) : Type 0 where
  pub numbered : NumberIs (goal_rows v counting n xs) i r
  pub kept : ys ≡ xs

pub record FrontListed (v : ℕ) (counting : List ℕ) (n : ℕ) (xs ys list list' : List ℕ) : Type 0 where
  pub listed : list' ≡ filled (length list) (offered_rows (goal_rows v counting n xs))
  pub kept : ys ≡ xs
