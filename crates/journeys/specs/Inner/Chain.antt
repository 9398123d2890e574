-- Chains of rows of the arrivals table, and what the functions over them promise each other: a row's place column holds the number of the next row.
-- No exported contract cites this file.
use Rattle.std.specs.Prelude.{◌≡◌, Bool, true, false, List, [], ◌∷◌, ◌++◌, ℕ, zero, suc, ◌+◌, ◌*◌, ◌-◌, ◌≤◌, ◌<◌, eqb, length, set}
use Rattle.sheet.specs.Lists.{◌∈◌, pick, number}
use Rattle.sheet.specs.Computed.{lexb}
use Rattle.sheet.specs.Sorting.{Ascending}
use Rattle.costs.specs.Costs.{Cost, fig, AtMost}
use Rattle.costs.specs.Computed.{at_most_b}
use Rattle.arrivals.specs.Rows.{cost_at, row_at}
use Rattle.journeys.specs.Inner.{is_goal_row}
use Rattle.journeys.specs.declared.chain.Gap.{Gap}
use Rattle.journeys.specs.declared.chain.Spot.{Spot}

-- the n rows of the chain that begins with row `at`
abbrev pub chain : List ℕ → ℕ → ℕ → List ℕ
chain xs zero at = []
chain xs (suc n) at = at ∷ chain xs n (number xs (at * 5))

-- the rows ls, the last first, lead from row `first` on to row `at`
abbrev pub Back : List ℕ → ℕ → List ℕ → ℕ → Type 0
Back xs first [] at = first ≡ at
Back xs first (l ∷ ls) at = (number xs (l * 5) ≡ at) × Back xs first ls l

-- the rows ls, the last first, and after them the rows rs
abbrev pub onto : List ℕ → List ℕ → List ℕ
onto [] rs = rs
onto (l ∷ ls) rs = onto ls (l ∷ rs)

-- a is the first of the rows, if there is one
abbrev pub Heads : ℕ → List ℕ → Type 0
Heads a [] = Unit {0}
Heads a (l ∷ ls) = a ≡ l

-- each row once
abbrev pub Once : List ℕ → Type 0
Once [] = Unit {0}
Once (k ∷ ks) = (k ∈ ks → ⊥) × Once ks

-- ys is xs but for the place column of the rows ks
pub record Differ (xs ys ks : List ℕ) : Type 0 where
  pub same_length : length ys ≡ length xs
  pub kept : (j : ℕ) → ((k : ℕ) → k ∈ ks → j ≡ k * 5 → ⊥) → number ys j ≡ number xs j

-- the table has the row k
pub record InTable (xs : List ℕ) (k : ℕ) : Type 0 where
  pub room : k * 5 + 5 ≤ length xs

-- the gap stands after the rows ls, the last first, in the chain ks
pub record Parted (xs : List ℕ) (g : Gap) (ks ls : List ℕ) : Type 0 where
  pub count : length ls + g.rest ≡ g.rows
  pub back : Back xs g.first ls g.right
  pub left_is : Heads g.left ls
  pub whole : onto ls (chain xs g.rest g.right) ≡ ks

-- the gap stands in the chain ks
pub record Stands (xs : List ℕ) (g : Gap) (ks : List ℕ) : Type 0 where
  pub before : List ℕ
  pub parted : Parted xs g ks before

-- the gap before a chain; the gap one row further on; the gap when the row after it has gone
abbrev pub start_of : ℕ → ℕ → Gap
start_of first rows = record { first = first; rows = rows; left = 0; rest = rows; right = first }

abbrev pub next_of : List ℕ → Gap → Gap
next_of xs g = record { first = g.first; rows = g.rows; left = g.right; rest = g.rest - 1; right = number xs (g.right * 5) }

abbrev pub less_of : List ℕ → Gap → Gap
less_of xs g = record { first = g.first; rows = g.rows - 1; left = g.left; rest = g.rest - 1; right = number xs (g.right * 5) }

-- the table with row k put into the gap, and the gap after it
abbrev pub link_in : List ℕ → Gap → ℕ → List ℕ
link_in xs g k = let ys = set xs (k * 5) g.right in pick (eqb g.rest g.rows) ys (set ys (g.left * 5) k)

abbrev pub in_gap : Gap → ℕ → Gap
in_gap g k = record { first = pick (eqb g.rest g.rows) k g.first; rows = g.rows + 1; left = k; rest = g.rest; right = g.right }

pub record Linkable (xs : List ℕ) (g : Gap) (k : ℕ) : Type 0 where
  pub room : k * 5 + 5 ≤ length xs
  pub left-room : (g.rest ≡ g.rows → ⊥) → g.left * 5 + 5 ≤ length xs
  pub few : g.rows ≤ 4294967295

-- rows after the gap, each once
pub record Releasable (xs : List ℕ) (g : Gap) : Type 0 where
  pub rooms : (k : ℕ) → k ∈ chain xs g.rest g.right → InTable xs k
  pub once : Once (chain xs g.rest g.right)
  pub few : g.rest ≤ g.rows

-- the first rows after the gap g have gone: v stands in their place column, and r is the gap before the others; none of them is below the bound
pub record Gone (v bound : ℕ) (xs ys : List ℕ) (g r : Gap) : Type 0 where
  pub gone : List ℕ
  pub parts : chain xs g.rest g.right ≡ gone ++ chain ys r.rest r.right
  pub freed : (d : ℕ) → d ∈ gone → number ys (d * 5) ≡ v
  pub differ : Differ xs ys gone
  pub dear : (d : ℕ) → d ∈ gone → bound ≤ fig (cost_at xs d) 1
  pub same_first : r.first ≡ g.first
  pub same_left : r.left ≡ g.left
  pub fewer : r.rows + g.rest ≡ g.rows + r.rest
  pub least : r.rest ≤ g.rest

-- and the next one is
pub record Released (v bound : ℕ) (xs ys : List ℕ) (g r : Gap) : Type 0 where
  pub rows : Gone v bound xs ys g r
  pub cheap : 0 < r.rest → fig (cost_at ys r.right) 1 < bound

-- rows go by their costs, those of equal cost by their numbers
abbrev pub rank : (ℕ → Cost) → ℕ → List ℕ
rank c k = c k ++ (k ∷ [])

-- a gap in a chain of rows of the table
pub record Seekable (xs : List ℕ) (g : Gap) : Type 0 where
  pub ks : List ℕ
  pub stands : Stands xs g ks
  pub rooms : (j : ℕ) → j ∈ ks → InTable xs j

-- r is a gap of the same chain, and the cost c is not before the row before it
pub record SoughtFrom (xs : List ℕ) (g : Gap) (c : Cost) (r : Gap) : Type 0 where
  pub stands : (ks : List ℕ) → Stands xs g ks → Stands xs r ks
  pub same_rows : r.rows ≡ g.rows
  pub left_below : (r.rest ≡ r.rows → ⊥) → lexb c (cost_at xs r.left) ≡ false

-- and the row after it is nowhere above c, or c is before it
pub record Sought (xs : List ℕ) (g : Gap) (c : Cost) (r : Spot) : Type 0 where
  pub from : SoughtFrom xs g c r.gap
  pub by_right : r.led ≡ true → (0 < r.gap.rest) × (at_most_b (cost_at xs r.gap.right) c ≡ true)
  pub right-above : r.led ≡ false → 0 < r.gap.rest → lexb c (cost_at xs r.gap.right) ≡ true

-- a row of ks, which is k or stands before it in the table, is nowhere above row k
pub record Covered (c : ℕ → Cost) (ks : List ℕ) (k : ℕ) : Type 0 where
  pub by : ℕ
  pub member : by ∈ ks
  pub no-later : by ≤ k
  pub at_most : AtMost (c by) (c k)

-- ks are some of the goal's rows among the first n of the table `base`, in order, and cover all of them; xs is that table but for their place column
pub record Ordered (v : ℕ) (counting : List ℕ) (n : ℕ) (base xs ks : List ℕ) : Type 0 where
  pub ascending : Ascending (rank (cost_at base)) ks
  pub are : (k : ℕ) → k ∈ ks → (k < n) × (is_goal_row v counting (row_at base k) ≡ true)
  pub all : (k : ℕ) → k < n → is_goal_row v counting (row_at base k) ≡ true → Covered (cost_at base) ks k
  pub differ : Differ base xs ks

-- and the gap stands in their chain
pub record Ordering (v : ℕ) (counting : List ℕ) (n : ℕ) (base xs : List ℕ) (g : Gap) : Type 0 where
  pub ks : List ℕ
  pub stands : Stands xs g ks
  pub ordered : Ordered v counting n base xs ks
  pub few : g.rows ≤ n

-- the goal's rows before row n are so ordered, for some goal
pub record Orderable (n : ℕ) (xs : List ℕ) (g : Gap) : Type 0 where
  pub small : n < 4294967295
  pub room : n * 5 + 5 ≤ length xs
  pub v : ℕ
  pub counting : List ℕ
  pub base : List ℕ
  pub ordering : Ordering v counting n base xs g

-- and with row n, if that is one of the goal's
pub record OrderedIn (n : ℕ) (xs ys : List ℕ) (g r : Gap) : Type 0 where
  pub of : (v : ℕ) (told : List ℕ) (base : List ℕ) → Ordering v told n base xs g → is_goal_row v told (row_at xs n) ≡ true → Ordering v told (n + 1) base ys r

-- the chain covers the goal's rows
pub record OrderedAll (v : ℕ) (counting : List ℕ) (n : ℕ) (xs ys : List ℕ) (r : Gap) : Type 0 where
  pub ordered : Ordered v counting n xs ys (chain ys r.rows r.first)
  pub few : r.rows ≤ n
