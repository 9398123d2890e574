-- What the functions that mark rows promise. No exported contract cites this file.
use Rattle.std.specs.Prelude.{◌≡◌, ◌⊎◌, Bool, true, List, ℕ, ◌+◌, ◌-◌, ◌*◌, ◌≤◌, ◌<◌, length, get_or}
use Rattle.sheet.specs.Sheet.{Sheet}
use Rattle.costs.specs.Costs.{Cost, add}
use Rattle.costs.specs.Moves.{wait_of}
use Rattle.costs.specs.Priced.{CrossingBy}
use Rattle.intervals.specs.Intervals.{Run}
use Rattle.arrivals.specs.Arrivals.{Arrival}
use Rattle.arrivals.specs.Computed.{arrival}
use Rattle.journeys.specs.Inner.Lookup.{place_at, mark_at, stand_at}
use Rattle.journeys.specs.Inner.Waits.{Rowed}
use Rattle.journeys.specs.Laws.Exact.{kept, Stays}
use Rattle.journeys.specs.Laws.Tight.{Tight, CrossesInto, kept_at}

-- ys is xs but for the marks of the first n rows
pub record SameButMarks (n : ℕ) (xs ys : List ℕ) : Type 0 where
  pub size : length ys ≡ length xs
  pub place : (k : ℕ) → place_at ys k ≡ place_at xs k
  pub others : (i : ℕ) → ((k : ℕ) → k < n → i ≡ k * 5 → ⊥) → get_or ys i 0 ≡ get_or xs i 0

-- the rows for which P holds, and no others, have their mark raised to t, if it was less
pub record Raised (n : ℕ) (xs ys : List ℕ) (t : ℕ) (P : ℕ → Type 0) : Type 0 where
  pub rows : SameButMarks n xs ys
  pub either : (k : ℕ) → k < n → (mark_at ys k ≡ mark_at xs k) ⊎ ((mark_at xs k < t) × (mark_at ys k ≡ t) × P k)
  pub every : (k : ℕ) → k < n → P k → t ≤ mark_at ys k

-- e, kept waiting until the step before b, crosses by corridor l and stands as b
pub record CrossesBy (s : Sheet) (b : Arrival) (l : ℕ) (e : Arrival) : Type 0 where
  pub price : Cost
  pub cross : CrossingBy s l e.place b.place (b.step - 1) price
  pub stays : Stays s e (b.step - 1)
  pub sum : add (kept s e (b.step - 1)) price ≡ b.cost

-- a cart that can cross from u to v by corridor l before step t can wait at u and cross a step later, and waiting costs the same at both
pub record CrossesLater (s : Sheet) (l u v t : ℕ) : Type 0 where
  pub crosses : (c : Cost) → CrossingBy s l u v (t - 1) c → CrossingBy s l u v t c
  pub waits : Run s u (t - 1) t
  pub same : wait_of s u ≡ wait_of s v

-- the rows from which a cart can cross and stand where b stands after a wait are marked up to b's step
pub record Settled (s : Sheet) (n : ℕ) (xs : List ℕ) (b : Arrival) : Type 0 where
  pub every : (k : ℕ) → k < n → CrossesInto s (stand_at xs k) (arrival b.place (b.step + 1) (add b.cost (wait_of s b.place))) → b.step < mark_at xs k

-- the first n rows are the leading arrivals of the sheet in the array, b is past step 0, and what is settled is
pub record Enterable (s : Sheet) (since : List ℕ) (n : ℕ) (table : List ℕ) (b : Arrival) (settled : Bool) : Type 0 where
  pub rowed : Rowed s since n table
  pub moved : 1 ≤ b.step
  pub day : b.step ≤ 255
  pub settles : settled ≡ true → Settled s n table b

-- row i is marked past step t, and from row k a cart can cross and stand where it stands then
pub record Onto (s : Sheet) (xs : List ℕ) (t i k : ℕ) : Type 0 where
  pub soon : (stand_at xs i).step ≤ t
  pub marked : t < mark_at xs i
  pub into : CrossesInto s (stand_at xs k) (kept_at s (stand_at xs i) t)

-- so for some row
pub record OntoAny (s : Sheet) (n : ℕ) (xs : List ℕ) (t k : ℕ) : Type 0 where
  pub row : ℕ
  pub within : row < n
  pub onto : Onto s xs t row k

-- the rows that can be crossed from to where a marked row stands at step t are marked up to the step before
pub record Passed (s : Sheet) (n : ℕ) (xs : List ℕ) (t : ℕ) : Type 0 where
  pub every : (k : ℕ) → k < n → OntoAny s n xs t k → t ≤ mark_at xs k

-- the first n rows are the leading arrivals of the sheet in the array, t is a step past 0, and the step after it is passed
pub record Passable (s : Sheet) (since : List ℕ) (n : ℕ) (table : List ℕ) (t : ℕ) : Type 0 where
  pub rowed : Rowed s since n table
  pub moved : 1 ≤ t
  pub day : t ≤ 255
  pub passed : Passed s n table (t + 1)

-- The marks tell what is on the way to the cost f at step A: all that is below a mark is; and all that is, from step t on, is below its mark.
pub record Marks (s : Sheet) (f : Cost) (A n : ℕ) (xs : List ℕ) (t : ℕ) : Type 0 where
  pub sound : (k j : ℕ) → k < n → (stand_at xs k).step ≤ j → j < mark_at xs k → Tight s f A (stand_at xs k) j
  pub done : (k j : ℕ) → k < n → t ≤ j → Tight s f A (stand_at xs k) j → j < mark_at xs k

-- ys is xs with all marks
pub record MarkedAll (s : Sheet) (f : Cost) (A n : ℕ) (xs ys : List ℕ) : Type 0 where
  pub rows : SameButMarks n xs ys
  pub marks : Marks s f A n ys 0

-- ys is xs without the marks of the first n rows
pub record Bared (n : ℕ) (xs ys : List ℕ) : Type 0 where
  pub size : length ys ≡ length xs
  pub place : (k : ℕ) → k < n → get_or ys (k * 5) 0 ≡ place_at xs k
  pub others : (i : ℕ) → ((k : ℕ) → k < n → i ≡ k * 5 → ⊥) → get_or ys i 0 ≡ get_or xs i 0
