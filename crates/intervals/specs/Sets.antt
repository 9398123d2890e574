-- Sets of places, each as one number of 64 bits: place v is in the set where the binary digit v is 1. Of a set of places to
-- look at it is said what it holds, and nothing of what it does not: a place that is looked at in vain adds no row.
use Rattle.std.specs.Prelude.{◌≡◌, List, ◌⊎◌, ℕ, ◌+◌, ◌*◌, ◌/◌, ◌%◌, ◌^◌, ◌≤◌, ◌<◌, length, set}
use Rattle.std.specs.Int.Bits.{bit_or}
use Rattle.sheet.specs.Lists.{number, flat}
use Rattle.sheet.specs.Sheet.{Sheet}
use Rattle.intervals.specs.FirstSteps.{SinceTable}

-- place v is in the set m
pub record Has (m v : ℕ) : Type 0 where
  pub digit : m / 2 ^ v % 2 ≡ 1

-- the sets with place v added to set i
unfoldable pub with_place : List ℕ → ℕ → ℕ → List ℕ
with_place sets i v = set sets i (bit_or (number sets i) (2 ^ v))

-- what is in some set before is in it after
pub record Kept (before after : List ℕ) : Type 0 where
  pub size : length after ≡ length before
  pub more : (i v : ℕ) → Has (number before i) v → Has (number after i) v

-- place r is the first from place v on that is in the set m, or there is none
pub record NextIn (m v r : ℕ) : Type 0 where
  pub on : v ≤ r
  pub none : (w : ℕ) → v ≤ w → w < r → Has m w → ⊥
  pub own : Has m r ⊎ (64 ≤ r)

-- set t of the sets after holds every place of which a free run begins at step t, by the table of first steps of s
pub record Begun (s : Sheet) (before after : List ℕ) : Type 0 where
  pub kept : Kept before after
  pub of : (since : List ℕ) → SinceTable (flat s.occupancies) since → (v t : ℕ) → v < 64 → 1 ≤ t → t ≤ 255 → number since (v * 256 + t) ≡ t
      → Has (number after t) v
