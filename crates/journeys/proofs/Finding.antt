-- Rows of the arrivals table found by their order, by the sheet's laws of things in order: the first row that does not come before an arrival is the
-- arrival, or the table has no such row.
-- Assumes nothing.
use mathlib.Core.Path.{◌≡◌, ◌∙◌, ap}
use mathlib.Core.Bool.{Bool, true, false}
use mathlib.Core.List.{List}
use Prim.Native.Nat.{ℕ, ◌<◌}
use native.Mathlib.Omega.{arith}
use Rattle.sheet.specs.Computed.{lexb}
use Rattle.sheet.specs.Seek.{Parted}
use Rattle.sheet.specs.Laws.Seek.{parted-here, parted-other, parted-is, parted-is-not}
use Rattle.arrivals.specs.Arrivals.{Arrival, key_of}
use Rattle.arrivals.specs.Laws.Leading.{key-inj}
use Rattle.journeys.specs.Inner.Lookup.{stand_at, Sorted, RowIs}

-- where the rows that come before a end
module _ {n : ℕ} {xs : List ℕ} (s : Sorted n xs) {a : Arrival} {r : ℕ} (p : Parted n (λ k. key_of (stand_at xs k)) (key_of a) r r) where
  -- row r, where the rows go on, is looked at
  module _ (l : r < n) {x : Arrival} (f : x ≡ stand_at xs r) {b : Bool} (t : b ≡ lexb (key_of a) (key_of x)) where
    test : b ≡ lexb (key_of a) (key_of (stand_at xs r))
    test = t ∙ ap (λ (y : Arrival). lexb (key_of a) (key_of y)) f

    pub row-none : b ≡ true → RowIs n xs a n
    row-none e =
        record {
          most = omega arith;
          is = λ h. absurd (omega arith);
          only = λ k h q. absurd (parted-other p s.ascends (parted-is-not p l test e) k h (ap key_of q));
        }

    pub row_here : b ≡ false → RowIs n xs a r
    row_here e =
        record {
          most = omega arith;
          is = λ h. key-inj (stand_at xs r) a (parted-is p l test e);
          only = λ k h q. parted-here p s.ascends k h (ap key_of q);
        }
