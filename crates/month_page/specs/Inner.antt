-- What making the page promises `main`: it is the page of the whole input, whatever that has past a buffer that is full.
use Rattle.std.specs.Prelude.{◌≡◌, List, [], ◌++◌, ℕ, ◌≤◌, ◌<◌, length, take}
use Rattle.month.specs.Month.{held, page_room}
use Rattle.month.specs.Laws.Cut.{deciding}
use Rattle.sheet.specs.declared.printed.Printed.{Printed}

-- n bytes were read into the buffer, which has room for all that decide
pub record Enough (buffer : List ℕ) (n : ℕ) : Type 0 where
  pub within : n ≤ length buffer
  pub decides : deciding ≤ length buffer

-- r is the page of the input: the n bytes of the buffer, and a rest where it is full
pub record WholePage (buffer : List ℕ) (n : ℕ) (r : Printed page_room) : Type 0 where
  pub of : (rest : List ℕ) → (n < length buffer → rest ≡ []) → r ≡ held (take n buffer ++ rest)
  pub fits : r.count ≤ length r.bytes
