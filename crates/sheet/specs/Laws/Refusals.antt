-- Laws of the numbers of refusals: none is 0, which tells that nothing is refused.
use Rattle.std.specs.Prelude.{◌≤◌}
use Rattle.std.proofs.Common.{arith}
use Rattle.sheet.specs.Refusals.{number_of}
use Rattle.sheet.specs.declared.refusal.Refusal.{Refusal}
use Rattle.sheet.specs.declared.refusal.Refusal.TheVariants.{TooLong, Malformed, OutOfOrder, OutOfRange, NotAscending, Reversed, TooManyLines, RoomArrivals, RoomCosts, NotOnFront, RoomPath, RoomSheet, MonthLines, NoCorridor, Late}

pub number-some : (k : Refusal) → 1 ≤ number_of k
number-some TooLong = omega arith
number-some Malformed = omega arith
number-some OutOfOrder = omega arith
number-some OutOfRange = omega arith
number-some NotAscending = omega arith
number-some Reversed = omega arith
number-some TooManyLines = omega arith
number-some RoomArrivals = omega arith
number-some RoomCosts = omega arith
number-some NotOnFront = omega arith
number-some RoomPath = omega arith
number-some RoomSheet = omega arith
number-some MonthLines = omega arith
number-some NoCorridor = omega arith
number-some Late = omega arith
