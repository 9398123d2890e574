-- The numbers of refusals (document 01, "Who causes which refusal"; document 02, E3: 14, E5: 15, E6: 16), and what an answer that may be a refusal tells.
use Rattle.std.specs.Prelude.{ℕ, Result, Ok, Err}
use Rattle.sheet.specs.declared.refusal.Refusal.{Refusal}
use Rattle.sheet.specs.declared.refusal.Refused.{Refused}
use Rattle.sheet.specs.declared.refusal.Refusal.TheVariants.{TooLong, Malformed, OutOfOrder, OutOfRange, NotAscending, Reversed, TooManyLines, RoomArrivals, RoomCosts, NotOnFront, RoomPath, RoomSheet, MonthLines, NoCorridor, Late}

abbrev pub number_of : Refusal → ℕ
number_of TooLong = 1
number_of Malformed = 2
number_of OutOfOrder = 3
number_of OutOfRange = 4
number_of NotAscending = 5
number_of Reversed = 6
number_of TooManyLines = 7
number_of RoomArrivals = 8
number_of RoomCosts = 9
number_of NotOnFront = 10
number_of RoomPath = 11
number_of RoomSheet = 12
number_of MonthLines = 14
number_of NoCorridor = 15
number_of Late = 16

-- the number that an answer tells: 0 where nothing is refused
abbrev pub code : {A : Type 0} → Result A Refusal → ℕ
code (Ok x) = 0
code (Err k) = number_of k

-- how lines were judged: the refusal's number with its line; or 0, and what is told of the lines
pub record Verdict : Type 0 where
  pub refusal : ℕ
  pub line : ℕ

abbrev pub refused_by : Refused → Verdict
refused_by r = record { refusal = number_of r.refusal; line = r.line }

-- the verdict that an answer tells: 0 and no line where nothing is refused; or 0 and the number of the next line
abbrev pub verdict : Result Unit Refused → Verdict
verdict (Ok x) = record { refusal = 0; line = 0 }
verdict (Err r) = refused_by r

abbrev pub verdict_at : Result ℕ Refused → Verdict
verdict_at (Ok n) = record { refusal = 0; line = n }
verdict_at (Err r) = refused_by r
