-- The answers of the functions of the search, each as a record: whether there was room, and what was reached.
use Rattle.std.specs.Prelude.{Bool, true, false, ℕ, Option, Result, Ok, Err}
use Rattle.sheet.specs.declared.refusal.Refusal.{Refusal}
use Rattle.arrivals.specs.declared.offers.Full.{Full}
use Rattle.arrivals.specs.declared.offers.FullAt.{FullAt}
use Rattle.arrivals.specs.declared.fill.Stepped.{Stepped}
use Rattle.arrivals.specs.declared.by_lists.Halt.{Halt}

-- with room for all, or without, and so many rows
pub record Outcome : Type 0 where
  pub ok : Bool
  pub rows : ℕ

-- the same with the set of places that corridors lead to
pub record StepOutcome : Type 0 where
  pub ok : Bool
  pub rows : ℕ
  pub next : ℕ

-- what is offered: where there is no room, no row counts
abbrev pub offered : Result ℕ Full → Outcome
offered (Ok n) = record { ok = true; rows = n }
offered (Err e) = record { ok = false; rows = 0 }

-- what is filled in: where there is no room, the rows so far
abbrev pub stored : Result ℕ FullAt → Outcome
stored (Ok n) = record { ok = true; rows = n }
stored (Err e) = record { ok = false; rows = e.rows }

-- the whole search: where there is no room, no row counts
abbrev pub served : Result ℕ Refusal → Outcome
served (Ok n) = record { ok = true; rows = n }
served (Err e) = record { ok = false; rows = 0 }

-- a step by the index, and a step by the lists
abbrev pub stepped_to : Result Stepped FullAt → StepOutcome
stepped_to (Ok s) = record { ok = true; rows = s.rows; next = s.next }
stepped_to (Err e) = record { ok = false; rows = e.rows; next = 0 }

abbrev pub live_to : Result Stepped Full → StepOutcome
live_to (Ok s) = record { ok = true; rows = s.rows; next = s.next }
live_to (Err e) = record { ok = false; rows = 0; next = 0 }

-- the search by lists: all rows; or where to go on from, if anywhere
abbrev pub Ended : Type 0
Ended = Result ℕ (Option Halt)
