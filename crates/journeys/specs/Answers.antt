-- What the results of the calls tell a host: the counts, or the cost and its arrival step; of a refusal its number and its line, and zeros.
use Rattle.std.specs.Prelude.{Result, Ok, Err}
use Rattle.sheet.specs.Refusals.{number_of}
use Rattle.sheet.specs.declared.refusal.Refusal.{Refusal}
use Rattle.sheet.specs.declared.refusal.Refused.{Refused}
use Rattle.costs.specs.Costs.{zero_cost}
use Rattle.journeys.specs.declared.FrontAnswer.{FrontAnswer}
use Rattle.journeys.specs.declared.JourneyAnswer.{JourneyAnswer}
use Rattle.journeys.specs.declared.calls.Counts.{Counts}
use Rattle.journeys.specs.declared.front.Offered.{Offered}

abbrev pub front_told : Result Counts Refused → FrontAnswer
front_told (Ok f) = record { refusal = 0; line = 0; costs = f.costs; arrivals = f.arrivals }
front_told (Err e) = record { refusal = number_of e.refusal; line = e.line; costs = 0; arrivals = 0 }

abbrev pub journey_told : Result Offered Refused → JourneyAnswer
journey_told (Ok o) = record { refusal = 0; line = 0; cost = o.cost; arrival = o.step.0 }
journey_told (Err e) = record { refusal = number_of e.refusal; line = e.line; cost = zero_cost; arrival = 0 }

-- the same on a sheet that is held: no line of it is at fault
abbrev pub at_no_line : {A : Type 0} → Result A Refusal → Result A Refused
at_no_line (Ok x) = Ok x
at_no_line (Err k) = Err (record { refusal = k; line = 0 })

abbrev pub front_answer : Result Counts Refusal → FrontAnswer
front_answer r = front_told (at_no_line r)

abbrev pub journey_answer : Result Offered Refusal → JourneyAnswer
journey_answer r = journey_told (at_no_line r)
