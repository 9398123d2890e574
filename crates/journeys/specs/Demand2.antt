-- The words of demand 2 (documents 00 and 01): what the lists, the journeys and the sheets are that the calls hand back, for every sheet that is
-- not refused. The theorem is `demand-2` of Laws.Demand2.
use Rattle.std.specs.Prelude.{◌≡◌, ◌↔◌, List, ℕ, suc, ◌+◌, ◌*◌, ◌≤◌, ◌<◌, length, take}
use Rattle.sheet.specs.Lists.{number, numbers_from, Lex}
use Rattle.sheet.specs.Sheet.{Sheet, loaded, read_of}
use Rattle.sheet.specs.Calls.{read_answer, read_call, Groups, groups_read, sheet_of_groups, write_groups}
use Rattle.costs.specs.Costs.{Cost, figures}
use Rattle.arrivals.specs.Arrivals.{Arrival, key_of, Leading}
use Rattle.journeys.specs.Journeys.{Journey, Selected}
use Rattle.journeys.specs.Front.{OnFront}
use Rattle.journeys.specs.Calls.{FrontEnd, front_call, JourneyEnd, journey_call}

-- the cost with number i in the front, in the list as the call returned it; the arrival step stands after its figures
abbrev pub cost_at : FrontEnd → ℕ → Cost
cost_at e i = numbers_from figures (i * 4) e.list

-- the list is the cost-unique front of s: its costs are those of the front, each once, ascending, and beside each the earliest step at which a lawful
-- journey with that cost arrives, then zeros; and it is empty exactly when no lawful journey exists
pub record ListsFront (s : Sheet) (e : FrontEnd) : Type 0 where
  pub listed-on : (i : ℕ) → i < e.answer.costs → (i * 4 + 4 ≤ length e.list) × OnFront s (cost_at e i)
  pub on-listed : (g : Cost) → OnFront s g → (i : ℕ) × (i < e.answer.costs) × (cost_at e i ≡ g)
  pub ascending : (i j : ℕ) → i < j → j < e.answer.costs → Lex (cost_at e i) (cost_at e j)
  pub arrives : (i : ℕ) → i < e.answer.costs → (p : List ℕ) × Journey s p (cost_at e i) × (length p ≡ suc (number e.list (i * 4 + figures)))
  pub no-sooner : (i : ℕ) → i < e.answer.costs → (p : List ℕ) → Journey s p (cost_at e i) → suc (number e.list (i * 4 + figures)) ≤ length p
  pub zeros : (i : ℕ) → e.answer.costs * 4 ≤ i → number e.list i ≡ 0
  pub empty : (e.answer.costs ≡ 0) ↔ ((p : List ℕ) (g : Cost) → Journey s p g → ⊥)

-- row i of the table as the call returned it
abbrev pub arrival_at : FrontEnd → ℕ → Arrival
arrival_at e i = record { place = number e.table (i * 5); step = number e.table (i * 5 + 1); cost = numbers_from figures (i * 5 + 2) e.table }

-- the table holds exactly the leading arrivals of s, ascending, each once, then zeros
pub record ListsLeading (s : Sheet) (e : FrontEnd) : Type 0 where
  pub rows-lead : (i : ℕ) → i < e.answer.arrivals → (i * 5 + 5 ≤ length e.table) × Leading s (arrival_at e i)
  pub leading-rows : (a : Arrival) → Leading s a → (i : ℕ) × (i < e.answer.arrivals) × (arrival_at e i ≡ a)
  pub ascending : (i j : ℕ) → i < j → j < e.answer.arrivals → Lex (key_of (arrival_at e i)) (key_of (arrival_at e j))
  pub zeros : (i : ℕ) → e.answer.arrivals * 5 ≤ i → number e.table i ≡ 0

-- the call of a journey handed back the cost g and, one place for each step up to the arrival, the journey that the tie rule selects for it
pub record GivesJourney (s : Sheet) (g : Cost) (e : JourneyEnd) : Type 0 where
  pub cost-is : e.answer.cost ≡ g
  pub long : suc e.answer.arrival ≤ length e.path
  pub selected : Selected s g (take (suc e.answer.arrival) e.path)

-- Demand 2, of any bytes and any lent arrays. A call of the front that is not refused lists the front of the sheet with these bytes; a call of the
-- journey with a number in that list that is not refused gives the journey of the cost with that number, and arrives at the step beside it; a sheet
-- read and written back gives its own bytes; a sheet written and read back gives its own values.
pub record Demand2 : Type 0 where
  pub front : (b table list : List ℕ) → (front_call b table list).answer.refusal ≡ 0
      → (s : Sheet) × (read_of b ≡ loaded s) × ListsFront s (front_call b table list) × ListsLeading s (front_call b table list)
  pub journeys : (b table list table' path : List ℕ) (i : ℕ) (s : Sheet) → read_of b ≡ loaded s → (front_call b table list).answer.refusal ≡ 0
      → i < (front_call b table list).answer.costs → (journey_call b i table' path).answer.refusal ≡ 0
      → GivesJourney s (cost_at (front_call b table list) i) (journey_call b i table' path) × ((journey_call b i table' path).answer.arrival ≡ number (front_call b table list).list (i * 4 + figures))
  pub read-written : (b out : List ℕ) → (read_call b).refusal ≡ 0 → length b ≤ length out
      → let w = write_groups (groups_read (read_call b)) out in (w.answer.refusal ≡ 0) × (w.answer.bytes ≡ length b) × (take (length b) w.out ≡ b)
  pub written_read : (g : Groups) (out : List ℕ) → (write_groups g out).answer.refusal ≡ 0
      → let r = read_call (take (write_groups g out).answer.bytes (write_groups g out).out) in (groups_read r ≡ g) × (r ≡ read_answer (loaded (sheet_of_groups g)))
