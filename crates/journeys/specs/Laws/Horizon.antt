-- A step past T has no effect on the front: the sheet without what lies past its horizon has the same lawful journeys, so the same front.
use Rattle.std.specs.Prelude.{◌≡◌, refl, ℕ}
use Rattle.std.proofs.Common.{sym, ◌∙◌, arith}
use Rattle.sheet.specs.Sheet.{Sheet, goal}
use Rattle.sheet.specs.Laws.Ascending.{ascending-unique}
use Rattle.costs.specs.Costs.{Cost}
use Rattle.intervals.specs.Laws.Horizon.{SameWithin, within_horizon, past-horizon}
use Rattle.arrivals.specs.Laws.Alike.{Alike, alike-back, alike-way, horizon-alike}
use Rattle.journeys.specs.Journeys.{Counts, HasCost}
use Rattle.journeys.specs.Front.{OnFront}
use Rattle.journeys.specs.Computed.{self, front}
use Rattle.journeys.specs.Laws.Counts.{counts-within}
use Rattle.journeys.specs.Laws.Front.{front-on, on-front, front-ascending}

-- two sheets with the same goal, on which the same ways are lawful and the same arrivals at the goal count
pub record SameJourneys (s r : Sheet) : Type 0 where
  pub alike : Alike s r
  pub goals : goal s ≡ goal r
  pub forth : (t : ℕ) → Counts s t → Counts r t
  pub back : (t : ℕ) → Counts r t → Counts s t

journeys-back : (s r : Sheet) → SameJourneys s r → SameJourneys r s
journeys-back s r h = record { alike = alike-back s r h.alike; goals = sym h.goals; forth = h.back; back = h.forth }

same-has : (s r : Sheet) → SameJourneys s r → (g : Cost) → HasCost s g → HasCost r g
same-has s r h g k =
    let j = k.1 in
    (k.0, record { A = j.A; way = alike-way s r h.alike j.A k.0 g (counts-within s j.A j.counts) j.way; ends = j.ends ∙ h.goals; counts = h.forth j.A j.counts })

same-on : (s r : Sheet) → SameJourneys s r → (g : Cost) → OnFront s g → OnFront r g
same-on s r h g o = record { has = same-has s r h g o.has; undominated = λ x k d. o.undominated x (same-has r s (journeys-back s r h) x k) d }

pub front_same : (s r : Sheet) → SameJourneys s r → front s ≡ front r
front_same s r h =
    ascending-unique self (front s) (front r) (front-ascending s) (front-ascending r)
    (λ g m. on-front r g (same-on s r h g (front-on s g m)))
    (λ g m. on-front s g (same-on r s (journeys-back s r h) g (front-on r g m)))

pub front-within-horizon : (s : Sheet) → front (within_horizon s) ≡ front s
unfolding within_horizon
front-within-horizon s =
    front_same (within_horizon s) s
    (record {
      alike = horizon-alike s;
      goals = refl;
      forth = λ t c. record { in-time = c.in-time; stays = λ i p q. sym (h.free (goal s) i (omega (arith, c.in-time))) ∙ c.stays i p q };
      back = λ t c. record { in-time = c.in-time; stays = λ i p q. h.free (goal s) i (omega (arith, c.in-time)) ∙ c.stays i p q };
    })
  where
    h : SameWithin (within_horizon s) s
    h = past-horizon s
