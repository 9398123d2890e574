-- The front (document 01, "Lawful journeys": "every cost of a lawful journey that no lawful journey's cost dominates, each once,
-- ascending"; 001: the cost-unique Pareto-optimal front).
use Rattle.sheet.specs.Sheet.{Sheet}
use Rattle.costs.specs.Costs.{Cost, Dominates}
use Rattle.journeys.specs.Journeys.{HasCost}

-- g is on the front
pub record OnFront (s : Sheet) (g : Cost) : Type 0 where
  pub has : HasCost s g
  pub undominated : (h : Cost) → HasCost s h → Dominates h g → ⊥
