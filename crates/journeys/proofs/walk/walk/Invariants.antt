-- `journeys::walk::walk`. The loop's invariant: for any front cost that the marks are of, the walk has come to `at`, at step t, and the places gone to are
-- written.
use mathlib.Core.Path.{◌≡◌}
use Rattle.costs.specs.Costs.{Cost}
use Rattle.journeys.specs.Inner.Lookup.{standing}
use Rattle.journeys.proofs.Walking.{Guided, CameTo}
use Rattle.journeys.proofs.walk.walk.Given as goal

abbrev pub invariant-loop-t : goal.invariant-loop-t
invariant-loop-t l = (l.at.step.0 ≡ l.t)
    × ((f : Cost) → Guided l.sheet f l.fn.arrival.0 l.n l.table → CameTo l.sheet f l.fn.arrival.0 (standing l.at) l.initial.path l.path)
