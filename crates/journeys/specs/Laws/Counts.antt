-- Which arrivals at the goal count (document 02, E2): all that the rest knows of the definition.
use Rattle.std.specs.Prelude.{◌≡◌, ◌↔◌, true, List, ℕ, ◌+◌, ◌≤◌}
use Rattle.std.proofs.Common.{subst, arith}
use Rattle.sheet.specs.Lists.{number}
use Rattle.sheet.specs.Sheet.{Sheet, steps, goal, unload}
use Rattle.costs.specs.Costs.{Cost}
use Rattle.intervals.specs.Intervals.{Run}
use Rattle.intervals.specs.Laws.Runs.{run-one, run_join, stayb-true, stays-stayb}
use Rattle.arrivals.specs.Ways.{Way}
use Rattle.journeys.specs.Journeys.{Counts, Journey}
use Rattle.journeys.specs.Computed.{countsb}

pub countsb-true : (s : Sheet) (t : ℕ) → countsb s t ≡ true → Counts s t
unfolding countsb
countsb-true s t h =
    let q = stayb-true s (goal s) (steps s) (unload s) t h in
    record { in-time = omega (arith, q.0); stays = λ i a b. q.1 i a (omega arith) }

pub counts-countsb : (s : Sheet) (t : ℕ) → Counts s t → countsb s t ≡ true
unfolding countsb
counts-countsb s t c = stays-stayb s (goal s) (steps s) (unload s) t c.in-time c.stays

pub counts-within : (s : Sheet) (t : ℕ) → Counts s t → t ≤ steps s
counts-within s t c = omega (arith, c.in-time)

-- where a later step of a free run of the goal counts, an earlier one does
pub counts-sooner : (s : Sheet) (t t' : ℕ) → t ≤ t' → Run s (goal s) t t' → Counts s t' → Counts s t
counts-sooner s t t' h r c =
    record { in-time = omega (arith, c.in-time); stays = λ i p q. run_join s (goal s) t t' (t' + unload s) r c.stays i p (omega arith) }

-- With nothing to unload a journey is what document 01 says: a lawful way that stands at the goal at its last step, which is at most T.
pub record AtOnce (s : Sheet) (p : List ℕ) (g : Cost) : Type 0 where
  pub A : ℕ
  pub way : Way s A p g
  pub ends : number p A ≡ goal s
  pub in-time : A ≤ steps s

pub at_once : (s : Sheet) → unload s ≡ 0 → (p : List ℕ) (g : Cost) → Journey s p g ↔ AtOnce s p g
at_once s e p g = (into, onto)
  where
    into : Journey s p g → AtOnce s p g
    into j = record { A = j.A; way = j.way; ends = j.ends; in-time = counts-within s j.A j.counts }

    onto : AtOnce s p g → Journey s p g
    onto j =
        let f = subst (λ (v : ℕ). Run s v j.A j.A) j.ends (run-one s (number p j.A) j.A (j.way.free j.A (omega arith))) in
        record {
          A = j.A;
          way = j.way;
          ends = j.ends;
          counts = record { in-time = omega (arith, j.in-time); stays = λ i a b. f i a (omega arith) };
        }
