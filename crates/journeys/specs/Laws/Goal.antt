-- The front and the leading arrivals at the goal: every front cost is the cost of a leading arrival at the goal that counts, its earliest arrival is
-- one of them, and the front is what none of their costs dominates. An arrival at the goal that counts, with a front cost, is led by one of
-- the same cost, since a lower cost would dominate; and that one counts too.
use Rattle.std.specs.Prelude.{◌≡◌, refl, ◌⊎◌, Bool, ◌&&◌, List, map, ℕ, ◌-◌, ◌≤◌, length, eqb}
use Rattle.std.proofs.Common.{sym, ◌∙◌, ap, subst, inl, inr, arith, eqb-true, eq-eqb}
use Rattle.sheet.specs.Lists.{◌∈◌, filter, Lex}
use Rattle.sheet.specs.Sheet.{Sheet, goal}
use Rattle.sheet.specs.Laws.Order.{and-true, true-and}
use Rattle.sheet.specs.Laws.Members.{filter-mem, mem-filter, map-mem, mem-map}
use Rattle.sheet.specs.Laws.Ascending.{ascending-unique}
use Rattle.costs.specs.Costs.{Cost, AtMost, Dominates}
use Rattle.costs.specs.Laws.Figures.{undominated-same, at-most-dominates}
use Rattle.arrivals.specs.Arrivals.{Arrival, Arrives, Leading}
use Rattle.arrivals.specs.Computed.{arrival, leading}
use Rattle.arrivals.specs.Laws.Leading.{arrival-path, fig-waited, Led}
use Rattle.arrivals.proofs.Leading.{led, leading-is, is_leading}
use Rattle.journeys.specs.Journeys.{Counts, Journey, HasCost, rank, Selected}
use Rattle.journeys.specs.Computed.{countsb, journey_of, arrival_of, self, front_of, front}
use Rattle.journeys.specs.Front.{OnFront}
use Rattle.journeys.specs.Laws.Counts.{countsb-true, counts-countsb, counts-within, counts-sooner}
use Rattle.journeys.specs.Laws.Journeys.{has-three, journey_of-selected}
use Rattle.journeys.specs.Laws.Front.{Undominated, front_of-is, is-front_of, front_of-ascending, front-on, on-front, FrontBelow, front_below, front-ascending}

-- an arrival at the goal that counts
pub record AtGoal (s : Sheet) (t : ℕ) (g : Cost) : Type 0 where
  pub arrives : Arrives s (arrival (goal s) t g)
  pub counts : Counts s t

pub journey-at : (s : Sheet) (p : List ℕ) (g : Cost) (j : Journey s p g) → AtGoal s j.A g
journey-at s p g j = record { arrives = record { path = p; way = j.way; stands = j.ends; in-time = counts-within s j.A j.counts }; counts = j.counts }

pub at-journey : (s : Sheet) (t : ℕ) (g : Cost) (a : AtGoal s t g) → Journey s a.arrives.path g
at-journey s t g a = record { A = t; way = a.arrives.way; ends = a.arrives.stands; counts = a.counts }

pub at_has : (s : Sheet) (t : ℕ) (g : Cost) → AtGoal s t g → HasCost s g
at_has s t g a = (a.arrives.path, at-journey s t g a)

-- an arrival at the goal that counts, with a front cost, is reached from a leading one with the same cost that counts, no later
pub front-leading : (s : Sheet) (t : ℕ) (g : Cost) → OnFront s g → AtGoal s t g → (t' : ℕ) × (t' ≤ t) × Leading s (arrival (goal s) t' g) × Counts s t'
front-leading s t g o a = go (led s (arrival (goal s) t g) a.arrives)
  where
    go : Led s (arrival (goal s) t g) → (t' : ℕ) × (t' ≤ t) × Leading s (arrival (goal s) t' g) × Counts s t'
    go k =
        let e = k.by in
        let x = k.covers in
        let c : Counts s e.step = counts-sooner s e.step t x.no-later x.run a.counts in
        let h : HasCost s e.cost = at_has s e.step e.cost (record { arrives = subst (λ (v : ℕ). Arrives s (arrival v e.step e.cost)) x.same_place k.is.arrives; counts = c }) in
        let l : AtMost e.cost g = record { every = λ i. omega (arith, x.no-dearer.every i, fig-waited s (goal s) (t - e.step) e.cost i) } in
        let q : e.cost ≡ g = undominated-same e.cost g (has-three s e.cost h ∙ sym (has-three s g o.has)) l (o.undominated e.cost h) in
        (e.step, x.no-later, subst (Leading s) (arrival-path e (arrival (goal s) e.step g) x.same_place refl q) k.is, c)

abbrev pub counts_at_goal : Sheet → Arrival → Bool
counts_at_goal s a = let c = countsb s a.step in eqb a.place (goal s) && c

-- the costs of the leading arrivals at the goal that count
unfoldable pub goal_costs : Sheet → List Cost
unfolding leading countsb
goal_costs s = map (λ a. a.cost) (filter (counts_at_goal s) (leading s))

goal_costs-has : (s : Sheet) (g : Cost) → g ∈ goal_costs s → HasCost s g
unfolding goal_costs
goal_costs-has s g m =
    let r = map-mem (λ (a : Arrival). a.cost) g (filter (counts_at_goal s) (leading s)) m in
    let f = filter-mem (counts_at_goal s) r.0 (leading s) r.1 in
    let l = leading-is s r.0 f.0 in
    let q = and-true (eqb r.0.place (goal s)) (countsb s r.0.step) f.1 in
    at_has s r.0.step g (record { arrives = subst (Arrives s) (arrival-path r.0 (arrival (goal s) r.0.step g) (eqb-true _ _ q.0) refl (sym r.2)) l.arrives; counts = countsb-true s r.0.step q.1 })

on-goal_costs : (s : Sheet) (g : Cost) → OnFront s g → g ∈ goal_costs s
unfolding goal_costs
on-goal_costs s g o =
    let j = o.has.1 in
    let k = front-leading s j.A g o (journey-at s o.has.0 g j) in
    mem-map (λ (a : Arrival). a.cost) (arrival (goal s) k.0 g) (filter (counts_at_goal s) (leading s))
    (mem-filter (counts_at_goal s) (arrival (goal s) k.0 g) (leading s) (is_leading s (arrival (goal s) k.0 g) k.2) (true-and (eqb (goal s) (goal s)) (countsb s k.0) (eq-eqb (goal s) (goal s) refl) (counts-countsb s k.0 k.3)))

-- the front is that of the leading arrivals at the goal that count
pub front-by-leading : (s : Sheet) → front s ≡ front_of (goal_costs s)
front-by-leading s =
    ascending-unique self (front s) (front_of (goal_costs s)) (front-ascending s) (front_of-ascending (goal_costs s))
    (λ g m. is-front_of (goal_costs s) g (into g (front-on s g m))) (λ g m. on-front s g (onto g (front_of-is (goal_costs s) g m)))
  where
    into : (g : Cost) → OnFront s g → Undominated (goal_costs s) g
    into g o = record { member = on-goal_costs s g o; none = λ h m. o.undominated h (goal_costs-has s h m) }

    onto : (g : Cost) → Undominated (goal_costs s) g → OnFront s g
    onto g u = record { has = goal_costs-has s g u.member; undominated = λ h j d. none h d (front_below s h j) }
      where
        none : (h : Cost) → Dominates h g → FrontBelow s h → ⊥
        none h d f = u.none f.cost (on-goal_costs s f.cost f.on) (at-most-dominates f.cost h g f.le d)

pub selected-earliest : (s : Sheet) (g : Cost) (p q : List ℕ) → Selected s g p → Journey s q g → length p ≤ length q
selected-earliest s g p q c j = go (c.first q j)
  where
    go : (p ≡ q) ⊎ Lex (rank p) (rank q) → length p ≤ length q
    go (inl e) = omega (arith, ap length e)
    go (inr (inl h)) = omega arith
    go (inr (inr h)) = omega arith

-- it is the earliest step at which an arrival at the goal with that cost counts, and a leading arrival has it then
pub record Earliest (s : Sheet) (g : Cost) (t : ℕ) : Type 0 where
  pub there : AtGoal s t g
  pub none-sooner : (t' : ℕ) → AtGoal s t' g → t ≤ t'

pub arrival_of-earliest : (s : Sheet) (g : Cost) → HasCost s g → Earliest s g (arrival_of s g)
unfolding arrival_of
arrival_of-earliest s g h =
    let c = journey_of-selected s g h in
    let a = journey-at s (journey_of s g) g c.journey in
    let e : c.journey.A ≡ length (journey_of s g) - 1 = omega (arith, c.journey.way.places) in
    record {
      there = subst (λ (t : ℕ). AtGoal s t g) e a;
      none-sooner = λ t b. omega (arith, selected-earliest s g (journey_of s g) b.arrives.path c (at-journey s t g b), b.arrives.way.places);
    }

pub arrival_of-leading : (s : Sheet) (g : Cost) → OnFront s g → Leading s (arrival (goal s) (arrival_of s g) g)
arrival_of-leading s g o =
    let e = arrival_of-earliest s g o.has in
    let k = front-leading s (arrival_of s g) g o e.there in
    let q : k.0 ≡ arrival_of s g = omega (arith, k.1, e.none-sooner k.0 (record { arrives = k.2.arrives; counts = k.3 })) in
    subst (λ (t : ℕ). Leading s (arrival (goal s) t g)) q k.2
