-- Laws of lawful journeys. The enumeration holds exactly the lawful journeys; a journey read backwards is a trail that ends at the goal; and the
-- tie rule selects one journey for each cost, which `journey_of` computes.
use Rattle.std.specs.Prelude.{◌≡◌, refl, ◌⊎◌, Bool, true, false, List, [], ◌∷◌, map, reverse, ℕ, zero, suc, ◌≤◌, length, eqb, leb}
use Rattle.std.proofs.Common.{sym, ◌∙◌, ap, subst, inl, inr, arith, eqb-true, eq-eqb, leb-true, leb-false}
use Rattle.std.proofs.lemmas.List.{reverse-reverse}
use Rattle.sheet.specs.Lists.{◌∈◌, filter, Lex}
use Rattle.sheet.specs.Sorting.{Ascending, sortUnique}
use Rattle.sheet.specs.Sheet.{Sheet, steps, goal}
use Rattle.sheet.specs.Valid.{Valid}
use Rattle.sheet.specs.Laws.Order.{and-true, true-and, Lex-irrefl, Lex-trans}
use Rattle.sheet.specs.Laws.Members.{mem-left, mem-right, mem-append, filter-mem, mem-filter, map-mem, mem-map}
use Rattle.sheet.specs.Laws.Ascending.{before-all, sort_unique-mem, mem-sort_unique, sort_unique-ascending}
use Rattle.costs.specs.Costs.{Cost, figures, fig}
use Rattle.costs.specs.Laws.Figures.{sameb-true, sameb-refl}
use Rattle.arrivals.specs.Computed.{Walk, walks}
use Rattle.arrivals.specs.Laws.Trails.{Trail, walks-trail, trail-walks, trail-way, way-trail, way-three}
use Rattle.arrivals.specs.Laws.Bounds.{way-bounded}
use Rattle.journeys.specs.Journeys.{Counts, Journey, HasCost, rank, Selected}
use Rattle.journeys.specs.Computed.{countsb, at_goal, journeys_to, journeys, path_of, with_cost, head_or, journey_of, arrival_of}
use Rattle.journeys.specs.Laws.Counts.{countsb-true, counts-countsb, counts-within}

-- a trail that ends at the goal, after the places `before` (the last step first), at a step that counts
record Homeward (s : Sheet) (before : List ℕ) (g : Cost) : Type 0 where
  trail : Trail s (goal s ∷ before) g
  counts : Counts s (length before)

homeward-journey : (s : Sheet) (q : List ℕ) (g : Cost) → Homeward s q g → Journey s (reverse (goal s ∷ q)) g
homeward-journey s q g h =
    let m = trail-way s (goal s) q g h.trail in
    record { A = length q; way = m.way; ends = m.ends; counts = h.counts }

-- a journey read backwards
record Backward (s : Sheet) (p : List ℕ) (g : Cost) : Type 0 where
  before : List ℕ
  home : Homeward s before g
  turned : reverse p ≡ goal s ∷ before

journey-backward : (s : Sheet) (p : List ℕ) (g : Cost) → Journey s p g → Backward s p g
journey-backward s p g j =
    let r = way-trail s j.A p g j.way in
    record {
      before = r.before;
      home = record { trail = subst (λ (v : ℕ). Trail s (v ∷ r.before) g) j.ends r.trail; counts = subst (Counts s) (sym r.steps) j.counts };
      turned = r.turned ∙ ap (λ (v : ℕ). v ∷ r.before) j.ends;
    }

backward-path : {s : Sheet} {p : List ℕ} {g : Cost} (b : Backward s p g) → p ≡ reverse (goal s ∷ b.before)
backward-path {s} {p} b = sym (reverse-reverse p) ∙ ap reverse b.turned

-- the enumeration
record Ends (s : Sheet) (w : Walk) : Type 0 where
  at-goal : w.at ≡ goal s
  home : Homeward s w.before w.cost

ends_at : (s : Sheet) (t : ℕ) (w : Walk) → w ∈ filter (at_goal s t) (walks s t) → Ends s w
ends_at s t w m =
    let f = filter-mem (at_goal s t) w (walks s t) m in
    let q = and-true (eqb w.at (goal s)) (countsb s t) f.1 in
    let h = walks-trail s t w f.0 in
    let e = eqb-true w.at (goal s) q.0 in
    record { at-goal = e; home = record { trail = subst (λ (v : ℕ). Trail s (v ∷ w.before) w.cost) e h.0; counts = subst (Counts s) (sym h.1) (countsb-true s t q.1) } }

journeys_to-law : (s : Sheet) (t : ℕ) (w : Walk) → w ∈ journeys_to s t → Ends s w
unfolding journeys_to
journeys_to-law s zero w m = ends_at s zero w m
journeys_to-law s (suc t) w m = go (journeys_to-law s t w) (mem-append w (journeys_to s t) (filter (at_goal s (suc t)) (walks s (suc t))) m)
  where
    go : (w ∈ journeys_to s t → Ends s w) → w ∈ journeys_to s t ⊎ w ∈ filter (at_goal s (suc t)) (walks s (suc t)) → Ends s w
    go f (inl n) = f n
    go f (inr n) = ends_at s (suc t) w n

-- what stands at step n stands in the list up to t
journeys_to-mem : (s : Sheet) (n t : ℕ) (w : Walk) → n ≤ t → w ∈ filter (at_goal s n) (walks s n) → w ∈ journeys_to s t
unfolding journeys_to
journeys_to-mem s n zero w h m = let e : n ≡ 0 = omega arith in subst (λ (k : ℕ). w ∈ filter (at_goal s k) (walks s k)) e m
journeys_to-mem s n (suc t) w h m = go (journeys_to-mem s n t w) (leb n t) refl
  where
    go : (n ≤ t → w ∈ filter (at_goal s n) (walks s n) → w ∈ journeys_to s t) → (b : Bool) → leb n t ≡ b → w ∈ journeys_to s (suc t)
    go f true e = mem-left w (journeys_to s t) (filter (at_goal s (suc t)) (walks s (suc t))) (f (leb-true n t e) m)
    go f false e =
        let q : n ≡ suc t = omega (arith, leb-false n t e) in
        mem-right w (journeys_to s t) (filter (at_goal s (suc t)) (walks s (suc t))) (subst (λ (k : ℕ). w ∈ filter (at_goal s k) (walks s k)) q m)

pub journeys-journey : (s : Sheet) (w : Walk) → w ∈ journeys s → Journey s (path_of w) w.cost
unfolding journeys
journeys-journey s w m =
    let r = journeys_to-law s (steps s) w m in
    subst (λ (v : ℕ). Journey s (reverse (v ∷ w.before)) w.cost) (sym r.at-goal) (homeward-journey s w.before w.cost r.home)

homeward-journeys : (s : Sheet) (q : List ℕ) (g : Cost) → Homeward s q g → ◌∈◌ {A = Walk} (record { at = goal s; before = q; cost = g }) (journeys s)
unfolding journeys
homeward-journeys s q g h =
    journeys_to-mem s (length q) (steps s) _ (counts-within s (length q) h.counts)
    (mem-filter (at_goal s (length q)) _ (walks s (length q)) (trail-walks s (goal s) q g h.trail)
    (true-and (eqb (goal s) (goal s)) (countsb s (length q)) (eq-eqb (goal s) (goal s) refl) (counts-countsb s (length q) h.counts)))

-- the costs of the lawful journeys
abbrev pub costs : Sheet → List Cost
costs s = map (λ w. w.cost) (journeys s)

pub costs-has : (s : Sheet) (g : Cost) → g ∈ costs s → HasCost s g
costs-has s g m =
    let r = map-mem (λ (w : Walk). w.cost) g (journeys s) m in
    (path_of r.0, subst (Journey s (path_of r.0)) (sym r.2) (journeys-journey s r.0 r.1))

pub has-costs : (s : Sheet) (g : Cost) → HasCost s g → g ∈ costs s
has-costs s g h =
    let b = journey-backward s h.0 g h.1 in
    mem-map (λ (w : Walk). w.cost) _ (journeys s) (homeward-journeys s b.before g b.home)

pub has-three : (s : Sheet) (g : Cost) → HasCost s g → length g ≡ figures
has-three s g h = way-three s h.1.A h.0 g h.1.way

-- no figure of a journey's cost is above 15,300,000
pub has-bounded : (s : Sheet) → Valid s → (g : Cost) → HasCost s g → (i : ℕ) → fig g i ≤ 15300000
has-bounded s v g h i = omega (arith, way-bounded s v h.1.A h.0 g h.1.way i, counts-within s h.1.A h.1.counts, v.most-steps)

-- the tie rule selects one journey for each cost, and `journey_of` computes it
pub selected-unique : (s : Sheet) (g : Cost) (p q : List ℕ) → Selected s g p → Selected s g q → p ≡ q
selected-unique s g p q x y = go (x.first q y.journey) (y.first p x.journey)
  where
    go : (p ≡ q) ⊎ Lex (rank p) (rank q) → (q ≡ p) ⊎ Lex (rank q) (rank p) → p ≡ q
    go (inl e) k = e
    go (inr h) (inl e) = sym e
    go (inr h) (inr k) = absurd (Lex-irrefl (rank p) (Lex-trans (rank p) (rank q) (rank p) h k))

paths-journey : (s : Sheet) (g : Cost) (p : List ℕ) → p ∈ map path_of (filter (with_cost g) (journeys s)) → Journey s p g
paths-journey s g p m =
    let r = map-mem path_of p (filter (with_cost g) (journeys s)) m in
    let f = filter-mem (with_cost g) r.0 (journeys s) r.1 in
    subst (λ (q : List ℕ). Journey s q g) (sym r.2) (subst (Journey s (path_of r.0)) (sameb-true r.0.cost g f.1) (journeys-journey s r.0 f.0))

journey-paths : (s : Sheet) (g : Cost) (p : List ℕ) → Journey s p g → p ∈ map path_of (filter (with_cost g) (journeys s))
journey-paths s g p j =
    let b = journey-backward s p g j in
    subst (λ (q : List ℕ). q ∈ map path_of (filter (with_cost g) (journeys s))) (sym (backward-path b))
    (mem-map path_of (record { at = goal s; before = b.before; cost = g }) (filter (with_cost g) (journeys s))
    (mem-filter (with_cost g) _ (journeys s) (homeward-journeys s b.before g b.home) (sameb-refl g)))

pub journey_of-selected : (s : Sheet) (g : Cost) → HasCost s g → Selected s g (journey_of s g)
unfolding journey_of
journey_of-selected s g h = go (sortUnique rank l) (λ p m. paths-journey s g p (sort_unique-mem rank p l m)) (λ p j. mem-sort_unique rank inj p l (journey-paths s g p j)) (sort_unique-ascending rank l)
  where
    l : List (List ℕ)
    l = map path_of (filter (with_cost g) (journeys s))

    -- so of a rank with the places in the other order
    inj : (a b : List ℕ) → rank a ≡ rank b → a ≡ b
    inj a b e = let h : reverse a ≡ reverse b = cc in sym (reverse-reverse a) ∙ ap reverse h ∙ reverse-reverse b

    go : (k : List (List ℕ)) → ((p : List ℕ) → p ∈ k → Journey s p g) → ((p : List ℕ) → Journey s p g → p ∈ k) → Ascending rank k → Selected s g (head_or [] k)
    go [] f r a = absurd (r h.0 h.1)
    go (p ∷ k) f r a = record { journey = f p (inl refl); first = λ q j. from q (r q j) }
      where
        from : (q : List ℕ) → q ∈ (p ∷ k) → (p ≡ q) ⊎ Lex (rank p) (rank q)
        from q (inl e) = inl (sym e)
        from q (inr m) = inr (before-all rank p k a.0 a.1 q m)

-- a journey of a valid sheet has a place for each step 0 to its arrival, at most 256 in all
pub journey-length : (s : Sheet) (g : Cost) → HasCost s g → length (journey_of s g) ≡ suc (arrival_of s g)
unfolding arrival_of
journey-length s g h = let j = (journey_of-selected s g h).journey in omega (arith, j.way.places)

pub journey-short : (s : Sheet) (g : Cost) → Valid s → HasCost s g → length (journey_of s g) ≤ 256
journey-short s g v h = let j = (journey_of-selected s g h).journey in omega (arith, j.way.places, counts-within s j.A j.counts, v.most-steps)
