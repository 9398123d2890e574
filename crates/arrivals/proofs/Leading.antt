-- Laws of arrivals and leading arrivals. The list `leading` holds exactly the leading arrivals, ascending. Law A: every arrival is led by a
-- leading arrival of its safe interval, or is one; leading to another arrival is a strict order, so a minimal one is found in the list.
-- They stand here, and not in specs/, so that a must-fail edit of what they rest on is refused by them, and not as a text that cannot be read.
-- Assumes nothing.
use Rattle.std.specs.Prelude.{◌≡◌, refl, ◌⊎◌, ◌≢◌, Bool, true, false, not, ◌&&◌, map, ℕ, zero, suc, ◌+◌, ◌-◌, ◌≤◌, length, eqb, leb}
use Rattle.std.proofs.Common.{sym, ◌∙◌, ap, subst, inl, inr, true≢false, arith, eqb-true, eq-eqb, leb-true, leb-false, le-leb}
use Rattle.std.proofs.lemmas.Bool.{eqb-false, not-true}
use Rattle.sheet.specs.Lists.{◌∈◌}
use Rattle.sheet.specs.Sorting.{Ascending}
use Rattle.sheet.specs.Sheet.{Sheet, steps}
use Rattle.sheet.specs.Laws.Order.{and-true, true-and, decided}
use Rattle.sheet.specs.Laws.Members.{mem-left, mem-right, mem-append, filter-mem, mem-filter, map-mem, mem-map, all_true, true-all, least-below, Least}
use Rattle.sheet.specs.Laws.Ascending.{sort_unique-mem, mem-sort_unique, sort_unique-ascending, filter-ascending}
use Rattle.costs.specs.Costs.{figures}
use Rattle.costs.specs.Computed.{at_most_b, sameb}
use Rattle.costs.specs.Laws.Figures.{at_most_b-true, at-most-at_most_b, sameb-true, sameb-refl}
use Rattle.intervals.specs.Intervals.{Run}
use Rattle.intervals.specs.Computed.{runb}
use Rattle.intervals.specs.Laws.Runs.{together-run, together-within, runb-true, run-runb}
use Rattle.intervals.proofs.Runs.{run-together}
use Rattle.arrivals.specs.Computed.{arrival, waited, walks, leadsb, at_step, arrivals_to, arrivals, unledb, leading}
use Rattle.arrivals.specs.Arrivals.{Arrival, key_of, Arrives, Leads, Leading}
use Rattle.arrivals.specs.Laws.Trails.{walks-trail, trail-walks}
use Rattle.arrivals.specs.Laws.Leading.{arrival-path, key-inj, Came, arrives-came, came-arrives, arrives-three, Covers, covers-trans, covers-antisym, leads-within, Over, covers_self, Led}

-- the test for `Leads`
pub leadsb-true : (s : Sheet) (a b : Arrival) → leadsb s a b ≡ true → Leads s a b
unfolding leadsb
leadsb-true s a b h =
    let v = b.place in
    let n = b.step - a.step in
    let d = not (sameb (key_of a) (key_of b)) in
    let r = runb s v a.step n in
    let g = at_most_b (waited s v n a.cost) b.cost in
    let m = leb b.step (steps s) in
    let h₁ = and-true (eqb a.place v) (leb a.step b.step && (g && d && m && r)) h in
    let h₂ = and-true (leb a.step b.step) (g && d && m && r) h₁.1 in
    let h₃ = and-true (g && d && m) r h₂.1 in
    let h₄ = and-true (g && d) m h₃.0 in
    let h₅ = and-true g d h₄.0 in
    let le : a.step ≤ b.step = leb-true _ _ h₂.0 in
    let e : a.step + n ≡ b.step = omega arith in
    record {
      differ = differ h₅.1;
      same_place = eqb-true _ _ h₁.0;
      together = run-together s v a.step b.step le (leb-true _ _ h₄.1) (subst (Run s v a.step) e (runb-true s v a.step n h₃.1));
      no-later = le;
      no-dearer = at_most_b-true (waited s v n a.cost) b.cost h₅.0;
    }
  where
    differ : not (sameb (key_of a) (key_of b)) ≡ true → a ≢ b
    differ p e = true≢false (sym (subst (λ (x : Arrival). sameb (key_of a) (key_of x) ≡ true) e (sameb-refl (key_of a))) ∙ not-true (sameb (key_of a) (key_of b)) p)

pub leads-leadsb : (s : Sheet) (a b : Arrival) → Leads s a b → leadsb s a b ≡ true
unfolding leadsb
leads-leadsb s a b h =
    let v = b.place in
    let n = b.step - a.step in
    let d = not (sameb (key_of a) (key_of b)) in
    let r = runb s v a.step n in
    let g = at_most_b (waited s v n a.cost) b.cost in
    let m = leb b.step (steps s) in
    let le : a.step ≤ b.step = h.no-later in
    let e : b.step ≡ a.step + n = omega arith in
    let r₁ : r ≡ true = run-runb s v a.step n (subst (Run s v a.step) e (together-run s v a.step b.step h.together)) in
    true-and (eqb a.place v) (leb a.step b.step && (g && d && m && r)) (eq-eqb _ _ h.same_place)
    (true-and (leb a.step b.step) (g && d && m && r) (le-leb _ _ le)
    (true-and (g && d && m) r (true-and (g && d) m (true-and g d (at-most-at_most_b (waited s v n a.cost) b.cost h.no-dearer) (differ (sameb (key_of a) (key_of b)) refl)) (le-leb _ _ (together-within s v a.step b.step h.together))) r₁))
  where
    differ : (t : Bool) → sameb (key_of a) (key_of b) ≡ t → not t ≡ true
    differ true p = absurd (h.differ (key-inj a b (sameb-true (key_of a) (key_of b) p)))
    differ false p = refl

pub Leads? : (s : Sheet) (a b : Arrival) → Dec (Leads s a b)
Leads? s a b = decided (leadsb s a b) (leadsb-true s a b) (leads-leadsb s a b)

-- the enumeration lists the arrivals
abbrev StandsAt : Sheet → Arrival → Type 0
StandsAt s a = Came s a.place a.step a.cost

at_step-law : (s : Sheet) (t : ℕ) (a : Arrival) → a ∈ map (at_step t) (walks s t) → StandsAt s a × (a.step ≡ t)
at_step-law s t a m =
    let r = map-mem (at_step t) a (walks s t) m in
    let h = walks-trail s t r.0 r.1 in
    subst (λ (x : Arrival). StandsAt s x × (x.step ≡ t)) (sym r.2) (record { before = r.0.before; trail = h.0; steps = h.1 }, refl)

arrivals_to-law : (s : Sheet) (t : ℕ) (a : Arrival) → a ∈ arrivals_to s t → StandsAt s a × (a.step ≤ t)
unfolding arrivals_to
arrivals_to-law s zero a m = let r = at_step-law s 0 a m in (r.0, omega (arith, r.1))
arrivals_to-law s (suc t) a m = go (arrivals_to-law s t a) (mem-append a (arrivals_to s t) (map (at_step (suc t)) (walks s (suc t))) m)
  where
    go : (a ∈ arrivals_to s t → StandsAt s a × (a.step ≤ t)) → a ∈ arrivals_to s t ⊎ a ∈ map (at_step (suc t)) (walks s (suc t)) → StandsAt s a × (a.step ≤ suc t)
    go f (inl n) = let r = f n in (r.0, omega (arith, r.1))
    go f (inr n) = let r = at_step-law s (suc t) a n in (r.0, omega (arith, r.1))

arrivals_to-mem : (s : Sheet) (n t : ℕ) (a : Arrival) → n ≤ t → a ∈ map (at_step n) (walks s n) → a ∈ arrivals_to s t
unfolding arrivals_to
arrivals_to-mem s n zero a h m = let e : n ≡ 0 = omega arith in subst (λ (k : ℕ). a ∈ map (at_step k) (walks s k)) e m
arrivals_to-mem s n (suc t) a h m = go (arrivals_to-mem s n t a) (leb n t) refl
  where
    go : (n ≤ t → a ∈ map (at_step n) (walks s n) → a ∈ arrivals_to s t) → (b : Bool) → leb n t ≡ b → a ∈ arrivals_to s (suc t)
    go f true e = mem-left a (arrivals_to s t) (map (at_step (suc t)) (walks s (suc t))) (f (leb-true n t e) m)
    go f false e =
        let q : n ≡ suc t = omega (arith, leb-false n t e) in
        mem-right a (arrivals_to s t) (map (at_step (suc t)) (walks s (suc t))) (subst (λ (k : ℕ). a ∈ map (at_step k) (walks s k)) q m)

pub arrivals-arrives : (s : Sheet) (a : Arrival) → a ∈ arrivals s → Arrives s a
unfolding arrivals
arrivals-arrives s a m =
    let r = arrivals_to-law s (steps s) a (sort_unique-mem key_of a (arrivals_to s (steps s)) m) in
    came-arrives s a.place a.step a.cost r.1 r.0

pub arrives-arrivals : (s : Sheet) (a : Arrival) → Arrives s a → a ∈ arrivals s
unfolding arrivals
arrives-arrivals s a h =
    let k = arrives-came s a h in
    let t = length k.before in
    let w = mem-map (at_step t) _ (walks s t) (trail-walks s a.place k.before a.cost k.trail) in
    let e : a ≡ arrival a.place t a.cost = arrival-path a (arrival a.place t a.cost) refl (sym k.steps) refl in
    mem-sort_unique key_of key-inj a (arrivals_to s (steps s))
    (arrivals_to-mem s t (steps s) a (omega (arith, k.steps, h.in-time)) (subst (λ (x : Arrival). x ∈ map (at_step t) (walks s t)) (sym e) w))

pub leading-is : (s : Sheet) (a : Arrival) → a ∈ leading s → Leading s a
unfolding leading unledb
leading-is s a m =
    let f = filter-mem (unledb s (arrivals s)) a (arrivals s) m in
    record {
      arrives = arrivals-arrives s a f.0;
      unled = λ b j d. true≢false (sym (leads-leadsb s b a d) ∙ not-true (leadsb s b a) (all_true (λ b. not (leadsb s b a)) (arrivals s) f.1 b (arrives-arrivals s b j)));
    }

pub is_leading : (s : Sheet) (a : Arrival) → Leading s a → a ∈ leading s
unfolding leading unledb
is_leading s a o =
    mem-filter (unledb s (arrivals s)) a (arrivals s) (arrives-arrivals s a o.arrives)
    (true-all (λ b. not (leadsb s b a)) (arrivals s) (λ b m. clear b (arrivals-arrives s b m) (leadsb s b a) refl))
  where
    clear : (b : Arrival) → Arrives s b → (t : Bool) → leadsb s b a ≡ t → not (leadsb s b a) ≡ true
    clear b j true e = absurd (o.unled b j (leadsb-true s b a e))
    clear b j false e = ap not e

pub leading-ascending : (s : Sheet) → Ascending key_of (leading s)
unfolding leading arrivals
leading-ascending s = filter-ascending key_of (unledb s (arrivals s)) (arrivals s) (sort_unique-ascending key_of (arrivals_to s (steps s)))

-- `Leads` is a strict order of the arrivals whose costs have three figures
pub leads-covers : (s : Sheet) (a b : Arrival) → Leads s a b → Covers s a b
leads-covers s a b h =
    record { same_place = h.same_place; run = together-run s b.place a.step b.step h.together; no-later = h.no-later; no-dearer = h.no-dearer }

pub covers-leads : (s : Sheet) (a b : Arrival) → b.step ≤ steps s → a ≢ b → Covers s a b → Leads s a b
covers-leads s a b h n c =
    record { differ = n; same_place = c.same_place; together = run-together s b.place a.step b.step c.no-later h c.run; no-later = c.no-later; no-dearer = c.no-dearer }

Over? : (s : Sheet) (a b : Arrival) → Dec (Over s a b)
Over? s a b = go (Leads? s a b) (eqb (length a.cost) figures) (eqb (length b.cost) figures) refl refl
  where
    go : Dec (Leads s a b) → (x y : Bool) → eqb (length a.cost) figures ≡ x → eqb (length b.cost) figures ≡ y → Dec (Over s a b)
    go (no h) x y p q = no (λ o. h o.leads)
    go (yes h) true true p q = yes (record { leads = h; left = eqb-true _ _ p; right = eqb-true _ _ q })
    go (yes h) true false p q = no (λ o. eqb-false _ _ q o.right)
    go (yes h) false y p q = no (λ o. eqb-false _ _ p o.left)

Over-irrefl : (s : Sheet) (a : Arrival) → Over s a a → ⊥
Over-irrefl s a h = h.leads.differ refl

Over-trans : (s : Sheet) (a b c : Arrival) → Over s a b → Over s b c → Over s a c
Over-trans s a b c p q =
    record {
      leads = covers-leads s a c (leads-within s b c q.leads) differ (covers-trans s a b c (leads-covers s a b p.leads) (leads-covers s b c q.leads));
      left = p.left;
      right = q.right;
    }
  where
    differ : a ≢ c
    differ e = p.leads.differ (covers-antisym s a b p.left p.right (leads-covers s a b p.leads) (subst (Covers s b) (sym e) (leads-covers s b c q.leads)))

-- (T3) every arrival is led by a leading arrival of its safe interval, or is one
pub led : (s : Sheet) (a : Arrival) → Arrives s a → Led s a
led s a h = go (least-below (Over s) (Over? s) (Over-irrefl s) (Over-trans s) (arrivals s) a)
  where
    go : Least (Over s) (Over? s) (Over-irrefl s) (Over-trans s) (arrivals s) a → Led s a
    go r = pick r.below
      where
        on : Arrives s r.least → Leading s r.least
        on j =
            record {
              arrives = j;
              unled = λ b k d. r.none_below b (arrives-arrivals s b k) (record { leads = d; left = arrives-three s b k; right = arrives-three s r.least j });
            }

        pick : (r.least ≡ a) ⊎ ((r.least ∈ arrivals s) × Over s r.least a) → Led s a
        pick (inl e) = record { by = r.least; is = on (subst (Arrives s) (sym e) h); covers = subst (λ (x : Arrival). Covers s x a) (sym e) (covers_self s a h) }
        pick (inr m) = record { by = r.least; is = on (arrivals-arrives s r.least m.0); covers = leads-covers s r.least a m.1.leads }
