-- Laws of arrivals and leading arrivals: what arrives has a trail, and what covers another is an order. What rests on `Leads` and on the lists is in
-- proofs/Leading.antt: the list `leading` holds exactly the leading arrivals, ascending, and Law A.
use Rattle.std.specs.Prelude.{◌≡◌, refl, List, ◌∷◌, reverse, ℕ, ◌+◌, ◌-◌, ◌*◌, ◌≤◌, length}
use Rattle.std.proofs.Common.{sym, ◌∙◌, subst, arith}
use Rattle.sheet.specs.Lists.{number}
use Rattle.sheet.specs.Sheet.{Sheet, steps}
use Rattle.costs.specs.Costs.{Cost, figures, fig, times, AtMost}
use Rattle.costs.specs.Laws.Figures.{fig-add, fig-times, at-most-refl, at-most-antisym}
use Rattle.costs.specs.Moves.{wait_of}
use Rattle.intervals.specs.Intervals.{Free, Run}
use Rattle.intervals.specs.Laws.Runs.{run-one, run_join, together-within}
use Rattle.arrivals.specs.Ways.{Way}
use Rattle.arrivals.specs.Computed.{arrival, waited}
use Rattle.arrivals.specs.Arrivals.{Arrival, key_of, Arrives, Leads, Leading}
use Rattle.arrivals.specs.Laws.Trails.{Trail, trail-three, trail-way, way-trail}

pub arrival-path : (a b : Arrival) → a.place ≡ b.place → a.step ≡ b.step → a.cost ≡ b.cost → a ≡ b
arrival-path a b p q r = λ i. record { place = p i; step = q i; cost = r i }

pub key-inj : (a b : Arrival) → key_of a ≡ key_of b → a ≡ b
key-inj a b e =
    let p : a.place ≡ b.place = cc in
    let q : a.step ≡ b.step = cc in
    let r : a.cost ≡ b.cost = cc in
    arrival-path a b p q r

-- figure i after n steps of waiting
pub fig-waited : (s : Sheet) (v n : ℕ) (g : Cost) (i : ℕ) → fig (waited s v n g) i ≡ fig g i + n * fig (wait_of s v) i
fig-waited s v n g i = omega (arith, fig-add g (times n (wait_of s v)) i, fig-times n (wait_of s v) i)

-- a trail stands at v at step t with cost g
pub record Came (s : Sheet) (v t : ℕ) (g : Cost) : Type 0 where
  pub before : List ℕ
  pub trail : Trail s (v ∷ before) g
  pub steps : length before ≡ t

pub arrives-came : (s : Sheet) (a : Arrival) → Arrives s a → Came s a.place a.step a.cost
arrives-came s a h =
    let r = way-trail s a.step h.path a.cost h.way in
    record { before = r.before; trail = subst (λ (v : ℕ). Trail s (v ∷ r.before) a.cost) h.stands r.trail; steps = r.steps }

pub came-arrives : (s : Sheet) (v t : ℕ) (g : Cost) → t ≤ steps s → Came s v t g → Arrives s (arrival v t g)
came-arrives s v t g l k =
    let m = trail-way s v k.before g k.trail in
    record {
      path = reverse (v ∷ k.before);
      way = subst (λ (n : ℕ). Way s n (reverse (v ∷ k.before)) g) k.steps m.way;
      stands = subst (λ (n : ℕ). number (reverse (v ∷ k.before)) n ≡ v) k.steps m.ends;
      in-time = l;
    }

-- `Leads` is a strict order of the arrivals whose costs have three figures
abbrev Three : Arrival → Type 0
Three a = length a.cost ≡ figures

pub arrives-three : (s : Sheet) (a : Arrival) → Arrives s a → Three a
arrives-three s a h = let k = arrives-came s a h in trail-three s (a.place ∷ k.before) a.cost k.trail

-- a, kept waiting, stands where b stands, at a cost nowhere greater
pub record Covers (s : Sheet) (a b : Arrival) : Type 0 where
  pub same_place : a.place ≡ b.place
  pub run : Run s b.place a.step b.step
  pub no-later : a.step ≤ b.step
  pub no-dearer : AtMost (waited s b.place (b.step - a.step) a.cost) b.cost

pub covers-trans : (s : Sheet) (a b c : Arrival) → Covers s a b → Covers s b c → Covers s a c
covers-trans s a b c p q =
    record {
      same_place = p.same_place ∙ q.same_place;
      run = run_join s c.place a.step b.step c.step (subst (λ (v : ℕ). Run s v a.step b.step) q.same_place p.run) q.run;
      no-later = omega (arith, p.no-later, q.no-later);
      no-dearer = record { every = at };
    }
  where
    at : (i : ℕ) → fig (waited s c.place (c.step - a.step) a.cost) i ≤ fig c.cost i
    at i =
        let m = b.step - a.step in
        let n = c.step - b.step in
        let w = fig (wait_of s c.place) i in
        let x : c.step - a.step ≡ m + n = omega (arith, p.no-later, q.no-later) in
        let h : fig (waited s c.place m a.cost) i ≤ fig b.cost i = subst (λ (v : ℕ). fig (waited s v m a.cost) i ≤ fig b.cost i) q.same_place (p.no-dearer.every i) in
        let y : (m + n) * w ≡ m * w + n * w = omega arith in
        rw x (omega (arith, fig-waited s c.place (m + n) a.cost i, fig-waited s c.place m a.cost i, fig-waited s c.place n b.cost i, q.no-dearer.every i))

-- two arrivals that cover each other are one
pub covers-antisym : (s : Sheet) (a b : Arrival) → Three a → Three b → Covers s a b → Covers s b a → a ≡ b
covers-antisym s a b l k p q =
    let e : a.step ≡ b.step = omega (arith, p.no-later, q.no-later) in
    arrival-path a b p.same_place e (at-most-antisym a.cost b.cost (l ∙ sym k)
    (record { every = λ i. omega (arith, p.no-dearer.every i, fig-waited s b.place (b.step - a.step) a.cost i) })
    (record { every = λ i. omega (arith, q.no-dearer.every i, fig-waited s a.place (a.step - b.step) b.cost i) }))

pub leads-within : (s : Sheet) (a b : Arrival) → Leads s a b → b.step ≤ steps s
leads-within s a b h = together-within s b.place a.step b.step h.together

-- a leads b, and their costs have three figures
pub record Over (s : Sheet) (a b : Arrival) : Type 0 where
  pub leads : Leads s a b
  pub left : Three a
  pub right : Three b

-- the place of an arrival is unoccupied at its step
pub arrives-free : (s : Sheet) (a : Arrival) → Arrives s a → Free s a.place a.step
arrives-free s a h = subst (λ (v : ℕ). Free s v a.step) h.stands (h.way.free a.step (omega arith))

-- at one step, the cost that is nowhere greater covers
pub covers-beside : (s : Sheet) (v t : ℕ) (h g : Cost) → Free s v t → AtMost h g → Covers s (arrival v t h) (arrival v t g)
covers-beside s v t h g f l =
    let z : t - t ≡ 0 = omega arith in
    record { same_place = refl; run = run-one s v t f; no-later = omega arith; no-dearer = rw z (record { every = λ i. omega (arith, fig-waited s v 0 h i, l.every i) }) }

pub covers_self : (s : Sheet) (a : Arrival) → Arrives s a → Covers s a a
covers_self s a h = covers-beside s a.place a.step a.cost a.cost (arrives-free s a h) (at-most-refl a.cost)

-- (T3) every arrival is led by a leading arrival of its safe interval, or is one
pub record Led (s : Sheet) (a : Arrival) : Type 0 where
  pub by : Arrival
  pub is : Leading s by
  pub covers : Covers s by a
