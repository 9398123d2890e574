-- Waiting and what lies ahead. An arrival on the way to a front cost is what a leading arrival of its safe interval becomes by waiting, and what
-- only one becomes: were the leading arrival lower, the front cost would be dominated; were there two, the earlier would lead the other. What lies
-- ahead is read forwards from any place and step, over any relation of steps and any end.
use Rattle.std.specs.Prelude.{◌≡◌, refl, Bool, true, false, List, [], ◌∷◌, ◌++◌, ℕ, suc, ◌+◌, ◌-◌, ◌*◌, ◌≤◌, ◌<◌, length, leb}
use Rattle.std.proofs.Common.{sym, ◌∙◌, ap, subst, append-nil, arith, leb-true, leb-false}
use Rattle.std.proofs.Math.Seq.{append_snoc, get_or-append_seam}
use Rattle.sheet.specs.Lists.{number}
use Rattle.sheet.specs.Sheet.{Sheet, steps, goal}
use Rattle.costs.specs.Costs.{Cost, figures, zero_cost, fig, add, AtMost}
use Rattle.costs.specs.Moves.{wait_of}
use Rattle.costs.specs.Laws.Figures.{fig-add, add_assoc, zero_right, at-most-antisym, undominated-same, same?}
use Rattle.intervals.specs.Intervals.{Free, Run}
use Rattle.arrivals.specs.Ways.{Move, Way}
use Rattle.arrivals.specs.Arrivals.{Arrival, key_of, Arrives, Leading}
use Rattle.arrivals.specs.Computed.{arrival, waited}
use Rattle.arrivals.specs.Laws.Trails.{way_on, way-three}
use Rattle.arrivals.specs.Laws.Leading.{key-inj, fig-waited, arrives-three, Covers, Led}
use Rattle.arrivals.proofs.Leading.{covers-leads, led}
use Rattle.arrivals.specs.Laws.Steps.{arrives-until}
use Rattle.journeys.specs.Journeys.{Counts, Journey, HasCost}
use Rattle.journeys.specs.Front.{OnFront}
use Rattle.journeys.specs.Laws.Counts.{counts-within}
use Rattle.journeys.specs.Laws.Journeys.{has-three}

-- the cost of the arrival e, kept waiting until step t
abbrev pub kept : Sheet → Arrival → ℕ → Cost
kept s e t = waited s e.place (t - e.step) e.cost

-- the arrival e can be kept waiting until step t: its place is free until then
pub record Stays (s : Sheet) (e : Arrival) (t : ℕ) : Type 0 where
  pub soon : e.step ≤ t
  pub run : Run s e.place e.step t

-- a cart that arrives as e and waits stands as a
pub record Waits (s : Sheet) (e a : Arrival) : Type 0 where
  pub place : e.place ≡ a.place
  pub stays : Stays s e a.step
  pub sum : kept s e a.step ≡ a.cost

-- one step on, to v, and what comes after it; `Go u v t c`: from u at step t the cart can be at v at the next step, at cost c
pub record Onward (Go : ℕ → ℕ → ℕ → Cost → Type 0) (Rest : Cost → Type 0) (u v t : ℕ) (g : Cost) : Type 0 where
  pub price : Cost
  pub after : Cost
  pub goes : Go u v t price
  pub rest : Rest after
  pub sum : g ≡ add price after

-- the way ends; `End v t`: it may end at v at step t
pub record Stops (End : ℕ → ℕ → Type 0) (v t : ℕ) (g : Cost) : Type 0 where
  pub ends : End v t
  pub nothing : g ≡ zero_cost

-- from u at step t the cart goes on through the places p, one for each step after t, and may end there; all at cost g
abbrev pub Ahead : (ℕ → ℕ → ℕ → Cost → Type 0) → (ℕ → ℕ → Type 0) → ℕ → ℕ → List ℕ → Cost → Type 0
Ahead Go End u t [] g = Stops End u t g
Ahead Go End u t (v ∷ p) g = Onward Go (Ahead Go End v (suc t) p) u v t g

-- one lawful step: from u at step t to v at the next
pub record Goes (s : Sheet) (u v t : ℕ) (c : Cost) : Type 0 where
  pub move : Move s u v t c
  pub free : Free s v (suc t)

-- a journey may end at v at step t
pub record Home (s : Sheet) (v t : ℕ) : Type 0 where
  pub place : v ≡ goal s
  pub counts : Counts s t

-- a cart at v at step t with cost g can go on by the places p, one for each step after t, and stand at the goal at step A, which counts,
-- with cost f in all
pub record Rest (s : Sheet) (f : Cost) (A v t : ℕ) (g : Cost) (p : List ℕ) : Type 0 where
  pub price : Cost
  pub rest : Ahead (Goes s) (Home s) v t p price
  pub until : length p + t ≡ A
  pub sum : add g price ≡ f

-- by some places it can
pub record Towards (s : Sheet) (f : Cost) (A v t : ℕ) (g : Cost) : Type 0 where
  pub places : List ℕ
  pub rest : Rest s f A v t g places

pub ahead-counts : (s : Sheet) (v t : ℕ) (p : List ℕ) (g : Cost) → Ahead (Goes s) (Home s) v t p g → Counts s (length p + t)
ahead-counts s v t [] g a = let e : t ≡ 0 + t = omega arith in subst (Counts s) e a.ends.counts
ahead-counts s v t (x ∷ p) g a = let e : length p + suc t ≡ suc (length p) + t = omega arith in subst (Counts s) e (ahead-counts s x (suc t) p a.after a.rest)

pub towards-within : (s : Sheet) (f : Cost) (A v t : ℕ) (g : Cost) → Towards s f A v t g → t ≤ steps s
towards-within s f A v t g k =
    omega (arith, counts-within s (length k.places + t) (ahead-counts s v t k.places k.rest.price k.rest.rest))

-- at the goal, one step back, and one step on
pub rest_end : (s : Sheet) (f : Cost) (A v : ℕ) → length f ≡ figures → Home s v A → Rest s f A v A f []
rest_end s f A v l h = record { price = zero_cost; rest = record { ends = h; nothing = refl }; until = omega arith; sum = zero_right f l }

pub rest_back : (s : Sheet) (f : Cost) (A u v t : ℕ) (h c : Cost) (p : List ℕ) → Goes s u v t c → Rest s f A v (suc t) (add h c) p → Rest s f A u t h (v ∷ p)
rest_back s f A u v t h c p m k =
    record {
      price = add c k.price;
      rest = record { price = c; after = k.price; goes = m; rest = k.rest; sum = refl };
      until = omega (arith, k.until);
      sum = sym (add_assoc h c k.price) ∙ k.sum;
    }

pub towards-back : (s : Sheet) (f : Cost) (A u v t : ℕ) (h c : Cost) → Towards s f A v (suc t) (add h c) → Goes s u v t c → Towards s f A u t h
towards-back s f A u v t h c k m = record { places = v ∷ k.places; rest = rest_back s f A u v t h c k.places m k.rest }

pub record RestOn (s : Sheet) (f : Cost) (A v t : ℕ) (g : Cost) (x : ℕ) (p : List ℕ) : Type 0 where
  pub price : Cost
  pub goes : Goes s v x t price
  pub rest : Rest s f A x (suc t) (add g price) p

pub rest-on : (s : Sheet) (f : Cost) (A v t : ℕ) (g : Cost) (x : ℕ) (p : List ℕ) → Rest s f A v t g (x ∷ p) → RestOn s f A v t g x p
rest-on s f A v t g x p k =
    let a = k.rest in
    record {
      price = a.price;
      goes = a.goes;
      rest = record { price = a.after; rest = a.rest; until = omega (arith, k.until); sum = add_assoc g a.price a.after ∙ ap (add g) (sym a.sum) ∙ k.sum };
    }

pub record Next (s : Sheet) (f : Cost) (A v t : ℕ) (g : Cost) : Type 0 where
  pub to : ℕ
  pub price : Cost
  pub goes : Goes s v to t price
  pub towards : Towards s f A to (suc t) (add g price)

pub towards-next : (s : Sheet) (f : Cost) (A v t : ℕ) (g : Cost) → Towards s f A v t g → t < A → Next s f A v t g
towards-next s f A v t g k l = go k.places k.rest
  where
    go : (p : List ℕ) → Rest s f A v t g p → Next s f A v t g
    go [] r = absurd (omega (arith, r.until))
    go (x ∷ p) r = let n = rest-on s f A v t g x p r in record { to = x; price = n.price; goes = n.goes; towards = record { places = p; rest = n.rest } }

-- a way that stands at v at step t, or an arrival there, and what lies ahead make a journey
pub ahead-journey : (s : Sheet) (v t : ℕ) (g r : Cost) (q p : List ℕ) → Way s t q g → number q t ≡ v → Ahead (Goes s) (Home s) v t p r → Journey s (q ++ p) (add g r)
ahead-journey s v t g r q [] w e k =
    let z : g ≡ add g r = sym (ap (add g) k.nothing ∙ zero_right g (way-three s t q g w)) in
    let j : Journey s q g = record { A = t; way = w; ends = e ∙ k.ends.place; counts = k.ends.counts } in
    subst (λ (l : List ℕ). Journey s l (add g r)) (sym (append-nil q)) (subst (Journey s q) z j)
ahead-journey s v t g r q (x ∷ p) w e k =
    let y : number (q ++ (x ∷ [])) (suc t) ≡ x = subst (λ (n : ℕ). number (q ++ (x ∷ [])) n ≡ x) w.places (get_or-append_seam q x [] 0) in
    let z : add (add g k.price) k.after ≡ add g r = add_assoc g k.price k.after ∙ ap (add g) (sym k.sum) in
    let n = way_on s t v x q g k.price w e k.goes.move k.goes.free in
    subst (λ (l : List ℕ). Journey s l (add g r)) (append_snoc q x p)
    (subst (Journey s ((q ++ (x ∷ [])) ++ p)) z (ahead-journey s x (suc t) (add g k.price) k.after (q ++ (x ∷ [])) p n y k.rest))

pub towards-has : (s : Sheet) (v t : ℕ) (g r : Cost) (p : List ℕ) → Arrives s (arrival v t g) → Ahead (Goes s) (Home s) v t p r → HasCost s (add g r)
towards-has s v t g r p a k = (a.path ++ p, ahead-journey s v t g r a.path p a.way a.stands k)

-- on the way to a front cost, a cost is reached exactly from a leading arrival by waiting
pub record Exact (s : Sheet) (a : Arrival) : Type 0 where
  pub from : Arrival
  pub leads : Leading s from
  pub waits : Waits s from a

pub arrives-exact : (s : Sheet) (f : Cost) (A : ℕ) (a : Arrival) → OnFront s f → Towards s f A a.place a.step a.cost → Arrives s a → Exact s a
arrives-exact s f A a o k r = go (led s a r)
  where
    t : ℕ
    t = a.step

    h : Cost
    h = a.cost

    z : Cost
    z = k.rest.price

    go : Led s a → Exact s a
    go x =
        let e = x.by in
        let c = x.covers in
        let w = kept s e t in
        let p : a.place ≡ e.place = sym c.same_place in
        let y : Stays s e t = record { soon = c.no-later; run = subst (λ (v : ℕ). Run s v e.step t) p c.run } in
        let m : AtMost w h = subst (λ (v : ℕ). AtMost (waited s v (t - e.step) e.cost) h) p c.no-dearer in
        let b : Arrives s (arrival e.place t w) = arrives-until s t e x.is.arrives y.soon r.in-time y.run in
        let j : HasCost s (add w z) = towards-has s e.place t w z k.places b (subst (λ (v : ℕ). Ahead (Goes s) (Home s) v t k.places z) p k.rest.rest) in
        let l : AtMost (add w z) f = record { every = λ i. omega (arith, fig-add w z i, fig-add h z i, ap (λ (y : Cost). fig y i) k.rest.sum, m.every i) } in
        let q : add w z ≡ f = undominated-same (add w z) f (has-three s (add w z) j ∙ sym (has-three s f o.has)) l (o.undominated (add w z) j) in
        let n : AtMost h w = record { every = λ i. omega (arith, fig-add w z i, fig-add h z i, ap (λ (y : Cost). fig y i) k.rest.sum, ap (λ (y : Cost). fig y i) q) } in
        record {
          from = e;
          leads = x.is;
          waits = record { place = c.same_place; stays = y; sum = at-most-antisym w h (arrives-three s (arrival e.place t w) b ∙ sym (arrives-three s a r)) m n };
        }

-- one leading arrival at most becomes a by waiting: the earlier of two would become the other
waits-between : (s : Sheet) (a d e : Arrival) → d.step ≤ e.step → Waits s d a → Waits s e a → Covers s d e
waits-between s a d e l p q =
    record {
      same_place = same;
      run = λ i x y. subst (λ (v : ℕ). Free s v i) same (p.stays.run i x (omega (arith, q.stays.soon)));
      no-later = l;
      no-dearer = record { every = at };
    }
  where
    same : d.place ≡ e.place
    same = p.place ∙ sym q.place

    at : (i : ℕ) → fig (waited s e.place (e.step - d.step) d.cost) i ≤ fig e.cost i
    at i =
        let v = e.place in
        let m = e.step - d.step in
        let n = a.step - e.step in
        let w = fig (wait_of s v) i in
        let x : a.step - d.step ≡ m + n = omega (arith, q.stays.soon) in
        let y : (m + n) * w ≡ m * w + n * w = omega arith in
        let g : waited s v (m + n) d.cost ≡ a.cost = ap (λ (k : ℕ). waited s v k d.cost) (sym x) ∙ ap (λ (u : ℕ). waited s u (a.step - d.step) d.cost) (sym same) ∙ p.sum in
        let z : fig (waited s v (m + n) d.cost) i ≡ fig (waited s v n e.cost) i = ap (λ (c : Cost). fig c i) (g ∙ sym q.sum) in
        omega (arith, z, y, fig-waited s v (m + n) d.cost i, fig-waited s v m d.cost i, fig-waited s v n e.cost i)

waits-same : (s : Sheet) (a d e : Arrival) → d.step ≤ e.step → Leading s d → Leading s e → Waits s d a → Waits s e a → d ≡ e
waits-same s a d e l ld le p q = go (same? (key_of d) (key_of e))
  where
    go : Dec (key_of d ≡ key_of e) → d ≡ e
    go (yes k) = key-inj d e k
    go (no n) = absurd (le.unled d ld.arrives (covers-leads s d e le.arrives.in-time (λ k. n (ap key_of k)) (waits-between s a d e l p q)))

pub waits-once : (s : Sheet) (a d e : Arrival) → Leading s d → Leading s e → Waits s d a → Waits s e a → d ≡ e
waits-once s a d e ld le p q = go (leb d.step e.step) refl
  where
    go : (b : Bool) → leb d.step e.step ≡ b → d ≡ e
    go true h = waits-same s a d e (leb-true d.step e.step h) ld le p q
    go false h = sym (waits-same s a e d (omega (arith, leb-false d.step e.step h)) le ld q p)
