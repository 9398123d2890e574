-- The walk as a whole: it begins at the start, each step goes to the lowest place that is on the way, and at the arrival the places written are the
-- journey that the tie rule selects. What is marked is what is on the way, so the lowest marked place is the lowest from which the rest can be met.
-- Assumes nothing.
use mathlib.Core.Path.{◌≡◌, refl, sym, ◌∙◌, ap, ap₂, subst}
use mathlib.Core.List.{List, [], ◌∷◌, ◌++◌}
use Prim.Native.Nat.{ℕ, suc, ◌+◌, ◌-◌, ◌≤◌, ◌<◌}
use native.Mathlib.Omega.{arith}
use lib.ListN.{length, set, take, drop, replicate, length-append}
use lib.Seq.{sets, sets-eq, length-sets, take_at}
use Rattle.sheet.specs.Lists.{filled}
use Rattle.sheet.specs.Sheet.{Sheet, start, steps}
use Rattle.sheet.specs.Valid.{Valid}
use Rattle.costs.specs.Costs.{Cost, zero_cost, add}
use Rattle.costs.specs.Laws.Figures.{zero_right}
use Rattle.intervals.specs.Intervals.{Free}
use Rattle.arrivals.specs.Ways.{Move}
use Rattle.arrivals.specs.Arrivals.{Arrival, Arrives}
use Rattle.arrivals.specs.Computed.{arrival}
use Rattle.arrivals.specs.Laws.Bounds.{move-once, arrives-bounded, arrives-place}
use Rattle.arrivals.specs.Laws.Leading.{arrives-three, came-arrives}
use Rattle.arrivals.specs.Laws.Steps.{arrives-on}
use Rattle.journeys.specs.Journeys.{Journey}
use Rattle.journeys.specs.Computed.{journey_of, arrival_of}
use Rattle.journeys.specs.Front.{OnFront}
use Rattle.journeys.specs.Held.{Layable}
use Rattle.journeys.specs.Inner.Lookup.{stand_at}
use Rattle.journeys.specs.Inner.Waits.{Rows, Rowed}
use Rattle.journeys.specs.Inner.Marks.{SameButMarks, Marks, MarkedAll, Bared}
use Rattle.journeys.specs.Inner.Walk.{Marked, after, NextOf, LowestNext, Walkable}
use Rattle.journeys.specs.Laws.Exact.{Waits, Goes, Home, Rest, Towards, towards-within, towards-next}
use Rattle.journeys.specs.Laws.Goal.{Earliest, arrival_of-earliest}
use Rattle.journeys.specs.Laws.Journeys.{has-three, journey_of-selected, journey-length}
use Rattle.journeys.specs.Laws.Tie.{Walked, walked_start, walked_on, walked_end, journey-forth}
use Rattle.journeys.proofs.Forwards.{first-journey_of}
use Rattle.journeys.specs.Laws.Tight.{Tight, reached-tight, tight-reached}
use Rattle.journeys.proofs.Marking.{same-rowed, bared-back}
use Rattle.journeys.proofs.Tightness.{low-place, end-rowed}

-- what is marked is what is on the way
module _ {s : Sheet} {f : Cost} {A n : ℕ} {xs : List ℕ} (rows : Rows s n xs) (m : Marks s f A n xs 0) where
  marked-towards : (a : Arrival) → Marked s n xs a → Towards s f A a.place a.step a.cost
  marked-towards a x = tight-reached s f A (stand_at xs x.row) a (m.sound x.row a.step x.within x.waits.stays.soon x.past) x.waits

  marked-free : (a : Arrival) → Marked s n xs a → Free s a.place a.step
  marked-free a x = subst (λ (v : ℕ). Free s v a.step) x.waits.place (x.waits.stays.run a.step x.waits.stays.soon (omega arith))

  towards-marked : OnFront s f → (a : Arrival) → Arrives s a → Towards s f A a.place a.step a.cost → Marked s n xs a
  towards-marked o a h k =
      let x = reached-tight s f A a o h k in
      let r = rows.every x.0 x.1.leads in
      record {
        row = r.0;
        within = r.1;
        waits = subst (λ (e : Arrival). Waits s e a) (sym r.2) x.2;
        past = m.done r.0 a.step r.1 (omega arith) (subst (λ (e : Arrival). Tight s f A e a.step) (sym r.2) x.1);
      }

-- the walk has come to a: it arrives there on the way to f, and the places gone to, which are written, are the first so far
pub record CameTo (s : Sheet) (f : Cost) (A : ℕ) (a : Arrival) (path path' : List ℕ) : Type 0 where
  pub arrives : Arrives s a
  pub towards : Towards s f A a.place a.step a.cost
  pub gone : List ℕ
  pub walked : Walked s f A a.place a.step a.cost gone
  pub count : length gone ≡ a.step
  pub written : path' ≡ sets path 1 gone

-- a store behind a run of stores
sets_more : (q l : List ℕ) (i j u : ℕ) → j ≡ length q + i → set (sets l i q) j u ≡ sets l i (q ++ (u ∷ []))
sets_more [] l i j u e = let z : j ≡ i = omega (arith, e) in ap (λ (k : ℕ). set l k u) z
sets_more (x ∷ q) l i j u e = sets_more q (set l i x) (suc i) j u (omega (arith, e))

-- what the sheet, its front cost f and the marks for it give
pub record Guided (s : Sheet) (f : Cost) (A n : ℕ) (xs : List ℕ) : Type 0 where
  pub valid : Valid s
  pub on-front : OnFront s f
  pub arrives_at : A ≡ arrival_of s f
  pub rows : Rows s n xs
  pub marks : Marks s f A n xs 0

module _ {s : Sheet} {f : Cost} {A n : ℕ} {xs : List ℕ} (k : Guided s f A n xs) where
  journey : Journey s (journey_of s f) f
  journey = (journey_of-selected s f k.on-front.has).journey

  free-start : Free s (start s) 0
  free-start = subst (λ (v : ℕ). Free s v 0) journey.way.starts (journey.way.free 0 (omega arith))

  earliest : Earliest s f A
  earliest = subst (Earliest s f) (sym k.arrives_at) (arrival_of-earliest s f k.on-front.has)

  pub journey-day : A ≤ 255
  journey-day = omega (arith, earliest.there.arrives.in-time, k.valid.most-steps)

  pub come-start : {v : ℕ} {g : Cost} {path : List ℕ} → v ≡ start s → g ≡ zero_cost → CameTo s f A (arrival v 0 g) path path
  come-start {v} {g} {path} e q =
      subst (λ (v : ℕ). CameTo s f A (arrival v 0 g) path path) (sym e)
      (subst (λ (g : Cost). CameTo s f A (arrival (start s) 0 g) path path) (sym q)
      (record {
        arrives = came-arrives s (start s) 0 zero_cost (omega arith) (record { before = []; trail = record { starts = refl; free = free-start; nothing = refl }; steps = refl });
        towards =
            let x = journey-forth s f (journey_of s f) journey in
            let z : journey.A ≡ A = omega (arith, journey.way.places, journey-length s f k.on-front.has, k.arrives_at) in
            record { places = x.after; rest = subst (λ (t : ℕ). Rest s f t (start s) 0 zero_cost x.after) z x.rest };
        gone = [];
        walked = walked_start s f A;
        count = refl;
        written = refl;
      }))

  -- one step on
  on : {a : Arrival} → Arrives s a → (v : ℕ) (c : Cost) → Move s a.place v a.step c → Free s v (suc a.step) → suc a.step ≤ steps s → Arrives s (after a v c)
  on {a} h v c m fr l = arrives-on s a.place v a.step a.cost c h m fr l

  goes-marked : {a : Arrival} → Arrives s a → (v : ℕ) (c : Cost) → Goes s a.place v a.step c → Towards s f A v (suc a.step) (add a.cost c) → Marked s n xs (after a v c)
  goes-marked {a} h v c m t =
      towards-marked k.rows k.marks k.on-front (after a v c) (on h v c m.move m.free (towards-within s f A v (suc a.step) (add a.cost c) t)) t

  pub some_next : {a : Arrival} → Arrives s a → Towards s f A a.place a.step a.cost → a.step < A → (b : Arrival) × NextOf s n xs a b
  some_next {a} h t l =
      let x = towards-next s f A a.place a.step a.cost t l in
      (after a x.to x.price, record { price = x.price; move = x.goes.move; is = refl; marked = goes-marked h x.to x.price x.goes x.towards })

  pub come-on : {a b : Arrival} {path path' : List ℕ} → CameTo s f A a path path' → LowestNext s n xs a b → CameTo s f A b path (set path' b.step b.place)
  come-on {a} {b} {path} {path'} x w =
      let c = w.next.price in
      let v = b.place in
      let y = subst (Marked s n xs) w.next.is w.next.marked in
      let t : Towards s f A v (suc a.step) (add a.cost c) = marked-towards k.rows k.marks (after a v c) y in
      let fr : Free s v (suc a.step) = marked-free k.rows k.marks (after a v c) y in
      subst (λ (d : Arrival). CameTo s f A d path (set path' d.step d.place)) (sym w.next.is)
      (record {
        arrives = on x.arrives v c w.next.move fr (towards-within s f A v (suc a.step) (add a.cost c) t);
        towards = t;
        gone = x.gone ++ (v ∷ []);
        walked =
            walked_on s f A a.place v a.step a.cost c x.gone x.walked (move-once s k.valid) (record { move = w.next.move; free = fr })
            (λ u d m r. w.least u d m.move (goes-marked x.arrives u d m r));
        count = omega (arith, length-append x.gone (v ∷ []), x.count);
        written = ap (λ (l : List ℕ). set l (suc a.step) v) x.written ∙ sets_more x.gone path 1 (suc a.step) v (omega (arith, x.count));
      })

  -- at the arrival
  pub come-end : {a : Arrival} {path path' : List ℕ} → CameTo s f A a path path' → a.step ≡ A → path' ≡ sets path 1 (drop 1 (journey_of s f))
  come-end {a} {path} {path'} x e = x.written ∙ ap (sets path 1) (ap (drop 1) (sym shown))
    where
      last : (p : List ℕ) → Rest s f A a.place a.step a.cost p → Home s a.place A × (a.cost ≡ f)
      last [] r =
          (subst (Home s a.place) e r.rest.ends, sym (zero_right a.cost (arrives-three s a x.arrives)) ∙ sym (ap (add a.cost) r.rest.nothing) ∙ r.sum)
      last (v ∷ p) r = absurd (omega (arith, r.until, e))

      home : Home s a.place A × (a.cost ≡ f)
      home = last x.towards.places x.towards.rest

      walked : Walked s f A a.place A f x.gone
      walked = subst (λ (g : Cost). Walked s f A a.place A g x.gone) home.1 (subst (λ (t : ℕ). Walked s f A a.place t a.cost x.gone) e x.walked)

      shown : journey_of s f ≡ start s ∷ x.gone
      shown =
          first-journey_of s f A x.gone free-start (λ t l h. omega (arith, earliest.none-sooner t h))
          (walked_end s f A a.place x.gone walked (has-three s f k.on-front.has) home.0)

  pub begins : {v : ℕ} (path : List ℕ) → v ≡ start s → sets (set path 0 v) 1 (drop 1 (journey_of s f)) ≡ sets path 0 (journey_of s f)
  begins {v} path e =
      let x = journey-forth s f (journey_of s f) journey in
      ap₂ (λ (u : ℕ) (q : List ℕ). sets (set path 0 u) 1 (drop 1 q)) e x.whole ∙ ap (sets path 0) (sym x.whole)

-- what the code lends
module _ {s : Sheet} {since : List ℕ} {n : ℕ} {table : List ℕ} {A : ℕ} {f : Cost} {path : List ℕ} (k : Layable s since n table A f path) where
  module _ {ys : List ℕ} (m : MarkedAll s f A n table ys) where
    pub rowed : Rowed s since n ys
    rowed = same-rowed m.rows (end-rowed k.ends)

    pub led : Guided s f A n ys
    led = record { valid = k.ends.derived.valid; on-front = k.ends.on-front; arrives_at = k.ends.arrives_at; rows = rowed.rows; marks = m.marks }

  pub bare-again : {ys zs : List ℕ} → SameButMarks n table ys → Bared n ys zs → zs ≡ table
  bare-again = bared-back (low-place k.ends.derived.valid k.ends.holds)

  -- zeros past the path
  pub laid : (p : List ℕ) → p ≡ sets path 0 (journey_of s f)
      → take (A + 1) p ++ replicate (length p - (A + 1)) 0 ≡ filled (length path) (journey_of s f)
  laid p e =
      let j = journey_of s f in
      let l : length j ≡ A + 1 = omega (arith, journey-length s f k.ends.on-front.has, k.ends.arrives_at) in
      let q : 0 + length j ≤ length path = omega (arith, l, k.room) in
      let s : p ≡ j ++ drop (0 + length j) path = e ∙ sets-eq j path 0 q in
      let z : length p - (A + 1) ≡ length path - length j = omega (arith, ap (λ (x : List ℕ). length x) e, length-sets path 0 j, l) in
      ap₂ (λ (a : List ℕ) (i : ℕ). a ++ replicate i 0) (ap (take (A + 1)) s ∙ take_at j (drop (0 + length j) path) (A + 1) l) z

-- the next step is one later
pub next-step : {s : Sheet} {n : ℕ} {xs : List ℕ} {a b : Arrival} → LowestNext s n xs a b → b.step ≡ suc a.step
next-step w = ap (λ (x : Arrival). x.step) w.next.is

-- where the walk has come it can go on
pub walkable : {s : Sheet} {since : List ℕ} {n A : ℕ} {table : List ℕ} {f : Cost} → Rowed s since n table → Guided s f A n table
    → {a : Arrival} {path path' : List ℕ} → CameTo s f A a path path' → a.step < A → Walkable s since n table a
walkable {s} d k {a} x l =
    record {
      rowed = d;
      place = omega (arith, arrives-place s k.valid a x.arrives, k.valid.most-places);
      step = omega (arith, l, journey-day k);
      cost = record { every = λ i. omega (arith, arrives-bounded s k.valid a x.arrives i) };
      some = some_next k x.arrives x.towards l;
    }
