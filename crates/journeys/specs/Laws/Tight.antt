-- What lies on the way to a front cost, told from the leading arrivals: whatever is reached there is a leading arrival that is kept waiting (Laws.Exact),
-- so it is enough to know of each leading arrival until which steps it may wait. It is on the way at a step where it is at the next, or where it
-- crosses to another that is; at the arrival itself one alone is.
use Rattle.std.specs.Prelude.{◌≡◌, refl, ◌⊎◌, ◌≢◌, Bool, true, false, List, [], ◌∷◌, ℕ, zero, suc, ◌+◌, ◌-◌, ◌≤◌, ◌<◌, eqb}
use Rattle.std.proofs.Common.{sym, ◌∙◌, ap, subst, inl, inr, arith, eqb-true}
use Rattle.std.proofs.lemmas.Bool.{eqb-false}
use Rattle.sheet.specs.Sheet.{Sheet, goal}
use Rattle.costs.specs.Costs.{Cost, fig, add}
use Rattle.costs.specs.Moves.{wait_of, Crossing}
use Rattle.costs.specs.Laws.Figures.{zero_right, same-figures}
use Rattle.intervals.specs.Intervals.{Free}
use Rattle.intervals.specs.Laws.Runs.{run-one}
use Rattle.arrivals.specs.Ways.{Move, waits, crosses}
use Rattle.arrivals.specs.Arrivals.{Arrival, Arrives, Leading}
use Rattle.arrivals.specs.Computed.{arrival, waited}
use Rattle.arrivals.specs.Laws.Leading.{fig-waited, arrives-three, arrives-free}
use Rattle.arrivals.specs.Laws.Steps.{arrives-on, waited-suc, arrives-until}
use Rattle.journeys.specs.Journeys.{Counts}
use Rattle.journeys.specs.Front.{OnFront}
use Rattle.journeys.specs.Laws.Journeys.{has-three}
use Rattle.journeys.specs.Laws.Exact.{kept, Stays, Waits, Rest, Towards, towards-within, rest_end, towards-back, Next, towards-next, arrives-exact, waits-once}

-- the leading arrival e, kept waiting until step t, is on the way to the cost f at step A
pub record Tight (s : Sheet) (f : Cost) (A : ℕ) (e : Arrival) (t : ℕ) : Type 0 where
  pub leads : Leading s e
  pub stays : Stays s e t
  pub towards : Towards s f A e.place t (kept s e t)

-- e, kept waiting until the step before b, crosses and stands as b
pub record CrossesInto (s : Sheet) (e b : Arrival) : Type 0 where
  pub price : Cost
  pub cross : Crossing s e.place b.place (b.step - 1) price
  pub stays : Stays s e (b.step - 1)
  pub sum : add (kept s e (b.step - 1)) price ≡ b.cost

-- e kept waiting until t, as an arrival
abbrev pub kept_at : Sheet → Arrival → ℕ → Arrival
kept_at s e t = arrival e.place t (kept s e t)

-- kept for no step, and for one more
waits-self : (s : Sheet) (a : Arrival) → Arrives s a → Waits s a a
waits-self s a h = record { place = refl; stays = stay; sum = same-figures (kept s a t) a.cost (arrives-three s (kept_at s a t) here ∙ sym (arrives-three s a h)) each }
  where
    t : ℕ
    t = a.step

    stay : Stays s a t
    stay = record { soon = omega arith; run = run-one s a.place t (arrives-free s a h) }

    here : Arrives s (kept_at s a t)
    here = arrives-until s t a h stay.soon h.in-time stay.run

    each : (i : ℕ) → fig (kept s a t) i ≡ fig a.cost i
    each i = let z : t - t ≡ 0 = omega arith in rw z (omega (arith, fig-waited s a.place 0 a.cost i))

pub kept_next : (s : Sheet) (e : Arrival) (t : ℕ) → e.step ≤ t → kept s e (suc t) ≡ add (kept s e t) (wait_of s e.place)
kept_next s e t l =
    let q : suc t - e.step ≡ suc (t - e.step) = omega arith in
    ap (λ (n : ℕ). waited s e.place n e.cost) q ∙ waited-suc s e.place (t - e.step) e.cost

stays-next : (s : Sheet) (e : Arrival) (t : ℕ) → Stays s e t → Free s e.place (suc t) → Stays s e (suc t)
stays-next s e t k f = record { soon = omega (arith, k.soon); run = λ i x y. more i x y (eqb i (suc t)) refl }
  where
    more : (i : ℕ) → e.step ≤ i → i ≤ suc t → (b : Bool) → eqb i (suc t) ≡ b → Free s e.place i
    more i x y true h = rw (eqb-true i (suc t) h) f
    more i x y false h = let n : i ≢ suc t = eqb-false i (suc t) h in k.run i x (omega arith)

pub tight-arrives : (s : Sheet) (f : Cost) (A : ℕ) (e : Arrival) (t : ℕ) → Tight s f A e t → Arrives s (kept_at s e t)
tight-arrives s f A e t k = arrives-until s t e k.leads.arrives k.stays.soon (towards-within s f A e.place t (kept s e t) k.towards) k.stays.run

pub tight-late : (s : Sheet) (f : Cost) (A : ℕ) (e : Arrival) (t : ℕ) → Tight s f A e t → t ≤ A
tight-late s f A e t k = omega (arith, k.towards.rest.until)

-- one step sooner, and any number of them
tight-wait : (s : Sheet) (f : Cost) (A : ℕ) (e : Arrival) (t : ℕ) → e.step ≤ t → Tight s f A e (suc t) → Tight s f A e t
tight-wait s f A e t l k =
    record {
      leads = k.leads;
      stays = record { soon = l; run = λ i x y. k.stays.run i x (omega arith) };
      towards =
          towards-back s f A e.place e.place t (kept s e t) (wait_of s e.place) (subst (Towards s f A e.place (suc t)) (kept_next s e t l) k.towards)
          (record { move = waits refl refl; free = k.stays.run (suc t) k.stays.soon (omega arith) });
    }

tight-by : (s : Sheet) (f : Cost) (A : ℕ) (e : Arrival) (j n : ℕ) → e.step ≤ j → Tight s f A e (n + j) → Tight s f A e j
tight-by s f A e j zero l k = let z : 0 + j ≡ j = omega arith in subst (Tight s f A e) z k
tight-by s f A e j (suc n) l k =
    let z : suc n + j ≡ suc (n + j) = omega arith in
    tight-by s f A e j n l (tight-wait s f A e (n + j) (omega (arith, l)) (subst (Tight s f A e) z k))

pub tight-sooner : (s : Sheet) (f : Cost) (A : ℕ) (e : Arrival) (j t : ℕ) → e.step ≤ j → j ≤ t → Tight s f A e t → Tight s f A e j
tight-sooner s f A e j t l h k = let z : t ≡ (t - j) + j = omega arith in tight-by s f A e j (t - j) l (subst (Tight s f A e) z k)

-- at the arrival at the goal, its own leading arrival, and no other
pub tight-end : (s : Sheet) (f : Cost) (A : ℕ) → OnFront s f → Leading s (arrival (goal s) A f) → Counts s A → Tight s f A (arrival (goal s) A f) A
tight-end s f A o l c =
    let w = waits-self s (arrival (goal s) A f) l.arrives in
    let r = rest_end s f A (goal s) (has-three s f o.has) (record { place = refl; counts = c }) in
    record { leads = l; stays = w.stays; towards = subst (Towards s f A (goal s) A) (sym w.sum) (record { places = []; rest = r }) }

pub tight-last : (s : Sheet) (f : Cost) (A : ℕ) (e : Arrival) → Leading s (arrival (goal s) A f) → Tight s f A e A → e ≡ arrival (goal s) A f
tight-last s f A e l k = waits-once s a e a k.leads l (go k.towards.places k.towards.rest) (waits-self s a l.arrives)
  where
    a : Arrival
    a = arrival (goal s) A f

    go : (p : List ℕ) → Rest s f A e.place A (kept s e A) p → Waits s e a
    go (x ∷ p) r = absurd (omega (arith, r.until))
    go [] r =
        record {
          place = r.rest.ends.place;
          stays = k.stays;
          sum = sym (ap (add (kept s e A)) r.rest.nothing ∙ zero_right (kept s e A) (arrives-three s (kept_at s e A) (tight-arrives s f A e A k))) ∙ r.sum;
        }

pub tight-cross : (s : Sheet) (f : Cost) (A : ℕ) (d e : Arrival) (t : ℕ) → 0 < t → Leading s e → Tight s f A d t → CrossesInto s e (kept_at s d t) → Tight s f A e (t - 1)
tight-cross s f A d e t h l k x =
    let z : t ≡ suc (t - 1) = omega arith in
    let to : Towards s f A d.place (suc (t - 1)) (kept s d t) = subst (λ (n : ℕ). Towards s f A d.place n (kept s d t)) z k.towards in
    record {
      leads = l;
      stays = x.stays;
      towards =
          towards-back s f A e.place d.place (t - 1) (kept s e (t - 1)) x.price (subst (Towards s f A d.place (suc (t - 1))) (sym x.sum) to)
          (record { move = crosses x.cross; free = subst (Free s d.place) z (k.stays.run t k.stays.soon (omega arith)) });
    }

-- what is reached on the way to a front cost is a tight arrival, kept waiting
pub reached-tight : (s : Sheet) (f : Cost) (A : ℕ) (a : Arrival) → OnFront s f → Arrives s a → Towards s f A a.place a.step a.cost
    → (e : Arrival) × Tight s f A e a.step × Waits s e a
reached-tight s f A a o h k =
    let x = arrives-exact s f A a o k h in
    let w = x.waits in
    let to : Towards s f A x.from.place a.step a.cost = subst (λ (v : ℕ). Towards s f A v a.step a.cost) (sym w.place) k in
    (x.from, record { leads = x.leads; stays = w.stays; towards = subst (Towards s f A x.from.place a.step) (sym w.sum) to }, w)

pub tight-reached : (s : Sheet) (f : Cost) (A : ℕ) (e a : Arrival) → Tight s f A e a.step → Waits s e a → Towards s f A a.place a.step a.cost
tight-reached s f A e a k w = subst (λ (v : ℕ). Towards s f A v a.step a.cost) w.place (subst (Towards s f A e.place a.step) w.sum k.towards)

-- what is tight before A goes on by waiting, or by crossing to what is tight
abbrev CrossesOn : Sheet → Cost → ℕ → Arrival → ℕ → Type 0
CrossesOn s f A e t = (d : Arrival) × Tight s f A d t × CrossesInto s e (kept_at s d t)

pub tight-on : (s : Sheet) (f : Cost) (A : ℕ) (e : Arrival) (t : ℕ) → OnFront s f → 0 < t → t ≤ A → Tight s f A e (t - 1)
    → Tight s f A e t ⊎ ((d : Arrival) × Tight s f A d t × CrossesInto s e (kept_at s d t))
tight-on s f A e t o h l k = go (towards-next s f A e.place m g k.towards (omega arith))
  where
    m : ℕ
    m = t - 1

    g : Cost
    g = kept s e m

    z : suc m ≡ t
    z = omega arith

    by : (v : ℕ) (c : Cost) → Move s e.place v m c → Free s v (suc m) → Towards s f A v (suc m) (add g c) → Tight s f A e t ⊎ CrossesOn s f A e t
    by v c (waits p q) fr w =
        let u : add g c ≡ kept s e (suc m) = ap (add g) q ∙ sym (kept_next s e m k.stays.soon) in
        let to : Towards s f A e.place (suc m) (add g c) = subst (λ (x : ℕ). Towards s f A x (suc m) (add g c)) (sym p) w in
        let y : Tight s f A e (suc m) =
        record {
          leads = k.leads;
          stays = stays-next s e m k.stays (subst (λ (x : ℕ). Free s x (suc m)) (sym p) fr);
          towards = subst (Towards s f A e.place (suc m)) u to;
        } in
        inl (subst (Tight s f A e) z y)
    by v c (crosses x) fr w =
        let there = arrives-on s e.place v m g c (tight-arrives s f A e m k) (crosses x) fr (towards-within s f A v (suc m) (add g c) w) in
        let b = arrival v t (add g c) in
        let r = reached-tight s f A b o (subst (λ (n : ℕ). Arrives s (arrival v n (add g c))) z there) (subst (λ (n : ℕ). Towards s f A v n (add g c)) z w) in
        inr (r.0, r.1, record { price = c; cross = subst (λ (y : ℕ). Crossing s e.place y m c) (sym r.2.place) x; stays = k.stays; sum = sym r.2.sum })

    go : Next s f A e.place m g → Tight s f A e t ⊎ CrossesOn s f A e t
    go n = by n.to n.price n.goes.move n.goes.free n.towards
