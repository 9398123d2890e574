-- Ways read backwards. A trail is a list of places, the last step first, so that a way one step longer has one place more in front: the
-- form that proofs go by. The enumeration lists exactly the trails, and a trail turned round is exactly a way.
use Rattle.std.specs.Prelude.{◌≡◌, refl, ◌⊎◌, Bool, true, false, ℕ, zero, suc, ◌≤◌, ◌<◌, eqb, ltb, length, map, take}
use Rattle.std.proofs.Common.{sym, ◌∙◌, ap, subst, inl, inr, arith, length-append, take-suc, take_all, get_or-take, length-take-le, eq-eqb, ne_eqb, ltb-true, ltb-false}
use mathlib.Core.List.{List, ◌∷◌, ◌++◌, reverse, reverse-cons, reverse-append, []}
use Rattle.std.proofs.lemmas.List.{length-reverse}
use Rattle.std.proofs.Math.ListN.{get_or-append}
use Rattle.std.proofs.Math.Seq.{get_or-append_seam}
use Rattle.sheet.specs.Lists.{◌∈◌, pick, number, filter}
use Rattle.sheet.specs.Sheet.{Sheet, start, to}
use Rattle.sheet.specs.Laws.Members.{mem-bind, bind-mem, mem-map, map-mem, mem-keep, keep-head, filter-mem, mem-filter}
use Rattle.costs.specs.Costs.{Cost, figures, zero_cost, add}
use Rattle.costs.specs.Laws.Figures.{length-add}
use Rattle.costs.specs.Moves.{wait_of, cost_of}
use Rattle.costs.specs.Computed.{leaving}
use Rattle.costs.specs.Laws.Moves.{wait-three, crossing-three}
use Rattle.costs.proofs.Moves.{leaving-crossing, crossing-leaving}
use Rattle.intervals.specs.Intervals.{Free, freeb}
use Rattle.arrivals.specs.Ways.{Move, waits, crosses, total, Way}
use Rattle.arrivals.specs.Computed.{Walk, Target, across, targets, onward, grow, walks}

-- a trail begins at v at step 0
pub record Begins (s : Sheet) (v : ℕ) (g : Cost) : Type 0 where
  pub starts : v ≡ start s
  pub free : Free s v 0
  pub nothing : g ≡ zero_cost

-- a trail that stands at u at step t (`To` says with which costs) goes on to v at the next step, with cost g in all
pub record GoesOn (s : Sheet) (To : Cost → Type 0) (u v t : ℕ) (g : Cost) : Type 0 where
  pub before : Cost
  pub price : Cost
  pub trail : To before
  pub move : Move s u v t price
  pub free : Free s v (suc t)
  pub sum : g ≡ add before price

-- the places, the last step first, are a lawful way from the start, with cost g
abbrev pub Trail : Sheet → List ℕ → Cost → Type 0
Trail s [] g = ⊥
Trail s (v ∷ []) g = Begins s v g
Trail s (v ∷ u ∷ p) g = GoesOn s (Trail s (u ∷ p)) u v (length p) g

abbrev pub backward : Walk → List ℕ
backward w = w.at ∷ w.before

-- the enumeration lists the trails
targets-move : (s : Sheet) (u t : ℕ) (m : Target) → m ∈ targets s u t → Move s u m.to t m.cost
unfolding targets
targets-move s u t m (inl e) = waits (sym (ap (λ (x : Target). x.to) e)) (ap (λ (x : Target). x.cost) e)
targets-move s u t m (inr n) =
    let r = map-mem across m (leaving s u t) n in
    subst (λ (x : Target). Move s u x.to t x.cost) (sym r.2) (crosses (leaving-crossing s u t r.0 r.1))

target-path : (v u : ℕ) (c d : Cost) → v ≡ u → c ≡ d → ◌≡◌ {A = Target} (record { to = v; cost = c }) (record { to = u; cost = d })
target-path v u c d p q = λ i. record { to = p i; cost = q i }

walk-path : (w x : Walk) → w.at ≡ x.at → w.before ≡ x.before → w.cost ≡ x.cost → w ≡ x
walk-path w x a b c = λ i. record { at = a i; before = b i; cost = c i }

move-targets : (s : Sheet) (u v t : ℕ) (c : Cost) → Move s u v t c → ◌∈◌ {A = Target} (record { to = v; cost = c }) (targets s u t)
unfolding targets
move-targets s u v t c (waits p q) = inl (target-path v u c (wait_of s u) (sym p) q)
move-targets s u v t c (crosses x) =
    let n = mem-map across x.line (leaving s u t) (crossing-leaving s u v t c x) in
    inr
    (subst (λ (m : Target). m ∈ map across (leaving s u t))
    (sym (target-path v (to x.line) c (cost_of x.line) (sym x.enters) x.price)) n)

grow-on : (s : Sheet) (t : ℕ) (w x : Walk) → x ∈ grow s t w → GoesOn s (λ h. h ≡ w.cost) w.at x.at t x.cost × (x.before ≡ backward w)
unfolding grow
grow-on s t w x m =
    let r = map-mem (onward w) x (filter (λ m. freeb s m.to (suc t)) (targets s w.at t)) m in
    let f = filter-mem (λ (m : Target). freeb s m.to (suc t)) r.0 (targets s w.at t) r.1 in
    subst (λ (y : Walk). GoesOn s (λ h. h ≡ w.cost) w.at y.at t y.cost × (y.before ≡ backward w)) (sym r.2)
    (record { before = w.cost; price = r.0.cost; trail = refl; move = targets-move s w.at t r.0 f.0; free = f.1; sum = refl }, refl)

pub walks-trail : (s : Sheet) (t : ℕ) (w : Walk) → w ∈ walks s t → Trail s (backward w) w.cost × (length w.before ≡ t)
unfolding walks
walks-trail s zero w m = go (mem-keep (freeb s (start s) 0) begin w [] m)
  where
    begin : Walk
    begin = record { at = start s; before = []; cost = zero_cost }

    go : ((w ≡ begin) × (freeb s (start s) 0 ≡ true)) ⊎ ⊥ → Trail s (backward w) w.cost × (length w.before ≡ 0)
    go (inr b) = absurd b
    go (inl h) =
        subst (λ (x : Walk). Trail s (backward x) x.cost × (length x.before ≡ 0)) (sym h.0)
        (record { starts = refl; free = h.1; nothing = refl }, refl)
walks-trail s (suc t) w m =
    let r = bind-mem (grow s t) w (walks s t) m in
    go r.0 (walks-trail s t r.0 r.1) (grow-on s t r.0 w r.2)
  where
    go : (x : Walk) → Trail s (backward x) x.cost × (length x.before ≡ t) → GoesOn s (λ h. h ≡ x.cost) x.at w.at t w.cost × (w.before ≡ backward x)
        → Trail s (backward w) w.cost × (length w.before ≡ suc t)
    go x h k =
        let q = k.0 in
        let l : t ≡ length x.before = sym h.1 in
        let n : GoesOn s (Trail s (backward x)) x.at w.at (length x.before) w.cost =
        record {
          before = q.before;
          price = q.price;
          trail = rw q.trail h.0;
          move = subst (λ (n : ℕ). Move s x.at w.at n q.price) l q.move;
          free = subst (λ (n : ℕ). Free s w.at (suc n)) l q.free;
          sum = q.sum;
        } in
        (subst (λ (p : List ℕ). Trail s (w.at ∷ p) w.cost) (sym k.1) n, ap length k.1 ∙ ap suc h.1)

pub trail-walks : (s : Sheet) (v : ℕ) (p : List ℕ) (g : Cost) → Trail s (v ∷ p) g → ◌∈◌ {A = Walk} (record { at = v; before = p; cost = g }) (walks s (length p))
unfolding walks grow
trail-walks s v [] g h =
    keep-head (freeb s (start s) 0) _ _ [] (subst (λ (x : ℕ). Free s x 0) h.starts h.free) (walk-path (record { at = v; before = []; cost = g }) _ h.starts refl h.nothing)
trail-walks s v (u ∷ p) g h =
    mem-bind (grow s (length p)) _ (walks s (length p)) x (trail-walks s u p h.before h.trail)
    (rw (walk-path (record { at = v; before = u ∷ p; cost = g }) (onward x y) refl refl h.sum)
    (mem-map (onward x) y (filter (λ m. freeb s m.to (suc (length p))) (targets s u (length p)))
    (mem-filter (λ (m : Target). freeb s m.to (suc (length p))) y (targets s u (length p)) (move-targets s u v (length p) h.price h.move) h.free)))
  where
    x : Walk
    x = record { at = u; before = p; cost = h.before }

    y : Target
    y = record { to = v; cost = h.price }

-- every way's cost has three figures
pub move-three : (s : Sheet) (u v t : ℕ) (c : Cost) → Move s u v t c → length c ≡ figures
move-three s u v t c (waits p q) = rw q (wait-three s u)
move-three s u v t c (crosses x) = crossing-three x

pub trail-three : (s : Sheet) (p : List ℕ) (g : Cost) → Trail s p g → length g ≡ figures
trail-three s [] g h = absurd h
trail-three s (v ∷ []) g h = rw h.nothing
trail-three s (v ∷ u ∷ p) g h =
    rw h.sum (length-add h.before h.price figures (trail-three s (u ∷ p) h.before h.trail) (move-three s u v (length p) h.price h.move))

-- a trail turned round is a way: one step more
total-same : (f g : ℕ → Cost) (n : ℕ) → ((t : ℕ) → t < n → f t ≡ g t) → total f n ≡ total g n
total-same f g zero h = refl
total-same f g (suc n) h = let a = total-same f g n (λ t l. h t (omega arith)) in let b = h n (omega arith) in cc

abbrev extended : (ℕ → Cost) → ℕ → Cost → ℕ → Cost
extended f n c t = pick (eqb t n) c (f t)

extended-old : (f : ℕ → Cost) (n : ℕ) (c : Cost) (t : ℕ) → t < n → extended f n c t ≡ f t
extended-old f n c t l = rw (ne_eqb t n (λ e. omega arith))

extended-new : (f : ℕ → Cost) (n : ℕ) (c : Cost) → extended f n c n ≡ c
extended-new f n c = rw (eq-eqb n n refl)

pub way_on : (s : Sheet) (A u v : ℕ) (p : List ℕ) (g c : Cost) → Way s A p g → number p A ≡ u → Move s u v A c → Free s v (suc A) → Way s (suc A) (p ++ (v ∷ [])) (add g c)
way_on s A u v p g c w e m f =
    record {
      places = omega (arith, length-append p (v ∷ []), w.places);
      starts = old 0 (omega arith) ∙ w.starts;
      free = free;
      price = extended w.price A c;
      moves = moves;
      sum = sum;
    }
  where
    old : (t : ℕ) → t < suc A → number (p ++ (v ∷ [])) t ≡ number p t
    old t l = get_or-append p (v ∷ []) 0 t (omega (arith, w.places))

    new : number (p ++ (v ∷ [])) (suc A) ≡ v
    new = subst (λ (n : ℕ). number (p ++ (v ∷ [])) n ≡ v) w.places (get_or-append_seam p v [] 0)

    free : (t : ℕ) → t ≤ suc A → Free s (number (p ++ (v ∷ [])) t) t
    free t l = go (ltb t (suc A)) refl
      where
        go : (b : Bool) → ltb t (suc A) ≡ b → Free s (number (p ++ (v ∷ [])) t) t
        go true h = subst (λ (x : ℕ). Free s x t) (sym (old t (ltb-true t (suc A) h))) (w.free t (omega (arith, ltb-true t (suc A) h)))
        go false h = let q : t ≡ suc A = omega (arith, ltb-false t (suc A) h) in subst (λ (x : ℕ). Free s (number (p ++ (v ∷ [])) x) x) (sym q) (subst (λ (x : ℕ). Free s x (suc A)) (sym new) f)

    moves : (t : ℕ) → t < suc A → Move s (number (p ++ (v ∷ [])) t) (number (p ++ (v ∷ [])) (suc t)) t (extended w.price A c t)
    moves t l = go (ltb t A) refl
      where
        go : (b : Bool) → ltb t A ≡ b → Move s (number (p ++ (v ∷ [])) t) (number (p ++ (v ∷ [])) (suc t)) t (extended w.price A c t)
        go true h =
            let k : t < A = ltb-true t A h in
            subst (λ (x : ℕ). Move s x (number (p ++ (v ∷ [])) (suc t)) t (extended w.price A c t)) (sym (old t l))
            (subst (λ (x : ℕ). Move s (number p t) x t (extended w.price A c t)) (sym (old (suc t) (omega arith)))
            (subst (Move s (number p t) (number p (suc t)) t) (sym (extended-old w.price A c t k)) (w.moves t k)))
        go false h =
            let q : t ≡ A = omega (arith, ltb-false t A h) in
            subst (λ (x : ℕ). Move s (number (p ++ (v ∷ [])) x) (number (p ++ (v ∷ [])) (suc x)) x (extended w.price A c x)) (sym q)
            (subst (λ (x : ℕ). Move s x (number (p ++ (v ∷ [])) (suc A)) A (extended w.price A c A)) (sym (old A (omega arith) ∙ e))
            (subst (λ (x : ℕ). Move s u x A (extended w.price A c A)) (sym new)
            (subst (Move s u v A) (sym (extended-new w.price A c)) m)))

    sum : add g c ≡ total (extended w.price A c) (suc A)
    sum =
        let a : g ≡ total (extended w.price A c) A = w.sum ∙ sym (total-same (extended w.price A c) w.price A (λ t l. extended-old w.price A c t l)) in
        let b : c ≡ extended w.price A c A = sym (extended-new w.price A c) in
        cc

last-number : (v : ℕ) (q : List ℕ) → number (reverse (v ∷ q)) (length q) ≡ v
last-number v q =
    subst (λ (l : List ℕ). number l (length q) ≡ v) (sym (reverse-cons v q))
    (subst (λ (n : ℕ). number (reverse q ++ (v ∷ [])) n ≡ v) (length-reverse q) (get_or-append_seam (reverse q) v [] 0))

-- the way that a trail makes
pub record Made (s : Sheet) (v : ℕ) (q : List ℕ) (g : Cost) : Type 0 where
  pub way : Way s (length q) (reverse (v ∷ q)) g
  pub ends : number (reverse (v ∷ q)) (length q) ≡ v

pub trail-way : (s : Sheet) (v : ℕ) (q : List ℕ) (g : Cost) → Trail s (v ∷ q) g → Made s v q g
trail-way s v [] g h =
    record {
      way =
          record {
            places = refl;
            starts = h.starts;
            free = λ t l. (let e : t ≡ 0 = omega arith in subst (λ (x : ℕ). Free s (number (v ∷ []) x) x) (sym e) h.free);
            price = λ t. zero_cost;
            moves = λ t l. absurd (omega arith);
            sum = h.nothing;
          };
      ends = refl;
    }
trail-way s v (u ∷ q) g h =
    let m = trail-way s u q h.before h.trail in
    let w = way_on s (length q) u v (reverse (u ∷ q)) h.before h.price m.way m.ends h.move h.free in
    record {
      way = subst (Way s (suc (length q)) (reverse (v ∷ u ∷ q))) (sym h.sum) (subst (λ (p : List ℕ). Way s (suc (length q)) p (add h.before h.price)) (sym (reverse-cons v (u ∷ q))) w);
      ends = last-number v (u ∷ q);
    }

-- the trail of a way
pub record Traced (s : Sheet) (A : ℕ) (p : List ℕ) (g : Cost) : Type 0 where
  pub before : List ℕ
  pub turned : reverse p ≡ number p A ∷ before
  pub steps : length before ≡ A
  pub trail : Trail s (number p A ∷ before) g

way-shorter : (s : Sheet) (A : ℕ) (p : List ℕ) (g : Cost) (w : Way s (suc A) p g) → Way s A (take (suc A) p) (total w.price A)
way-shorter s A p g w =
    record {
      places = length-take-le (suc A) p (omega (arith, w.places));
      starts = at 0 (omega arith) ∙ w.starts;
      free = λ t l. subst (λ (x : ℕ). Free s x t) (sym (at t (omega arith))) (w.free t (omega arith));
      price = w.price;
      moves = λ t l. subst (λ (x : ℕ). Move s x (number (take (suc A) p) (suc t)) t (w.price t)) (sym (at t (omega arith)))
          (subst (λ (x : ℕ). Move s (number p t) x t (w.price t)) (sym (at (suc t) (omega arith))) (w.moves t (omega arith)));
      sum = refl;
    }
  where
    at : (t : ℕ) → t < suc A → number (take (suc A) p) t ≡ number p t
    at t l = get_or-take (suc A) p t 0 l

pub way-trail : (s : Sheet) (A : ℕ) (p : List ℕ) (g : Cost) → Way s A p g → Traced s A p g
way-trail s zero [] g w = absurd (omega (arith, w.places))
way-trail s zero (v ∷ []) g w = record { before = []; turned = refl; steps = refl; trail = record { starts = w.starts; free = w.free 0 (omega arith); nothing = w.sum } }
way-trail s zero (v ∷ u ∷ p) g w = absurd (omega (arith, w.places))
way-trail s (suc A) p g w = go (way-trail s A (take (suc A) p) (total w.price A) (way-shorter s A p g w))
  where
    v : ℕ
    v = number p (suc A)

    u : ℕ
    u = number (take (suc A) p) A

    split : p ≡ take (suc A) p ++ (v ∷ [])
    split = sym (take_all (suc (suc A)) p (omega (arith, w.places))) ∙ take-suc p (suc A) 0 (omega (arith, w.places))

    same : u ≡ number p A
    same = get_or-take (suc A) p A 0 (omega arith)

    go : Traced s A (take (suc A) p) (total w.price A) → Traced s (suc A) p g
    go r =
        record {
          before = u ∷ r.before;
          turned = ap reverse split ∙ reverse-append (take (suc A) p) (v ∷ []) ∙ ap (λ (l : List ℕ). v ∷ l) r.turned;
          steps = ap suc r.steps;
          trail =
              record {
                before = total w.price A;
                price = w.price A;
                trail = r.trail;
                move = subst (λ (n : ℕ). Move s u v n (w.price A)) (sym r.steps) (subst (λ (x : ℕ). Move s x v A (w.price A)) (sym same) (w.moves A (omega arith)));
                free = subst (λ (n : ℕ). Free s v (suc n)) (sym r.steps) (w.free (suc A) (omega arith));
                sum = w.sum;
              };
        }

pub way-three : (s : Sheet) (A : ℕ) (p : List ℕ) (g : Cost) → Way s A p g → length g ≡ figures
way-three s A p g w = let r = way-trail s A p g w in trail-three s (number p A ∷ r.before) g r.trail
