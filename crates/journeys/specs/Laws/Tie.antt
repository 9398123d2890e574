-- The tie rule read forwards: from the start, at each step the lowest place from which the cost can still be reached at the earliest arrival gives the
-- journey that the tie rule selects (proofs/Forwards.antt). Of the ways on, the first goes to that lowest place and is from there the first; `Walked` is the
-- invariant of the walk that goes so. A lawful journey is a way on from the start, and the other way round.
use Rattle.std.specs.Prelude.{◌≡◌, refl, ◌⊎◌, ◌≢◌, Bool, true, false, List, [], ◌∷◌, ◌++◌, ℕ, zero, suc, ◌+◌, ◌≤◌, ◌<◌, length, drop, eqb}
use Rattle.std.proofs.Common.{sym, ◌∙◌, ap, subst, inl, inr, append-nil, arith, drop-cons, eqb-true}
use Rattle.std.proofs.Math.Seq.{append_snoc, drop-length}
use Rattle.std.proofs.lemmas.Bool.{eqb-false}
use Rattle.sheet.specs.Lists.{number, Lex}
use Rattle.sheet.specs.Sheet.{Sheet, start}
use Rattle.costs.specs.Costs.{Cost, figures, zero_cost, add}
use Rattle.intervals.specs.Intervals.{Free}
use Rattle.arrivals.specs.Ways.{Move, total, Way}
use Rattle.arrivals.specs.Laws.Trails.{way-three}
use Rattle.journeys.specs.Journeys.{Journey}
use Rattle.journeys.specs.Laws.Exact.{Goes, Home, Rest, Towards, rest_end, rest_back, RestOn, rest-on, ahead-journey}

-- one cost for each move, as on every valid sheet (`move-once`)
abbrev pub Single : Sheet → Type 0
Single s = (u v t : ℕ) (c d : Cost) → Move s u v t c → Move s u v t d → c ≡ d

-- of the ways on from v at step t with cost g to the cost f at step A, p is the one that the tie rule takes
pub record First (s : Sheet) (f : Cost) (A v t : ℕ) (g : Cost) (p : List ℕ) : Type 0 where
  pub rest : Rest s f A v t g p
  pub least : (q : List ℕ) → Rest s f A v t g q → (p ≡ q) ⊎ Lex p q

-- of the places to which the cart can go from v at step t on the way to f, x is the lowest
abbrev pub Lowest : Sheet → Cost → ℕ → ℕ → ℕ → Cost → ℕ → Type 0
Lowest s f A v t g x = (y : ℕ) (d : Cost) → Goes s v y t d → Towards s f A y (suc t) (add g d) → x ≤ y

-- at the goal there is one way
pub first-end : (s : Sheet) (f : Cost) (A v : ℕ) → length f ≡ figures → Home s v A → First s f A v A f []
first-end s f A v l h = record { rest = rest_end s f A v l h; least = least }
  where
    least : (q : List ℕ) → Rest s f A v A f q → (◌≡◌ {A = List ℕ} [] q) ⊎ Lex [] q
    least [] r = inl refl
    least (x ∷ q) r = inr tt

-- the lowest place, and then the first way on from it
pub first_on : (s : Sheet) (f : Cost) (A v x t : ℕ) (g c : Cost) (p : List ℕ) → Single s → Goes s v x t c → First s f A x (suc t) (add g c) p
    → Lowest s f A v t g x → First s f A v t g (x ∷ p)
first_on s f A v x t g c p one m k low = record { rest = rest_back s f A v x t g c p m k.rest; least = least }
  where
    least : (q : List ℕ) → Rest s f A v t g q → (◌≡◌ {A = List ℕ} (x ∷ p) q) ⊎ Lex (x ∷ p) q
    least [] r = absurd (omega (arith, r.until, k.rest.until))
    least (y ∷ q) r = go (eqb x y) refl
      where
        n : RestOn s f A v t g y q
        n = rest-on s f A v t g y q r

        le : x ≤ y
        le = low y n.price n.goes (record { places = q; rest = n.rest })

        go : (b : Bool) → eqb x y ≡ b → (◌≡◌ {A = List ℕ} (x ∷ p) (y ∷ q)) ⊎ Lex (x ∷ p) (y ∷ q)
        go false e = let d : x ≢ y = eqb-false x y e in inr (inl (omega (arith, le)))
        go true e = under (k.least q (subst (λ (z : ℕ). Rest s f A z (suc t) (add g c) q) (sym xy) (subst (λ (d : Cost). Rest s f A y (suc t) (add g d) q) dc n.rest)))
          where
            xy : x ≡ y
            xy = eqb-true x y e

            dc : n.price ≡ c
            dc = one v y t n.price c n.goes.move (subst (λ (z : ℕ). Move s v z t c) xy m.move)

            under : (p ≡ q) ⊎ Lex p q → (◌≡◌ {A = List ℕ} (x ∷ p) (y ∷ q)) ⊎ Lex (x ∷ p) (y ∷ q)
            under (inl h) = inl (cc (xy, h))
            under (inr h) = inr (inr (xy, h))

-- the walk's invariant: whatever is first from here makes, behind the places gone to, the first from the start
abbrev pub Walked : Sheet → Cost → ℕ → ℕ → ℕ → Cost → List ℕ → Type 0
Walked s f A v t g gone = (p : List ℕ) → First s f A v t g p → First s f A (start s) 0 zero_cost (gone ++ p)

pub walked_start : (s : Sheet) (f : Cost) (A : ℕ) → Walked s f A (start s) 0 zero_cost []
walked_start s f A p k = k

pub walked_on : (s : Sheet) (f : Cost) (A v x t : ℕ) (g c : Cost) (gone : List ℕ) → Walked s f A v t g gone → Single s → Goes s v x t c → Lowest s f A v t g x
    → Walked s f A x (suc t) (add g c) (gone ++ (x ∷ []))
walked_on s f A v x t g c gone w one m low p k =
    subst (First s f A (start s) 0 zero_cost) (sym (append_snoc gone x p)) (w (x ∷ p) (first_on s f A v x t g c p one m k low))

pub walked_end : (s : Sheet) (f : Cost) (A v : ℕ) (gone : List ℕ) → Walked s f A v A f gone → length f ≡ figures → Home s v A → First s f A (start s) 0 zero_cost gone
walked_end s f A v gone w l h = subst (First s f A (start s) 0 zero_cost) (append-nil gone) (w [] (first-end s f A v l h))

-- a lawful journey is a way on from the start
way-rest : (s : Sheet) (f : Cost) (A : ℕ) (q : List ℕ) (w : Way s A q f) → Home s (number q A) A → (n t : ℕ) → n + t ≡ A
    → Rest s f A (number q t) t (total w.price t) (drop (suc t) q)
way-rest s f A q w h zero t e =
    let z : A ≡ t = omega arith in
    let d : drop (suc A) q ≡ [] = ap (λ (n : ℕ). drop n q) (sym w.places) ∙ drop-length q in
    let r : Rest s f A (number q A) A (total w.price A) (drop (suc A) q) =
    subst (Rest s f A (number q A) A (total w.price A)) (sym d) (subst (λ (g : Cost). Rest s f A (number q A) A g []) w.sum (rest_end s f A (number q A) (way-three s A q f w) h)) in
    subst (λ (n : ℕ). Rest s f A (number q n) n (total w.price n) (drop (suc n) q)) z r
way-rest s f A q w h (suc n) t e =
    let l : t < A = omega arith in
    let d : drop (suc t) q ≡ number q (suc t) ∷ drop (suc (suc t)) q = drop-cons q (suc t) 0 (omega (arith, w.places)) in
    let m : Goes s (number q t) (number q (suc t)) t (w.price t) = record { move = w.moves t l; free = w.free (suc t) (omega arith) } in
    subst (Rest s f A (number q t) t (total w.price t)) (sym d)
    (rest_back s f A (number q t) (number q (suc t)) t (total w.price t) (w.price t) (drop (suc (suc t)) q) m (way-rest s f A q w h n (suc t) (omega arith)))

pub record Forth (s : Sheet) (f : Cost) (A : ℕ) (q : List ℕ) : Type 0 where
  pub after : List ℕ
  pub whole : q ≡ start s ∷ after
  pub rest : Rest s f A (start s) 0 zero_cost after

pub journey-forth : (s : Sheet) (f : Cost) (q : List ℕ) (j : Journey s q f) → Forth s f j.A q
journey-forth s f q j =
    let w = j.way in
    record {
      after = drop 1 q;
      whole = drop-cons q 0 0 (omega (arith, w.places)) ∙ ap (λ (v : ℕ). v ∷ drop 1 q) w.starts;
      rest = subst (λ (v : ℕ). Rest s f j.A v 0 zero_cost (drop 1 q)) w.starts
          (way-rest s f j.A q w (record { place = j.ends; counts = j.counts }) j.A 0 (omega arith));
    }

-- and a way on from the start is a lawful journey
pub rest-journey : (s : Sheet) (f : Cost) (A : ℕ) (p : List ℕ) → Free s (start s) 0 → Rest s f A (start s) 0 zero_cost p → Journey s (start s ∷ p) f
rest-journey s f A p fr r = subst (Journey s (start s ∷ p)) r.sum (ahead-journey s (start s) 0 zero_cost r.price (start s ∷ []) p here refl r.rest)
  where
    here : Way s 0 (start s ∷ []) zero_cost
    here =
        record {
          places = refl;
          starts = refl;
          free = λ t l. (let e : t ≡ 0 = omega arith in subst (λ (n : ℕ). Free s (number (start s ∷ []) n) n) (sym e) fr);
          price = λ t. zero_cost;
          moves = λ t l. absurd (omega arith);
          sum = refl;
        }
