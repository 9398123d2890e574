-- The rows so far, newest first, as the search fills them in: by step, then place, then cost; and what it asks of what it is lent.
use Rattle.std.specs.Prelude.{◌≡◌, refl, List, [], ◌∷◌, Bool, true, false, ◌⊎◌, ℕ, ◌+◌, ◌*◌, ◌≤◌, ◌<◌, length, get_or}
use Rattle.std.proofs.Common.{sym, ap, ◌∙◌, subst, inl, inr, ⊎_elim, arith}
use Rattle.sheet.specs.Lists.{Lex}
use Rattle.sheet.specs.Laws.Decided.{false-not-true, lt-or-le, Any, All, here, there, none, more, all_map, all_both, any_out}
use Rattle.costs.specs.Costs.{zero_cost}
use Rattle.costs.specs.Priced.{Within}
use Rattle.costs.specs.Laws.Figures.{fig-zero, Lex-compared}
use Rattle.arrivals.specs.Rows.{Row, row_at, Put}
use Rattle.arrivals.specs.Laws.Rows.{row_kept}
use Rattle.arrivals.specs.Inner.Rows.{rows_of, rows-kept, rows-zero, Bounded}
use Rattle.arrivals.specs.Inner.Network.{Case, case_of, since, since_in, wait_in, Vacant, Legal, places_of, start_of}
use Rattle.arrivals.specs.Inner.Lent.{Given}
use Rattle.arrivals.specs.declared.network.Here.{Here}
use Rattle.arrivals.specs.Inner.Entering.{Ready, Stands, RowLeads, Cand, Lead, Open, Less, Complete, lead-of, lead_up, cand-down, open-down, cand-bounded, self-leads}
use Rattle.arrivals.specs.Inner.Outcomes.{Outcome}

pub record RowBefore (r q : Row) : Type 0 where
  pub order : Less r.step r.place q.step q.place ⊎ ((r.step ≡ q.step) × (r.place ≡ q.place) × Lex r.cost q.cost)

pub data Falling : List Row → Type 0 where
  none-falling : Falling []
  more-falling : {r : Row} {rs : List Row} → All (λ q. RowBefore q r) rs → Falling rs → Falling (r ∷ rs)

-- each row is the start's or was a cost of entering its place that no row before it leads
pub data Sound (k : Case) : List Row → Type 0 where
  empty : Sound k []
  first : Vacant k k.start 0 → Sound k (record { place = k.start; step = 0; cost = zero_cost } ∷ [])
  entered : {v t : ℕ} {g : List ℕ} {rs : List Row} → v < k.places → 1 ≤ t → Vacant k v t → Open k rs v t g → Sound k rs → Sound k (record { place = v; step = t; cost = g } ∷ rs)

abbrev pub start_row : Case → Row
start_row k = record { place = k.start; step = 0; cost = zero_cost }

-- all is filled in before place v at step t
pub record Filled (k : Case) (rs : List Row) (t v : ℕ) : Type 0 where
  pub bounded : All Bounded rs
  pub keys : All (λ r. Less r.step r.place t v) rs
  pub ascending : Falling rs
  pub sound : Sound k rs
  pub complete : Complete k rs t v
  pub started : Vacant k k.start 0 → Any (λ r. r ≡ start_row k) rs

-- the same, while place v at step t is filled in
pub record Filling (k : Case) (rs : List Row) (t v : ℕ) : Type 0 where
  pub bounded : All Bounded rs
  pub keys : All (λ r. Less r.step r.place t (v + 1)) rs
  pub ascending : Falling rs
  pub sound : Sound k rs
  pub complete : Complete k rs t v
  pub started : Vacant k k.start 0 → Any (λ r. r ≡ start_row k) rs
  pub ahead : (g : List ℕ) → Open k rs v t g → All (λ r. r.step ≡ t → r.place ≡ v → Lex r.cost g) rs

-- the steps of the search

pub filled_none : (k : Case) → (Vacant k k.start 0 → ⊥) → Filled k [] 1 0
filled_none k n = record { started = λ f. absurd (n f); bounded = none; keys = none; ascending = none-falling; sound = empty; complete = λ s u g l o p f c. absurd (⊎_elim (λ a. omega arith) (λ a. omega (arith, a.1)) l) }

pub filling-of : (k : Case) (rs : List Row) (t v : ℕ) → Filled k rs t v → Filling k rs t v
filling-of k rs t v f =
    record {
      bounded = f.bounded;
      keys = all_map (λ r l. ⊎_elim (λ a. inl a) (λ a. inr (a.0, omega (arith, a.1))) l) f.keys;
      ascending = f.ascending;
      sound = f.sound;
      complete = f.complete;
      started = f.started;
      ahead = λ g o. all_map (λ r l e p. absurd (⊎_elim (λ a. omega arith) (λ a. omega (arith, a.1)) l)) f.keys;
    }

pub row-after : (v t : ℕ) (g : List ℕ) (r : Row) → Less r.step r.place t (v + 1) → (r.step ≡ t → r.place ≡ v → Lex r.cost g) → RowBefore r (record { place = v; step = t; cost = g })
row-after v t g r l b =
    record { order = ⊎_elim (λ a. inl (inl a)) (λ a. ⊎_elim (λ lt. inl (inr (a.0, lt))) (λ ge. let e : r.place ≡ v = omega (arith, a.1) in inr (a.0, e, b a.0 e)) (lt-or-le r.place v)) l }

pub filling-more : (k : Case) (rs : List Row) (t v : ℕ) (g : List ℕ) → Legal k → 1 ≤ t → v < k.places → Vacant k v t → Filling k rs t v
    → Open k rs v t g → ((h : List ℕ) → Open k rs v t h → Lex h g → ⊥) → Filling k (record { place = v; step = t; cost = g } ∷ rs) t v
filling-more k rs t v g legal one inside free f o least =
    record {
      bounded = more (cand-bounded k rs v t g legal f.bounded o.cand) f.bounded;
      keys = more {x = record { place = v; step = t; cost = g }} (inr (refl, omega arith)) f.keys;
      ascending = more-falling (all_both (row-after v t g) f.keys (f.ahead g o)) f.ascending;
      sound = entered inside one free o f.sound;
      started = λ w. there (f.started w);
      complete = λ s u h l p q w c. lead_up k _ rs u s h (f.complete s u h l p q w (cand-down k _ rs u s h (early s u l) c));
      ahead = λ h oh. let down = open-down k _ rs v t h (omega arith) oh in more (λ a b. next h oh down) (f.ahead h down);
    }
  where
    early : (s u : ℕ) → Less s u t v → s ≤ t
    early s u l = ⊎_elim (λ a. omega arith) (λ a. omega (arith, a.0)) l

    next : (h : List ℕ) → Open k (record { place = v; step = t; cost = g } ∷ rs) v t h → Open k rs v t h → Lex g h
    next h oh down =
        ⊎_elim
        (λ e. absurd (oh.unled (record { row = here (subst (λ (x : List ℕ). RowLeads v t (since k v t) (k.wait v) x (record { place = v; step = t; cost = g })) e (self-leads v t (since k v t) (k.wait v) g free)) })))
        (λ d. ⊎_elim (λ b. b) (λ b. absurd (least h down b)) d)
        (Lex-compared g h)

pub filled-place : (k : Case) (rs : List Row) (t v : ℕ) → Filling k rs t v → ((g : List ℕ) → Open k rs v t g → ⊥) → Filled k rs t (v + 1)
filled-place k rs t v f stop =
    record {
      bounded = f.bounded;
      keys = f.keys;
      ascending = f.ascending;
      sound = f.sound;
      started = f.started;
      complete = λ s u g l p q w c. ⊎_elim (λ a. f.complete s u g (inl a) p q w c) (λ a. ⊎_elim (λ lt. f.complete s u g (inr (a.0, lt)) p q w c) (λ ge. last s u g a.0 (omega (arith, a.1)) c) (lt-or-le u v)) l;
    }
  where
    last : (s u : ℕ) (g : List ℕ) → s ≡ t → u ≡ v → Cand k rs u s g → Lead k rs u s g
    last s u g a b c = lead-of k rs u s g (λ n. stop g (subst (λ (j : ℕ). Open k rs v j g) a (subst (λ (j : ℕ). Open k rs j s g) b (record { cand = c; unled = n }))))

pub filled-skip : (k : Case) (rs : List Row) (t v : ℕ) → (Vacant k v t → ⊥) → Filled k rs t v → Filled k rs t (v + 1)
filled-skip k rs t v occupied f =
    record {
      bounded = f.bounded;
      keys = all_map (λ r l. ⊎_elim (λ a. inl a) (λ a. inr (a.0, omega (arith, a.1))) l) f.keys;
      ascending = f.ascending;
      sound = f.sound;
      started = f.started;
      complete = λ s u g l p q w c. ⊎_elim (λ a. f.complete s u g (inl a) p q w c) (λ a. ⊎_elim (λ lt. f.complete s u g (inr (a.0, lt)) p q w c) (λ ge. absurd (never s u a.0 (omega (arith, a.1)) w)) (lt-or-le u v)) l;
    }
  where
    never : (s u : ℕ) → s ≡ t → u ≡ v → Vacant k u s → ⊥
    never s u a b w = occupied (subst (λ (j : ℕ). Vacant k v j) a (subst (λ (j : ℕ). Vacant k j s) b w))

pub filled-step : (k : Case) (rs : List Row) (t : ℕ) → Filled k rs t k.places → Filled k rs (t + 1) 0
filled-step k rs t f =
    record {
      bounded = f.bounded;
      keys = all_map (λ r l. inl (⊎_elim (λ a. omega arith) (λ a. omega (arith, a.0)) l)) f.keys;
      ascending = f.ascending;
      sound = f.sound;
      started = f.started;
      complete = λ s u g l p q w c. f.complete s u g (⊎_elim (λ a. ⊎_elim (λ lt. inl lt) (λ ge. inr (omega arith, q)) (lt-or-le s t)) (λ a. absurd (omega (arith, a.1))) l) p q w c;
    }

pub filled-as : {k : Case} {rs qs : List Row} {t v : ℕ} → rs ≡ qs → Filled k qs t v → Filled k rs t v
filled-as {k} {rs} {qs} {t} {v} e f = subst (λ (x : List Row). Filled k x t v) (sym e) f

-- the rows so far and one more, which there is no room for
pub record Crowded (k : Case) (room t v : ℕ) : Type 0 where
  pub rows : List Row
  pub step : ℕ
  pub place : ℕ
  pub filling : Filling k rows step place
  pub before : Less step place t v
  pub more : room < length rows * 5

-- what a search of the table xs, whose room is a fifth of its length, leaves: n rows, filled in before place v at step t where ok; else the room is full and a row is missing
pub record Result (k : Case) (xs : List ℕ) (t v : ℕ) (ok : Bool) (n : ℕ) : Type 0 where
  pub room : n * 5 ≤ length xs
  pub done : ok ≡ true → Filled k (rows_of xs n) t v
  pub full : ok ≡ false → Crowded k (length xs) t v

-- the rows from n to m are new, of place v and step t
pub record Grown (xs ys : List ℕ) (n m v t : ℕ) : Type 0 where
  pub more : n ≤ m
  pub below : (j : ℕ) → j < n * 5 → get_or ys j 0 ≡ get_or xs j 0
  pub own : (i : ℕ) → n ≤ i → i < m → ((row_at ys i).place ≡ v) × ((row_at ys i).step ≡ t)

pub grown-none : (xs : List ℕ) (n v t : ℕ) → Grown xs xs n n v t
grown-none xs n v t = record { more = omega arith; below = λ j l. refl; own = λ i l m. absurd (omega arith) }

pub grown-more : (xs ys zs : List ℕ) (n m v t : ℕ) (g : List ℕ) → Grown xs ys n m v t → Put ys zs m (record { place = v; step = t; cost = g }) → Grown xs zs n (m + 1) v t
grown-more xs ys zs n m v t g w p =
    record {
      more = omega (arith, w.more);
      below = λ j l. p.below j (omega (arith, w.more)) ∙ w.below j l;
      own = λ i l u. ⊎_elim (λ lt. subst (λ (r : Row). (r.place ≡ v) × (r.step ≡ t)) (sym (row_kept ys zs i (λ j a b. p.below j (omega arith)))) (w.own i l lt))
          (λ ge. let e : m ≡ i = omega arith in subst (λ (k : ℕ). ((row_at zs k).place ≡ v) × ((row_at zs k).step ≡ t)) e (ap (λ (r : Row). r.place) p.row, ap (λ (r : Row). r.step) p.row)) (lt-or-le i m);
    }

-- what is asked where place v is filled in at step t after the rows below n
pub record Visiting (free net xs : List ℕ) (n v t : ℕ) : Type 0 where
  pub given : Given free net
  pub inside : v < places_of net
  pub first : 1 ≤ t
  pub last : t ≤ 255
  pub room : n * 5 ≤ length xs
  pub filled : Filled (case_of free net) (rows_of xs n) t v

-- what is asked where the costs of entering h are sought from the rows below n
pub record Reaching (free net xs : List ℕ) (n : ℕ) (h : Here) : Type 0 where
  pub given : Given free net
  pub ready : Ready xs n h
  pub stands : Stands (case_of free net) h
  pub complete : Complete (case_of free net) (rows_of xs n) h.step.0 h.place.0

pub reaching : (free net xs : List ℕ) (n : ℕ) (h : Here) → Given free net → Stands (case_of free net) h → n * 5 ≤ length xs → All Bounded (rows_of xs n)
    → Complete (case_of free net) (rows_of xs n) h.step.0 h.place.0 → Reaching free net xs n h
reaching free net xs n h given st room bounded complete =
    record {
      given = given;
      ready = record { room = room; inside = omega (arith, st.inside, given.places); steps = st.last; waits = subst (Within 60000) (sym st.wait) (given.legal.waits h.place.0 st.inside); bounded = bounded };
      stands = st;
      complete = complete;
    }

pub visiting-stands : {free net xs : List ℕ} {n : ℕ} (h : Here) → Visiting free net xs n h.place.0 h.step.0 → Vacant (case_of free net) h.place.0 h.step.0
    → h.since.0 ≡ since_in free h.place.0 h.step.0 → h.wait ≡ wait_in net h.place.0 → Stands (case_of free net) h
visiting-stands h a vacant since wait = record { inside = a.inside; first = a.first; last = a.last; vacant = vacant; since = since; wait = wait }

pub visiting-reach : {free net xs : List ℕ} {n : ℕ} (h : Here) → Visiting free net xs n h.place.0 h.step.0 → Stands (case_of free net) h → Reaching free net xs n h
visiting-reach {free} {net} {xs} {n} h a st = reaching free net xs n h a.given st a.room a.filled.bounded a.filled.complete

pub visiting-kept : {free net xs ys : List ℕ} {n v t : ℕ} → length ys ≡ length xs → ((j : ℕ) → j < n * 5 → get_or ys j 0 ≡ get_or xs j 0) → Visiting free net xs n v t → Visiting free net ys n v t
visiting-kept {xs = xs} {ys} {n} size same a =
    record { given = a.given; inside = a.inside; first = a.first; last = a.last; room = omega (arith, a.room); filled = filled-as (rows-kept xs ys n same) a.filled }

-- what filling in place v at step t after the rows below n leaves
pub record Visited (k : Case) (xs ys : List ℕ) (n v t : ℕ) (o : Outcome) : Type 0 where
  pub result : Result k ys t (v + 1) o.ok o.rows
  pub grown : Grown xs ys n o.rows v t

abbrev pub VisitedAt : List ℕ → List ℕ → List ℕ → List ℕ → ℕ → Here → Outcome → Type 0
VisitedAt free net xs ys n h o = Visited (case_of free net) xs ys n h.place.0 h.step.0 o

pub result-done : (k : Case) (xs : List ℕ) (t v n : ℕ) → n * 5 ≤ length xs → Filled k (rows_of xs n) t v → Result k xs t v true n
result-done k xs t v n l f = record { room = l; done = λ e. f; full = λ e. absurd (false-not-true e refl) }

pub result-full : (k : Case) (xs : List ℕ) (t v n : ℕ) → n * 5 ≤ length xs → Crowded k (length xs) t v → Result k xs t v false n
result-full k xs t v n l f = record { room = l; done = λ e. absurd (false-not-true refl e); full = λ e. f }

pub filling-as : {k : Case} {rs qs : List Row} {t v : ℕ} → rs ≡ qs → Filling k qs t v → Filling k rs t v
filling-as {k} {rs} {qs} {t} {v} e f = subst (λ (x : List Row). Filling k x t v) (sym e) f

pub filled-end : (k : Case) (rs : List Row) (t v : ℕ) → v ≤ k.places → k.places ≤ v → Filled k rs t v → Filled k rs (t + 1) 0
filled-end k rs t v l m f = filled-step k rs t (subst (λ (j : ℕ). Filled k rs t j) (omega arith) f)

pub filled-last : (k : Case) (rs : List Row) (t last : ℕ) → t ≤ last + 1 → last < t → Filled k rs t 0 → Filled k rs (last + 1) 0
filled-last k rs t last l m f = subst (λ (j : ℕ). Filled k rs j 0) (omega arith) f

pub crowded-later : {k : Case} {room t v : ℕ} (u w : ℕ) → ((s p : ℕ) → Less s p t v → Less s p u w) → Crowded k room t v → Crowded k room u w
crowded-later u w f c = record { rows = c.rows; step = c.step; place = c.place; filling = c.filling; before = f c.step c.place c.before; more = c.more }

pub crowded-step : {k : Case} {room t v : ℕ} → Crowded k room t v → Crowded k room (t + 1) 0
crowded-step {k} {room} {t} {v} c = crowded-later (t + 1) 0 (λ s p l. inl (⊎_elim (λ a. omega arith) (λ a. omega (arith, a.0)) l)) c

pub crowded-last : {k : Case} {room t : ℕ} (last : ℕ) → t ≤ last + 1 → Crowded k room t 0 → Crowded k room (last + 1) 0
crowded-last last h c = crowded-later (last + 1) 0 (λ s p l. inl (⊎_elim (λ a. omega arith) (λ a. absurd (omega (arith, a.1))) l)) c

-- the first row

pub filled-first : (k : Case) → Vacant k k.start 0 → Filled k (record { place = k.start; step = 0; cost = zero_cost } ∷ []) 1 0
filled-first k f =
    record {
      bounded = more {x = record { place = k.start; step = 0; cost = zero_cost }} (record { within = record { every = λ i. omega (arith, fig-zero i) }; three = refl }) none;
      keys = more {x = record { place = k.start; step = 0; cost = zero_cost }} (inl (omega arith)) none;
      ascending = more-falling none none-falling;
      sound = first f;
      started = λ w. here refl;
      complete = λ s u g l o p f c. absurd (⊎_elim (λ a. omega arith) (λ a. omega (arith, a.1)) l);
    }

pub crowded-first : (k : Case) (n : ℕ) → n < 5 → Vacant k k.start 0 → Crowded k n 1 0
crowded-first k n l f =
    let w = filled-first k f in
    record {
      rows = start_row k ∷ [];
      step = 0;
      place = k.start;
      filling = record {
        bounded = w.bounded;
        keys = more {x = start_row k} (inr (refl, omega arith)) none;
        ascending = w.ascending;
        sound = w.sound;
        complete = λ s u g a o p q c. absurd (⊎_elim (λ x. omega arith) (λ x. omega (arith, x.0)) a);
        started = w.started;
        ahead = λ g o. absurd (any_out (λ q e. any_out (λ r j. omega (arith, j.early)) e.by) o.cand.over);
      };
      before = inl (omega arith);
      more = omega arith;
    }

pub crowded-as : {k : Case} {m n t v : ℕ} → m ≡ n → Crowded k m t v → Crowded k n t v
crowded-as {k} {m} {n} {t} {v} e c = subst (λ (x : ℕ). Crowded k x t v) e c

pub filled-start : (k : Case) (xs ys : List ℕ) → Vacant k k.start 0 → rows_of ys 1 ≡ record { place = k.start; step = 0; cost = zero_cost } ∷ rows_of xs 0 → Filled k (rows_of ys 1) 1 0
filled-start k xs ys f e = filled-as (e ∙ ap (λ (rs : List Row). record { place = k.start; step = 0; cost = zero_cost } ∷ rs) (rows-zero xs)) (filled-first k f)

-- the first step of the start's safe interval at step 0
pub start-since : (free net : List ℕ) (s f : ℕ) → s ≡ start_of net → f ≡ since_in free s 0 → since (case_of free net) (start_of net) 0 ≡ f
start-since free net s f e g = sym (g ∙ ap (λ (v : ℕ). since_in free v 0) e)
