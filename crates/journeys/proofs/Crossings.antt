-- From which rows a cart can cross to where another stands: by one corridor, by any, onto where one marked row stands, onto any.
-- Assumes nothing.
use mathlib.Core.Path.{◌≡◌, refl, sym, ◌∙◌, ap, subst}
use mathlib.Core.Logic.{inl, ⊎_elim}
use mathlib.Core.Bool.{Bool, true, false, ◌&&◌}
use mathlib.Core.List.{List, []}
use Prim.Native.Nat.{ℕ, suc, ◌+◌, ◌*◌, ◌-◌, ◌≤◌, ◌<◌}
use native.Mathlib.Omega.{arith}
use lib.ListN.{length, get_or}
use lib.Dec.{leb, ltb}
use borrow.Author.Tests.{leb-true, le-leb, ltb-true, lt-ltb}
use Rattle.sheet.specs.Lists.{number, Lex}
use Rattle.sheet.specs.Sheet.{Sheet, to}
use Rattle.sheet.specs.Valid.{Valid}
use Rattle.sheet.specs.Laws.Decided.{false-not-true, lt-or-le, from-length}
use Rattle.sheet.specs.Laws.Order.{and-true, true-and}
use Rattle.sheet.specs.Laws.Members.{mem-at}
use Rattle.costs.specs.Costs.{Cost, figures, add, times, AtMost}
use Rattle.costs.specs.Moves.{wait_of, Crossing}
use Rattle.costs.specs.Computed.{at_most_b}
use Rattle.costs.specs.Priced.{Within, CrossingBy, CorridorIs}
use Rattle.costs.specs.declared.Corridor as corridor
use Rattle.costs.specs.Laws.Figures.{fig-add, length-add, length-times, cancel_right, at-most-antisym, same-figures, at_most_b-true, within_more, within-times}
use Rattle.costs.specs.Laws.Moves.{wait-three, crossing-three, by-crossing, crossing-by, crossing-also, corridor-crosses, crosses-corridor}
use Rattle.intervals.specs.Computed.{since_of}
use Rattle.intervals.specs.FirstSteps.{Derived}
use Rattle.intervals.specs.Laws.Runs.{run_join, since-run}
use Rattle.arrivals.specs.Arrivals.{Arrival, key_of}
use Rattle.arrivals.specs.Computed.{arrival}
use Rattle.arrivals.specs.Laws.Bounds.{arrives-bounded, arrives-place}
use Rattle.intervals.proofs.Occupancies.{got-back}
use Rattle.journeys.specs.Inner.Lookup.{mark_at, stand_at, Sorted}
use Rattle.journeys.specs.Inner.Waits.{Rowed, WaitingRow}
use Rattle.journeys.specs.Inner.Marks.{Raised, CrossesBy, CrossesLater, Settled, Enterable, Onto, OntoAny, Passed, Passable}
use Rattle.journeys.specs.Laws.Exact.{kept, Stays}
use Rattle.journeys.specs.Laws.Tight.{CrossesInto, kept_at, kept_next}
use Rattle.journeys.proofs.Waiting.{part-under}
use Rattle.journeys.proofs.Marking.{same_refl, same-stand, same-rowed, raised-none, raised-as, raised-higher, raised-past, Below, raised-more}

-- a corridor of the sheet in the array leads from a place below 64
pub from_low : {s : Sheet} → Valid s → {k u v t : ℕ} {c : Cost} → CrossingBy s k u v t c → u < 64
from_low {s} d {k} {u} {v} {t} {c} x =
    let y = by-crossing s k u v t c x in
    omega (arith, y.leaves, (d.corridors y.line y.listed).from_place, d.most-places)

-- and to one
pub to_low : {s : Sheet} → Valid s → (l : ℕ) → l < length s.corridors → to (get_or s.corridors l []) < 64
to_low {s} d l h =
    let m = mem-at [] s.corridors l h in
    omega (arith, (d.corridors (get_or s.corridors l []) m).to-place, d.most-places)

kept-three : (s : Sheet) (xs : List ℕ) (k t : ℕ) → length (kept s (stand_at xs k) t) ≡ figures
kept-three s xs k t =
    let e = stand_at xs k in
    let n = t - e.step in
    length-add e.cost (times n (wait_of s e.place)) figures (from-length figures (k * 5 + 2) xs) (length-times n (wait_of s e.place) ∙ wait-three s e.place)

-- by no corridor that leads elsewhere
pub cross-other : {s : Sheet} (b : Arrival) {l v : ℕ} → v ≡ to (get_or s.corridors l []) → (v ≡ b.place → ⊥) → (e : Arrival) → CrossesBy s b l e → ⊥
cross-other b p q e x = q (p ∙ x.cross.enters)

-- by corridor l
module _ {s : Sheet} (b : Arrival) {l : ℕ} (r : corridor.Corridor) (c : CorridorIs s l (b.step - 1) r) where
  pub cross-off : {p : Bool} → p ≡ at_most_b r.cost b.cost → r.open && p ≡ false → (e : Arrival) → CrossesBy s b l e → ⊥
  cross-off {p} q d e x =
      let y = crosses-corridor c e.place b.place x.price x.cross in
      let under : p ≡ true = q ∙ part-under (kept s e (b.step - 1)) r.cost b.cost (ap (add (kept s e (b.step - 1))) y.3 ∙ x.sum) in
      false-not-true d (true-and r.open p y.0 under)

  pub cross-on : {p : Bool} → p ≡ at_most_b r.cost b.cost → r.open && p ≡ true → (r.open ≡ true) × AtMost r.cost b.cost
  cross-on {p} q d =
      let x = and-true r.open p d in
      (x.0, at_most_b-true r.cost b.cost (sym q ∙ x.1))

  module _ {n k : ℕ} {xs : List ℕ} (opens : r.open ≡ true) (enters : r.to.0 ≡ b.place) (g : Cost) (q : (length g ≡ figures) × (add g r.cost ≡ b.cost))
      (w : WaitingRow s n xs (arrival r.from.0 (b.step - 1) g) k) where
    crosses : k < n → CrossesBy s b l (stand_at xs k)
    crosses h =
        let x = w.is h in
        let y : CrossingBy s l r.from.0 b.place (b.step - 1) r.cost = subst (λ (v : ℕ). CrossingBy s l r.from.0 v (b.step - 1) r.cost) enters (corridor-crosses c opens) in
        record {
          price = r.cost;
          cross = subst (λ (u : ℕ). CrossingBy s l u b.place (b.step - 1) r.cost) (sym x.place) y;
          stays = x.stays;
          sum = ap (λ (y : Cost). add y r.cost) x.sum ∙ q.1;
        }

    only : (j : ℕ) → j < n → CrossesBy s b l (stand_at xs j) → j ≡ k
    only j h x =
        let e = stand_at xs j in
        let t = b.step - 1 in
        let y = crosses-corridor c e.place b.place x.price x.cross in
        w.only j h
        (record {
          place = sym y.1;
          stays = x.stays;
          sum = cancel_right (kept s e t) g r.cost (kept-three s xs j t ∙ sym q.0) (ap (add (kept s e t)) y.3 ∙ x.sum ∙ sym q.1);
        })

    pub cross-one : {ys : List ℕ} → k < n → Raised n xs ys b.step (λ j. j ≡ k) → Raised n xs ys b.step (λ j. CrossesBy s b l (stand_at xs j))
    cross-one h = raised-as (λ j i e. subst (λ (i : ℕ). CrossesBy s b l (stand_at xs i)) (sym e) (crosses h)) only

    pub cross-none : n ≤ k → Raised n xs xs b.step (λ j. CrossesBy s b l (stand_at xs j))
    cross-none h = raised-none (λ j i x. omega (arith, only j i x))

  -- what can cross by corridor l can wait and cross by it a step later, so where that is settled it is marked
  module _ {n : ℕ} {xs : List ℕ} (moved : 1 ≤ b.step) (w : Settled s n xs b) (x : CrossesLater s l r.from.0 b.place b.step) where
    later : (k : ℕ) → CrossesBy s b l (stand_at xs k) → CrossesInto s (stand_at xs k) (arrival b.place (b.step + 1) (add b.cost (wait_of s b.place)))
    later k y =
        record {
          price = y.price;
          cross = subst (λ (i : ℕ). Crossing s e.place b.place i y.price) back (by-crossing s l e.place b.place b.step y.price (here.crosses y.price y.cross));
          stays = subst (Stays s e) back (record { soon = omega (arith, y.stays.soon); run = run_join s e.place e.step t b.step y.stays.run here.waits });
          sum = ap (λ (i : ℕ). add (kept s e i) y.price) (sym back) ∙ sum;
        }
      where
        e : Arrival
        e = stand_at xs k

        t : ℕ
        t = b.step - 1

        back : b.step ≡ b.step + 1 - 1
        back = omega arith

        next : suc t ≡ b.step
        next = omega (arith, moved)

        here : CrossesLater s l e.place b.place b.step
        here = subst (λ (u : ℕ). CrossesLater s l u b.place b.step) (crosses-corridor c e.place b.place y.price y.cross).1 x

        kept_on : kept s e b.step ≡ add (kept s e t) (wait_of s b.place)
        kept_on = ap (kept s e) (sym next) ∙ kept_next s e t y.stays.soon ∙ ap (add (kept s e t)) here.same

        sum : add (kept s e b.step) y.price ≡ add b.cost (wait_of s b.place)
        sum =
            ap (λ (g : Cost). add g y.price) kept_on
            ∙ same-figures (add (add (kept s e t) (wait_of s b.place)) y.price) (add (add (kept s e t) y.price) (wait_of s b.place))
            (turned ∙ sym turned')
            (λ i. omega (arith, fig-add (add (kept s e t) (wait_of s b.place)) y.price i, fig-add (kept s e t) (wait_of s b.place) i, fig-add (add (kept s e t) y.price) (wait_of s b.place) i, fig-add (kept s e t) y.price i))
            ∙ ap (λ (g : Cost). add g (wait_of s b.place)) y.sum
          where
            three : length y.price ≡ figures
            three = crossing-three (by-crossing s l e.place b.place t y.price y.cross)

            turned : length (add (add (kept s e t) (wait_of s b.place)) y.price) ≡ figures
            turned = length-add (add (kept s e t) (wait_of s b.place)) y.price figures (length-add (kept s e t) (wait_of s b.place) figures (kept-three s xs k t) (wait-three s b.place)) three

            turned' : length (add (add (kept s e t) y.price) (wait_of s b.place)) ≡ figures
            turned' = length-add (add (kept s e t) y.price) (wait_of s b.place) figures (length-add (kept s e t) y.price figures (kept-three s xs k t) three) (wait-three s b.place)

    pub cross-settled : Raised n xs xs b.step (λ k. CrossesBy s b l (stand_at xs k))
    cross-settled = record { rows = same_refl; either = λ k h. inl refl; every = λ k h y. omega (arith, w.every k h (later k y)) }

-- by any corridor
abbrev pub ByCorridor : Sheet → List ℕ → Arrival → ℕ → ℕ → Type 0
ByCorridor s xs b l k = CrossesBy s b l (stand_at xs k)

pub cross-more : {s : Sheet} {n l : ℕ} {xs ys zs : List ℕ} {b : Arrival} → Raised n xs ys b.step (Below (ByCorridor s xs b) l)
    → Raised n ys zs b.step (λ k. CrossesBy s b l (stand_at ys k)) → Raised n xs zs b.step (Below (ByCorridor s xs b) (l + 1))
cross-more {s} {n} {l} {xs} {ys} {zs} {b} p q =
    raised-more p q (λ k h. subst (CrossesBy s b l) (same-stand p.rows k)) (λ k h. subst (CrossesBy s b l) (sym (same-stand p.rows k)))

pub cross-all : {s : Sheet} {n l : ℕ} {xs ys : List ℕ} {b : Arrival} → length s.corridors ≤ l
    → Raised n xs ys b.step (Below (ByCorridor s xs b) l) → Raised n xs ys b.step (λ k. CrossesInto s (stand_at xs k) b)
cross-all {s} {n} {l} {xs} {ys} {b} h = raised-as (λ k i. to k) (λ k i. from k)
  where
    to : (k : ℕ) → Below (ByCorridor s xs b) l k → CrossesInto s (stand_at xs k) b
    to k x =
        let y = x.holds in
        record { price = y.price; cross = by-crossing s x.at (stand_at xs k).place b.place (b.step - 1) y.price y.cross; stays = y.stays; sum = y.sum }

    from : (k : ℕ) → CrossesInto s (stand_at xs k) b → Below (ByCorridor s xs b) l k
    from k x =
        let y = crossing-by s (stand_at xs k).place b.place (b.step - 1) x.price x.cross in
        record { at = y.0; below = omega (arith, y.1.listed, h); holds = record { price = x.price; cross = y.1; stays = x.stays; sum = x.sum } }

-- onto where row i stands at step t
module _ {s : Sheet} {n t i : ℕ} {xs : List ℕ} where
  pub onto-none : ((stand_at xs i).step ≤ t → t < mark_at xs i → ⊥) → Raised n xs xs t (Onto s xs t i)
  onto-none f = raised-none (λ k h x. f x.soon x.marked)

  pub onto-row : {ys : List ℕ} {b : Arrival} → (stand_at xs i).step ≤ t → t < mark_at xs i → b ≡ kept_at s (stand_at xs i) t
      → Raised n xs ys t (λ k. CrossesInto s (stand_at xs k) b) → Raised n xs ys t (Onto s xs t i)
  onto-row {ys} {b} l m e =
      raised-as
      (λ k h x. record { soon = l; marked = m; into = subst (CrossesInto s (stand_at xs k)) e x })
      (λ k h x. subst (CrossesInto s (stand_at xs k)) (sym e) x.into)

-- onto where any row stands
onto-back : {s : Sheet} {n i j t : ℕ} {xs ys : List ℕ} {P : ℕ → Type 0} → Raised n xs ys t P → t ≤ j → i < n → (k : ℕ) → Onto s ys j i k → Onto s xs j i k
onto-back {s} {n} {i} {j} {t} {xs} {ys} p m l k x =
    let e = same-stand p.rows in
    record {
      soon = subst (λ (a : Arrival). a.step ≤ j) (e i) x.soon;
      marked = raised-past p j i m l x.marked;
      into = subst (λ (a : Arrival). CrossesInto s a (kept_at s (stand_at xs i) j)) (e k) (subst (λ (a : Arrival). CrossesInto s (stand_at ys k) (kept_at s a j)) (e i) x.into);
    }

onto-any-back : {s : Sheet} {n j t : ℕ} {xs ys : List ℕ} {P : ℕ → Type 0} → Raised n xs ys t P → t ≤ j → (k : ℕ) → OntoAny s n ys j k → OntoAny s n xs j k
onto-any-back p m k x = record { row = x.row; within = x.within; onto = onto-back p m x.within k x.onto }

module _ {s : Sheet} {n t : ℕ} {xs : List ℕ} where
  pub onto-more : {i : ℕ} {ys zs : List ℕ} → i < n → Raised n xs ys t (Below (Onto s xs t) i) → Raised n ys zs t (Onto s ys t i) → Raised n xs zs t (Below (Onto s xs t) (i + 1))
  onto-more {i} {ys} {zs} l p q = raised-more p q (λ k h x. onto-back p (omega arith) l k x) (λ k h x. from k x)
    where
      e : (k : ℕ) → stand_at ys k ≡ stand_at xs k
      e = same-stand p.rows

      from : (k : ℕ) → Onto s xs t i k → Onto s ys t i k
      from k x =
          record {
            soon = subst (λ (a : Arrival). a.step ≤ t) (sym (e i)) x.soon;
            marked = raised-higher p t i l x.marked;
            into = subst (λ (a : Arrival). CrossesInto s a (kept_at s (stand_at ys i) t)) (sym (e k)) (subst (λ (a : Arrival). CrossesInto s (stand_at xs k) (kept_at s a t)) (sym (e i)) x.into);
          }

  -- the rows from i on stand nowhere yet, or there are none
  pub onto-all : {i : ℕ} {ys : List ℕ} → i ≤ n → ((j : ℕ) → i ≤ j → j < n → t < (stand_at xs j).step) → Raised n xs ys t (Below (Onto s xs t) i) → Raised n xs ys t (OntoAny s n xs t)
  onto-all {i} m f =
      raised-as
      (λ k h x. record { row = x.at; within = omega (arith, x.below); onto = x.holds })
      (λ k h x. ⊎_elim (λ l. record { at = x.row; below = l; holds = x.onto }) (λ l. absurd (omega (arith, f x.row l x.within, x.onto.soon))) (lt-or-le x.row i))

  -- the step is passed then, and stays so while marks of earlier steps are raised
  pub step-passed : {ys : List ℕ} → Raised n xs ys t (OntoAny s n xs t) → Passed s n ys t
  step-passed p = record { every = λ k h x. p.every k h (onto-any-back p (omega arith) k x) }

  pub passed-kept : {j : ℕ} {ys : List ℕ} {P : ℕ → Type 0} → t < j → Raised n xs ys t P → Passed s n xs j → Passed s n ys j
  passed-kept {j} l p q = record { every = λ k h x. omega (arith, l, raised-higher p (j - 1) k h (omega (arith, l, q.every k h (onto-any-back p (omega arith) k x)))) }

  pub passed-as : {j : ℕ} → t ≡ j → Passed s n xs t → Passed s n xs j
  passed-as e = subst (Passed s n xs) e

  -- no row is marked past t
  pub passed_none : ((k : ℕ) → k < n → mark_at xs k ≤ t) → Passed s n xs t
  passed_none f = record { every = λ k h x. absurd (omega (arith, x.onto.marked, f x.row x.within)) }

-- what is settled for a row that is marked past the step after
pub row_settled : {s : Sheet} {n t i : ℕ} {xs : List ℕ} → Passed s n xs (t + 1) → i < n → (stand_at xs i).step ≤ t → t + 1 < mark_at xs i → Settled s n xs (kept_at s (stand_at xs i) t)
row_settled {s} {n} {t} {i} {xs} p l m h = record { every = λ k j x. omega (arith, p.every k j (record { row = i; within = l; onto = record { soon = omega (arith, m); marked = h; into = subst (CrossesInto s (stand_at xs k)) (on k) x } })) }
  where
    e : Arrival
    e = stand_at xs i

    on : (k : ℕ) → arrival e.place (t + 1) (add (kept s e t) (wait_of s e.place)) ≡ kept_at s e (t + 1)
    on k = let z : suc t ≡ t + 1 = omega arith in ap (arrival e.place (t + 1)) (sym (kept_next s e t m) ∙ ap (kept s e) z)

pub settled-kept : {s : Sheet} {n t : ℕ} {xs ys : List ℕ} {b : Arrival} {P : ℕ → Type 0} → Raised n xs ys t P → Settled s n xs b → Settled s n ys b
settled-kept {s} {n} {t} {xs} {ys} {b} p w =
    record { every = λ k h x. raised-higher p b.step k h (w.every k h (subst (λ (a : Arrival). CrossesInto s a (arrival b.place (b.step + 1) (add b.cost (wait_of s b.place)))) (same-stand p.rows k) x)) }

pub enterable-kept : {s : Sheet} {since : List ℕ} {n t : ℕ} {xs ys : List ℕ} {b : Arrival} {settled : Bool} {P : ℕ → Type 0} → Raised n xs ys t P
    → Enterable s since n xs b settled → Enterable s since n ys b settled
enterable-kept p x = record { rowed = same-rowed p.rows x.rowed; moved = x.moved; day = x.day; settles = λ e. settled-kept p (x.settles e) }

pub passable-kept : {s : Sheet} {since : List ℕ} {n t : ℕ} {xs ys : List ℕ} {P : ℕ → Type 0} → Raised n xs ys t P → Passable s since n xs t → Passable s since n ys t
passable-kept p x = record { rowed = same-rowed p.rows x.rowed; moved = x.moved; day = x.day; passed = passed-kept (omega arith) p x.passed }

-- rows after a row are no sooner
pub no-sooner : {n : ℕ} {xs : List ℕ} → Sorted n xs → (i j : ℕ) → i ≤ j → j < n → (stand_at xs i).step ≤ (stand_at xs j).step
no-sooner {n} {xs} s i j h l = ⊎_elim (λ m. first (s.ascends i j m l)) (λ m. let z : i ≡ j = omega arith in subst (λ (k : ℕ). (stand_at xs i).step ≤ (stand_at xs k).step) z (omega arith)) (lt-or-le i j)
  where
    first : Lex (key_of (stand_at xs i)) (key_of (stand_at xs j)) → (stand_at xs i).step ≤ (stand_at xs j).step
    first x = ⊎_elim (λ y. omega (arith, y)) (λ y. omega (arith, y.0)) x

-- what the code reads of row i, and whether it stands at step t, marked past it
module _ {s : Sheet} {n t i : ℕ} {xs : List ℕ} {x : Arrival} {m : ℕ} (e : x ≡ stand_at xs i) (f : m ≡ mark_at xs i) where
  pub row-off : leb x.step t && ltb t m ≡ false → Raised n xs xs t (Onto s xs t i)
  row-off d =
      onto-none
      (λ l h. false-not-true d (true-and (leb x.step t) (ltb t m) (le-leb x.step t (omega (arith, ap (λ (a : Arrival). a.step) e))) (lt-ltb t m (omega (arith, f)))))

  pub row_on : leb x.step t && ltb t m ≡ true → {w g : Cost} → w ≡ wait_of s x.place → g ≡ add x.cost (times (t - x.step) w)
      → {ys : List ℕ} → Raised n xs ys t (λ k. CrossesInto s (stand_at xs k) (arrival x.place t g)) → Raised n xs ys t (Onto s xs t i)
  row_on d {w} {g} p q =
      let y = and-true (leb x.step t) (ltb t m) d in
      let here : g ≡ kept s x t = q ∙ ap (λ (c : Cost). add x.cost (times (t - x.step) c)) p in
      onto-row
      (omega (arith, leb-true x.step t y.0, ap (λ (a : Arrival). a.step) e))
      (omega (arith, ltb-true t m y.1, f))
      (ap (arrival x.place t) here ∙ ap (λ (a : Arrival). kept_at s a t) e)

-- where the row stands then can be entered
pub row-enters : {s : Sheet} {since : List ℕ} {n t i : ℕ} {xs : List ℕ} → Passable s since n xs t → i < n → {x : Arrival} {m : ℕ} → x ≡ stand_at xs i → m ≡ mark_at xs i
    → leb x.step t && ltb t m ≡ true → {w g : Cost} → w ≡ wait_of s x.place → g ≡ add x.cost (times (t - x.step) w)
    → {b : Bool} → (b ≡ true → t + 1 < m) → Enterable s since n xs (arrival x.place t g) b
row-enters {s} {since} {n} {t} {i} {xs} p l {x} {m} e f d {w} {g} q r h =
    record {
      rowed = p.rowed;
      moved = p.moved;
      day = p.day;
      settles = λ c. subst (Settled s n xs) (sym here) (row_settled p.passed l (omega (arith, leb-true x.step t (and-true (leb x.step t) (ltb t m) d).0, ap (λ (a : Arrival). a.step) e)) (omega (arith, f, h c)));
    }
  where
    here : arrival x.place t g ≡ kept_at s (stand_at xs i) t
    here = ap (arrival x.place t) (r ∙ ap (λ (c : Cost). add x.cost (times (t - x.step) c)) q) ∙ ap (λ (a : Arrival). kept_at s a t) e

-- figures that can be counted on
pub row-counted : {s : Sheet} {since : List ℕ} {n : ℕ} {table : List ℕ} → Rowed s since n table → {k : ℕ} → k < n → {x : Arrival} → x ≡ stand_at table k → Within 1000000000 x.cost
row-counted {s} {since} {n} {table} d {k} h e =
    subst (λ (a : Arrival). Within 1000000000 a.cost) (sym e)
    (record { every = λ i. omega (arith, arrives-bounded s d.derived.valid (stand_at table k) (d.rows.each k h).arrives i) })

pub row_low : {s : Sheet} {since : List ℕ} {n : ℕ} {table : List ℕ} → Rowed s since n table → {k : ℕ} → k < n → {x : Arrival} → x ≡ stand_at table k → x.place < 64
row_low {s} {since} {n} {table} d {k} h e =
    let v = d.derived.valid in
    omega (arith, arrives-place s v (stand_at table k) (d.rows.each k h).arrives, v.most-places, ap (λ (a : Arrival). a.place) e)

pub waits-counted : {n : ℕ} {w r : Cost} → n ≤ 255 → Within 60000 w → r ≡ times n w → Within 1000000000 r
waits-counted {n} {w} h x e = subst (Within 1000000000) (sym e) (within_more (n * 60000) 1000000000 (times n w) (omega arith) (within-times n 60000 w x))

-- what the code tests of a corridor, its first place and both waits
pub later-crosses : {s : Sheet} {since : List ℕ} → Derived s since → {l u v t : ℕ} (r : corridor.Corridor) → CorridorIs s l t r → u < 64 → t ≤ 255
    → {first : ℕ} → first ≡ number since (u * 256 + t) → {a b : Cost} → a ≡ wait_of s u → b ≡ wait_of s v → {p q : Bool} → p ≡ at_most_b a b → q ≡ at_most_b b a
    → r.open && ltb first t && p && q ≡ true → CrossesLater s l u v t
later-crosses {s} d {l} {u} {v} {t} r c low day {first} f {a} {b} e g {p} {q} h k x =
    let y = and-true (r.open && ltb first t && p) q x in
    let z = and-true (r.open && ltb first t) p y.0 in
    let w = and-true r.open (ltb first t) z.0 in
    let since-is : first ≡ since_of s u t = f ∙ d.firsts.of s (sym (got-back d.valid)) u t low (omega arith) in
    record {
      crosses = λ m n. crossing-also s l u v (t - 1) m n r.from.0 r.to.0 t r.cost (corridor-crosses c w.0);
      waits = (since-run s u (t - 1) t day (omega arith)).0 (omega (arith, since-is, ltb-true first t w.1));
      same =
          sym e
          ∙ at-most-antisym a b (ap length e ∙ wait-three s u ∙ sym (ap length g ∙ wait-three s v)) (at_most_b-true a b (sym h ∙ z.1)) (at_most_b-true b a (sym k ∙ y.1))
          ∙ g;
    }
