-- The marks as a whole. At the arrival the goal's row is marked, and nothing else is on the way; each step back marks what crosses to what is on the way
-- then, and what waits for it is below its mark already; at step 0 the marks tell of every row, and every step, whether it is on the way.
-- Assumes nothing.
use mathlib.Core.Path.{◌≡◌, refl, sym, ◌∙◌, ap, subst}
use mathlib.Core.Logic.{◌⊎◌, inl, inr, ⊎_elim}
use mathlib.Core.List.{List, []}
use Prim.Native.Nat.{ℕ, ◌+◌, ◌*◌, ◌-◌, ◌%◌, ◌≤◌, ◌<◌}
use native.Mathlib.Omega.{arith}
use lib.ListN.{get_or, length-map}
use Rattle.sheet.specs.Lists.{◌∈◌, rows, Lex}
use Rattle.sheet.specs.Sheet.{Sheet, goal}
use Rattle.sheet.specs.Valid.{Valid}
use Rattle.sheet.specs.Laws.Decided.{lt-or-le}
use Rattle.sheet.specs.Laws.Rows.{rows-count}
use Rattle.sheet.specs.Sorting.{Ascending}
use Rattle.costs.specs.Costs.{Cost}
use Rattle.arrivals.specs.Arrivals.{Arrival, Leading, key_of}
use Rattle.arrivals.specs.Computed.{arrival}
use Rattle.arrivals.specs.Rows.{row_at}
use Rattle.arrivals.specs.Laws.Bounds.{arrives-place}
use Rattle.arrivals.specs.Laws.Leading.{arrival-path}
use Rattle.arrivals.proofs.Leading.{leading-is, is_leading, leading-ascending}
use Rattle.journeys.specs.Journeys.{Counts}
use Rattle.journeys.specs.Front.{OnFront}
use Rattle.journeys.specs.Held.{row_of, table_rows, Holds, Endable}
use Rattle.journeys.specs.Inner.Lookup.{mark_at, stand_at, RowIs}
use Rattle.journeys.specs.Inner.Waits.{Rows, Rowed}
use Rattle.journeys.specs.Inner.Marks.{Raised, OntoAny, Passed, Marks}
use Rattle.journeys.specs.Laws.Goal.{arrival_of-earliest, arrival_of-leading}
use Rattle.journeys.specs.Laws.Rows.{keys-ascend, table-row, table_at, at_table}
use Rattle.journeys.specs.Laws.Tight.{Tight, kept_at, CrossesInto, tight-late, tight-sooner, tight-end, tight-last, tight-cross, tight-on}
use Rattle.journeys.proofs.Marking.{same-stand, raised-higher}
use Rattle.journeys.proofs.Crossings.{passed_none}

-- a table as the search leaves it: the rows are the leading arrivals, and none is marked
module _ {s : Sheet} (valid : Valid s) {n : ℕ} {xs : List ℕ} (h : Holds s n xs) where
  leads : (k : ℕ) → k < n → Leading s (row_at xs k)
  leads k l = leading-is s (row_at xs k) (subst (λ (m : List Arrival). row_at xs k ∈ m) h.rows_are (at_table n xs k l))

  pub low-place : (k : ℕ) → k < n → get_or xs (k * 5) 0 < 64
  low-place k l = omega (arith, arrives-place s valid (row_at xs k) (leads k l).arrives, valid.most-places)

  unmarked : (k : ℕ) → k < n → stand_at xs k ≡ row_at xs k
  unmarked k l = let e : get_or xs (k * 5) 0 % 64 ≡ get_or xs (k * 5) 0 = omega (arith, low-place k l) in arrival-path (stand_at xs k) (row_at xs k) e refl refl

  row-order : (i j : ℕ) → i < j → j < n → Lex (key_of (row_at xs i)) (key_of (row_at xs j))
  row-order i j l m =
      subst (λ (a : Arrival). Lex (key_of a) (key_of (row_at xs j))) (table-row n xs i (omega arith))
      (subst (λ (a : Arrival). Lex (key_of (get_or (table_rows n xs) i (arrival 0 0 []))) (key_of a)) (table-row n xs j m)
      (keys-ascend (arrival 0 0 []) key_of (table_rows n xs) (subst (Ascending key_of) (sym h.rows_are) (leading-ascending s)) i j l (omega (arith, length-map (rows 5 n xs) row_of, rows-count 5 n xs))))

  pub holds_rows : Rows s n xs
  holds_rows =
      record {
        sorted =
            record {
              room = h.room;
              ascends = λ i j l m. subst (λ (a : Arrival). Lex (key_of a) (key_of (stand_at xs j))) (sym (unmarked i (omega arith)))
                  (subst (λ (a : Arrival). Lex (key_of (row_at xs i)) (key_of a)) (sym (unmarked j m)) (row-order i j l m));
            };
        each = λ k l. subst (Leading s) (sym (unmarked k l)) (leads k l);
        every = λ e l.
            let r = table_at n xs e (subst (λ (m : List Arrival). e ∈ m) (sym h.rows_are) (is_leading s e l)) in
            (r.0, r.1, unmarked r.0 r.1 ∙ sym r.2);
      }

  pub no-marks : (k : ℕ) → k < n → mark_at xs k ≡ 0
  no-marks k l = omega (arith, low-place k l)

-- the marks of the front cost f at step A
module _ {s : Sheet} {f : Cost} {A n : ℕ} (o : OnFront s f) where
  -- at step A: the goal's row
  pub marks-start : {xs ys : List ℕ} {r : ℕ} → Rows s n xs → ((k : ℕ) → k < n → mark_at xs k ≡ 0) → Leading s (arrival (goal s) A f) → Tight s f A (arrival (goal s) A f) A
      → RowIs n xs (arrival (goal s) A f) r → Raised n xs ys (A + 1) (λ j. j ≡ r) → Marks s f A n ys A
  marks-start {xs} {ys} {r} rows none l t w p = record { sound = λ k j h a b. sound k j h a b (p.either k h); done = done }
    where
      e : (k : ℕ) → stand_at ys k ≡ stand_at xs k
      e = same-stand p.rows

      sound : (k j : ℕ) → k < n → (stand_at ys k).step ≤ j → j < mark_at ys k → (mark_at ys k ≡ mark_at xs k) ⊎ ((mark_at xs k < A + 1) × (mark_at ys k ≡ A + 1) × (k ≡ r)) → Tight s f A (stand_at ys k) j
      sound k j h a b (inl q) = absurd (omega (arith, q, none k h))
      sound k j h a b (inr q) =
          let z : stand_at ys k ≡ arrival (goal s) A f = e k ∙ ap (stand_at xs) q.2 ∙ w.is (omega (arith, q.2)) in
          let d : A ≡ j = omega (arith, a, b, q.1, ap (λ (x : Arrival). x.step) z) in
          subst (λ (x : Arrival). Tight s f A x j) (sym z) (subst (Tight s f A (arrival (goal s) A f)) d t)

      done : (k j : ℕ) → k < n → A ≤ j → Tight s f A (stand_at ys k) j → j < mark_at ys k
      done k j h a x =
          let d : j ≡ A = omega (arith, tight-late s f A (stand_at ys k) j x) in
          let z = tight-last s f A (stand_at ys k) l (subst (Tight s f A (stand_at ys k)) d x) in
          omega (arith, p.every k h (w.only k h (sym (e k) ∙ z)))

  -- one step back
  pub marks-step : {xs ys : List ℕ} {t : ℕ} → Rows s n xs → 0 < t → t ≤ A → Marks s f A n xs t → Raised n xs ys t (OntoAny s n xs t) → Marks s f A n ys (t - 1)
  marks-step {xs} {ys} {t} rows pos late m p = record { sound = λ k j h a b. sound k j h a b (p.either k h); done = λ k j h a x. ⊎_elim (new k j h a x) (old k j h x) (lt-or-le j t) }
    where
      e : (k : ℕ) → stand_at ys k ≡ stand_at xs k
      e = same-stand p.rows

      sound : (k j : ℕ) → k < n → (stand_at ys k).step ≤ j → j < mark_at ys k → (mark_at ys k ≡ mark_at xs k) ⊎ ((mark_at xs k < t) × (mark_at ys k ≡ t) × OntoAny s n xs t k) → Tight s f A (stand_at ys k) j
      sound k j h a b (inl q) = subst (λ (x : Arrival). Tight s f A x j) (sym (e k)) (m.sound k j h (subst (λ (x : Arrival). x.step ≤ j) (e k) a) (omega (arith, q)))
      sound k j h a b (inr q) =
          let i = q.2.row in
          let y = q.2.onto in
          let c = tight-cross s f A (stand_at xs i) (stand_at xs k) t pos (rows.each k h) (m.sound i t q.2.within y.soon y.marked) y.into in
          subst (λ (x : Arrival). Tight s f A x j) (sym (e k)) (tight-sooner s f A (stand_at xs k) j (t - 1) (subst (λ (x : Arrival). x.step ≤ j) (e k) a) (omega (arith, q.1)) c)

      old : (k j : ℕ) → k < n → Tight s f A (stand_at ys k) j → t ≤ j → j < mark_at ys k
      old k j h x l = raised-higher p j k h (m.done k j h l (subst (λ (x : Arrival). Tight s f A x j) (e k) x))

      new : (k j : ℕ) → k < n → t - 1 ≤ j → Tight s f A (stand_at ys k) j → j < t → j < mark_at ys k
      new k j h a x l =
          let d : j ≡ t - 1 = omega arith in
          let y : Tight s f A (stand_at xs k) (t - 1) = subst (Tight s f A (stand_at xs k)) d (subst (λ (x : Arrival). Tight s f A x j) (e k) x) in
          ⊎_elim
          (λ z. omega (arith, raised-higher p t k h (m.done k t h (omega arith) z)))
          (λ z. omega (arith, p.every k h (onto k z.0 z.1 z.2)))
          (tight-on s f A (stand_at xs k) t o pos late y)
        where
          onto : (k : ℕ) (d : Arrival) → Tight s f A d t → CrossesInto s (stand_at xs k) (kept_at s d t) → OntoAny s n xs t k
          onto k d x c =
              let r = rows.every d x.leads in
              let y : Tight s f A (stand_at xs r.0) t = subst (λ (a : Arrival). Tight s f A a t) (sym r.2) x in
              record {
                row = r.0;
                within = r.1;
                onto =
                    record {
                      soon = y.stays.soon;
                      marked = m.done r.0 t r.1 (omega arith) y;
                      into = subst (λ (a : Arrival). CrossesInto s (stand_at xs k) (kept_at s a t)) (sym r.2) c;
                    };
              }

-- where the code begins
module _ {s : Sheet} {since : List ℕ} {n : ℕ} {table : List ℕ} {A : ℕ} {f : Cost} (k : Endable s since n table A f) where
  pub end-rows : Rows s n table
  end-rows = holds_rows k.derived.valid k.holds

  pub end-rowed : Rowed s since n table
  end-rowed = record { derived = k.derived; rows = end-rows }

  pub end-leading : Leading s (arrival (goal s) A f)
  end-leading = subst (λ (t : ℕ). Leading s (arrival (goal s) t f)) (sym k.arrives_at) (arrival_of-leading s f k.on-front)

  end-tight : Tight s f A (arrival (goal s) A f) A
  end-tight =
      tight-end s f A k.on-front end-leading
      (subst (Counts s) (sym k.arrives_at) (arrival_of-earliest s f k.on-front.has).there.counts)

  pub end-day : A ≤ 255
  end-day = omega (arith, end-leading.arrives.in-time, k.derived.valid.most-steps)

  -- no row is marked past the arrival
  pub end-passed : {ys : List ℕ} {r : ℕ} → Raised n table ys (A + 1) (λ j. j ≡ r) → Passed s n ys (A + 1)
  end-passed p = passed_none (λ j h. ⊎_elim (λ e. omega (arith, e, no-marks k.derived.valid k.holds j h)) (λ x. omega (arith, x.1)) (p.either j h))

  -- the goal's row
  module _ {v r : ℕ} (e : v ≡ goal s) (w : RowIs n table (arrival v A f) r) where
    goal-row : RowIs n table (arrival (goal s) A f) r
    goal-row = subst (λ (v : ℕ). RowIs n table (arrival v A f) r) e w

    pub end-within : r < n
    end-within = let q = end-rows.every _ end-leading in omega (arith, q.1, goal-row.only q.0 q.1 q.2)

    pub end-marks : {ys : List ℕ} → Raised n table ys (A + 1) (λ j. j ≡ r) → Marks s f A n ys A
    end-marks = marks-start k.on-front end-rows (no-marks k.derived.valid k.holds) end-leading end-tight goal-row
