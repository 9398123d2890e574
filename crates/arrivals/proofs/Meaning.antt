-- The rows of a search are leading arrivals of the sheet that it searches: every arrival is led by a row, each row arrives, and no row leads
-- another; so the rows of a finished search are exactly the leading arrivals, and those of one that is under way are leading arrivals.
-- These laws stand here, and not in specs/, so that a must-fail edit of what they rest on is refused by them, and not as a text that cannot be read.
-- Assumes nothing.
use Rattle.std.specs.Prelude.{◌≡◌, refl, true, List, [], ◌∷◌, ℕ, zero, suc, ◌+◌, ◌*◌, ◌-◌, ◌≤◌, ◌<◌, length}
use Rattle.std.proofs.Common.{sym, ap, ◌∙◌, subst, inl, inr, ⊎_elim, arith, add-mul, one-mul, add-one}
use Rattle.sheet.specs.Sheet.{Sheet, steps}
use Rattle.sheet.specs.Laws.Decided.{lt-or-le, All, In, none, more, any-cons, any-nil, all_head, all_tail, all_map, any-map, any-all, any-find, in_all}
use Rattle.costs.specs.Costs.{Cost, fig, zero_cost, add, times, AtMost}
use Rattle.costs.specs.Laws.Figures.{fig-add, fig-times, at-most-trans, same?, at-most-not-Lex}
use Rattle.costs.specs.Moves.{wait_of}
use Rattle.intervals.specs.Intervals.{Free, Run}
use Rattle.arrivals.specs.Ways.{Move, waits, crosses}
use Rattle.arrivals.specs.Arrivals.{Arrival, key_of, Arrives, Leads, Leading}
use Rattle.arrivals.specs.Computed.{arrival}
use Rattle.arrivals.specs.Rows.{Row}
use Rattle.arrivals.specs.Laws.Trails.{Begins, Trail}
use Rattle.arrivals.specs.Laws.Leading.{key-inj, arrives-came, arrives-three, Covers, covers-trans, covers-antisym, came-arrives}
use Rattle.arrivals.specs.Laws.Steps.{arrives-on, arrives_back, arrives-until}
use Rattle.arrivals.specs.Inner.Network.{Link, openb, Case, since, Vacant}
use Rattle.arrivals.specs.Inner.Entering.{reach, Joins, Enters, RowLeads, Cand, Lead, Less, Complete, lead-of, lead-weaken, self-leads}
use Rattle.arrivals.specs.Inner.Filling.{RowBefore, Falling, more-falling, Sound, empty, first, entered, Filled, Filling, start_row}
use Rattle.arrivals.specs.Inner.Meaning.{Fits}
use Rattle.arrivals.proofs.Leading.{leads-covers, covers-leads}

one_more : (n m : ℕ) → (n + 1) * m ≡ n * m + m
one_more n m = add-mul n 1 m ∙ ap (λ (x : ℕ). n * m + x) (one-mul m)

module _ (s : Sheet) (k : Case) (fit : Fits s k) where
  run_of : (v u t : ℕ) → v < k.places → t ≤ steps s → since k v t ≤ u → u ≤ t → Run s v u t
  run_of v u t i l a b j x y = fit.free v j i (omega arith) (omega (arith, fit.runs v j t i l (omega arith) y))

  -- a row that leads covers, and the other way round
  row-covers : (v t : ℕ) (g : Cost) (q : Row) → v < k.places → t ≤ steps s → RowLeads v t (since k v t) (k.wait v) g q → Covers s q (arrival v t g)
  row-covers v t g q i l d =
      record {
        same_place = d.place;
        run = run_of v q.step t i l d.late d.early;
        no-later = d.early;
        no-dearer = subst (λ (w : Cost). AtMost (add q.cost (times (t - q.step) w)) g) (sym (fit.wait v i)) d.least;
      }

  covers-row : (v t : ℕ) (g : Cost) (q : Row) → v < k.places → t ≤ steps s → Covers s q (arrival v t g) → RowLeads v t (since k v t) (k.wait v) g q
  covers-row v t g q i l c =
      record {
        place = c.same_place;
        late = fit.soonest v q.step t i l c.no-later c.run;
        early = c.no-later;
        least = subst (λ (w : Cost). AtMost (add q.cost (times (t - q.step) w)) g) (fit.wait v i) c.no-dearer;
      }

  -- a row that leads an arrival leads what waiting makes of it
  lead-wait : (rs : List Row) (v t : ℕ) (g : Cost) → v < k.places → t + 1 ≤ steps s → Vacant k v (t + 1) → Lead k rs v t g → Lead k rs v (t + 1) (add g (k.wait v))
  lead-wait rs v t g i l f lead = record { row = any-map step lead.row }
    where
      step : (r : Row) → RowLeads v t (since k v t) (k.wait v) g r → RowLeads v (t + 1) (since k v (t + 1)) (k.wait v) (add g (k.wait v)) r
      step r d =
          let late = d.late in
          let early = d.early in
          let run : Run s v r.step (t + 1) =
          λ j x y. ⊎_elim (λ lt. run_of v r.step t i (omega arith) late early j x (omega arith)) (λ ge. let e : t + 1 ≡ j = omega arith in subst (Free s v) e (fit.free v (t + 1) i l f)) (lt-or-le j (t + 1)) in
          record {
            place = d.place;
            late = fit.soonest v r.step (t + 1) i l (omega arith) run;
            early = omega arith;
            least = record {
              every = λ i.
                  let e : (t + 1 - r.step) * fig (k.wait v) i ≡ (t - r.step) * fig (k.wait v) i + fig (k.wait v) i = ap (λ (n : ℕ). n * fig (k.wait v) i) (omega arith) ∙ one_more (t - r.step) (fig (k.wait v) i) in
                  omega (
                    arith,
                    fig-add r.cost (times (t + 1 - r.step) (k.wait v)) i,
                    fig-times (t + 1 - r.step) (k.wait v) i,
                    fig-add g (k.wait v) i,
                    d.least.every i,
                    fig-add r.cost (times (t - r.step) (k.wait v)) i,
                    fig-times (t - r.step) (k.wait v) i,
                  );
            };
          }

  -- crossing from where a row leads
  lead-cross : (rs : List Row) (t : ℕ) (g : Cost) (l : Link) → In l k.links → openb l t ≡ true
      → ((h : Cost) → AtMost h (add g l.cost) → Cand k rs l.to (t + 1) h → Lead k rs l.to (t + 1) h) → Lead k rs l.from t g → Lead k rs l.to (t + 1) (add g l.cost)
  lead-cross rs t g l mem opens now lead =
      let found = any-find lead.row in
      let r = found.0 in
      let d = found.2 in
      let h = reach (t + 1) (k.wait l.from) l.cost r in
      let t1 : t + 1 - 1 ≡ t = omega arith in
      let b : AtMost h (add g l.cost) =
      record {
        every = λ i.
            let e : (t + 1 - 1 - r.step) * fig (k.wait l.from) i ≡ (t - r.step) * fig (k.wait l.from) i = ap (λ (n : ℕ). n * fig (k.wait l.from) i) (omega arith) in
            omega (
              arith,
              fig-add (add r.cost (times (t + 1 - 1 - r.step) (k.wait l.from))) l.cost i,
              fig-add r.cost (times (t + 1 - 1 - r.step) (k.wait l.from)) i,
              fig-times (t + 1 - 1 - r.step) (k.wait l.from) i,
              fig-add g l.cost i,
              d.least.every i,
              fig-add r.cost (times (t - r.step) (k.wait l.from)) i,
              fig-times (t - r.step) (k.wait l.from) i,
            );
      } in
      let j : Joins k l (t + 1) h r = record { place = d.place; late = subst (λ (n : ℕ). since k l.from n ≤ r.step) (sym t1) d.late; early = omega (arith, d.early); sum = refl } in
      let e : Enters k rs l.to (t + 1) h l = record { into = refl; opens = subst (λ (n : ℕ). openb l n ≡ true) (sym t1) opens; by = any-map (λ q x. subst (Joins k l (t + 1) h) (sym x) j) found.1 } in
      lead-weaken k rs l.to (t + 1) h (add g l.cost) b (now h b (record { over = any-map (λ q x. subst (Enters k rs l.to (t + 1) h) (sym x) e) mem }))

  -- an arrival at step 0 is the start's
  start-leads : (rs : List Row) (v : ℕ) (g : Cost) → Begins s v g → (Vacant k k.start 0 → In (start_row k) rs) → Lead k rs v 0 g
  start-leads rs v g b st =
      let ev : v ≡ k.start = b.starts ∙ sym fit.start in
      let w : Vacant k k.start 0 = fit.vacant k.start 0 fit.start-place (omega arith) (subst (λ (u : ℕ). Free s u 0) ev b.free) in
      let l : Lead k rs k.start 0 zero_cost =
      record { row = any-map (λ r e. subst (RowLeads k.start 0 (since k k.start 0) (k.wait k.start) zero_cost) (sym e) (self-leads k.start 0 (since k k.start 0) (k.wait k.start) zero_cost w)) (st w) } in
      subst (λ (u : ℕ). Lead k rs u 0 g) (sym ev) (subst (Lead k rs k.start 0) (sym b.nothing) l)

  begins-of : (v : ℕ) (g : Cost) → Arrives s (arrival v 0 g) → Begins s v g
  begins-of v g a = let c = arrives-came s (arrival v 0 g) a in go c.before c.trail c.steps
    where
      go : (p : List ℕ) → Trail s (v ∷ p) g → length p ≡ 0 → Begins s v g
      go [] w e = w
      go (u ∷ p) w e = absurd (omega arith)

  -- an arrival stands at a place of the sheet
  arrives-inside : (t v : ℕ) (g : Cost) → Arrives s (arrival v t g) → v < k.places
  arrives-inside zero v g a = let b = begins-of v g a in omega (arith, b.starts, fit.start, fit.start-place)
  arrives-inside (suc t) v g a = let b = arrives_back s v t g a in go b.moves (arrives-inside t b.place b.cost b.there)
    where
      go : {u : ℕ} {c : Cost} → Move s u v t c → u < k.places → v < k.places
      go (waits p q) i = omega arith
      go {u} {c} (crosses x) i = fit.into _ (fit.listed u v t c x).has

  -- every arrival before place W at step T is led by a row
  covered : (rs : List Row) (T W : ℕ) → Complete k rs T W → (Vacant k k.start 0 → In (start_row k) rs) → (t v : ℕ) (g : Cost) → Arrives s (arrival v t g) → Less t v T W → Lead k rs v t g
  covered rs T W f st zero v g a le = start-leads rs v g (begins-of v g a) st
  covered rs T W f st (suc t) v g a le =
      let b = arrives_back s v t g a in
      subst (Lead k rs v (suc t)) (sym b.sum) (go b.moves (arrives-inside t b.place b.cost b.there) (covered rs T W f st t b.place b.cost b.there (inl (⊎_elim (λ x. omega arith) (λ x. omega (arith, x.0)) le))) b.free)
    where
      up : t + 1 ≡ suc t
      up = add-one t

      le' : Less (t + 1) v T W
      le' = subst (λ (n : ℕ). Less n v T W) (sym up) le

      go : {u : ℕ} {h c : Cost} → Move s u v t c → u < k.places → Lead k rs u t h → Free s v (suc t) → Lead k rs v (suc t) (add h c)
      go {u} {h} {c} (waits p q) i l fr =
          let e : c ≡ k.wait v = q ∙ ap (wait_of s) p ∙ fit.wait v (omega arith) in
          let w : Vacant k v (t + 1) = fit.vacant v (t + 1) (omega arith) (omega (arith, a.in-time)) (subst (Free s v) (sym up) fr) in
          subst (λ (n : ℕ). Lead k rs v n (add h c)) up
          (subst (λ (x : Cost). Lead k rs v (t + 1) (add h x)) (sym e) (lead-wait rs v t h (omega arith) (omega (arith, a.in-time)) w (subst (λ (n : ℕ). Lead k rs n t h) p l)))
      go {u} {h} {c} (crosses x) i l fr =
          let m = fit.listed u v t c x in
          let link : Link = record { from = u; to = v; cost = c; opens = m.opens } in
          let w : Vacant k v (t + 1) = fit.vacant v (t + 1) (fit.into link m.has) (omega (arith, a.in-time)) (subst (Free s v) (sym up) fr) in
          subst (λ (n : ℕ). Lead k rs v n (add h c)) up (lead-cross rs t h link m.has m.open-then (λ y b z. f (t + 1) v y le' (omega arith) (fit.into link m.has) w z) l)

  -- every row within the horizon arrives
  reached : (l : Link) (r : Row) (t : ℕ) (g : Cost) → In l k.links → openb l (t - 1) ≡ true → Arrives s r → t ≤ steps s → Vacant k l.to t → Joins k l t g r → Arrives s (arrival l.to t g)
  reached l r t g mem opens a in-time free j =
      let late = j.late in
      let early = j.early in
      let u = t - 1 in
      let e : suc u ≡ t = omega arith in
      let i : r.place < k.places = subst (λ (p : ℕ). p < k.places) (sym j.place) (fit.from l mem) in
      let run : Run s r.place r.step u = run_of r.place r.step u i (omega arith) (subst (λ (p : ℕ). since k p u ≤ r.step) (sym j.place) late) (omega arith) in
      let stay = arrives-until s u r a (omega arith) (omega arith) run in
      let stay' = subst (λ (w : Cost). Arrives s (arrival r.place u (add r.cost (times (u - r.step) w)))) (fit.wait r.place i) stay in
      let stay'' = subst (λ (p : ℕ). Arrives s (arrival p u (add r.cost (times (u - r.step) (k.wait p))))) j.place stay' in
      let on = arrives-on s l.from l.to u _ l.cost stay'' (crosses (fit.crossing l mem u opens)) (subst (Free s l.to) (sym e) (fit.free l.to t (fit.into l mem) in-time free)) (omega arith) in
      subst (λ (x : Cost). Arrives s (arrival l.to t x)) (sym j.sum) (subst (λ (n : ℕ). Arrives s (arrival l.to n (reach t (k.wait l.from) l.cost r))) e on)

  entered-arrives : (rs : List Row) (v t : ℕ) (g : Cost) → All (Arrives s) rs → t ≤ steps s → Vacant k v t → Cand k rs v t g → Arrives s (arrival v t g)
  entered-arrives rs v t g all in-time free c =
      let over = any-find c.over in
      let l = over.0 in
      let e = over.2 in
      let by = any-find e.by in
      subst (λ (p : ℕ). Arrives s (arrival p t g)) e.into
      (reached l by.0 t g over.1 e.opens (in_all by.1 all) in-time (subst (λ (p : ℕ). Vacant k p t) (sym e.into) free) by.2)

  pub all-arrive : (rs : List Row) → Sound k rs → All (λ r. r.step ≤ steps s) rs → All (Arrives s) rs
  all-arrive rs empty b = none
  all-arrive rs (first w) b = more (came-arrives s k.start 0 zero_cost (omega arith) (record { before = []; trail = record { starts = fit.start; free = fit.free k.start 0 fit.start-place (omega arith) w; nothing = refl }; steps = refl })) none
  all-arrive rs (entered {v = v} {t = t} {g = g} {rs = qs} p one w o so) b =
      let all = all-arrive qs so (all_tail b) in more (entered-arrives qs v t g all (all_head b) w o.cand) all

-- no row leads another

at-most-of : (g h wait : Cost) (t s : ℕ) → t ≡ s → AtMost (add g (times (t - s) wait)) h → AtMost g h
at-most-of g h wait t s e a =
    record { every = λ i. omega (arith, a.every i, fig-add g (times (t - s) wait) i) }

abbrev LeadsRow : Case → Row → Row → Type 0
LeadsRow k b a = RowLeads b.place b.step (since k b.place b.step) (k.wait b.place) b.cost a

not_after : (k : Case) (b r : Row) → length r.cost ≡ length b.cost → RowBefore b r → LeadsRow k b r → ⊥
not_after k b r len o d =
    let p = d.place in
    let early = d.early in
    ⊎_elim (λ l. ⊎_elim (λ x. omega arith) (λ x. omega (arith, x.1)) l)
    (λ x. at-most-not-Lex r.cost b.cost len (at-most-of r.cost b.cost (k.wait b.place) b.step r.step x.0 d.least) x.2) o.order

antichain : (k : Case) (rs : List Row) (a b : Row) → length a.cost ≡ length b.cost → Sound k rs → Falling rs → In a rs → In b rs → LeadsRow k b a → a ≡ b
antichain k rs a b len empty asc ia ib d = absurd (any-nil ia)
antichain k rs a b len (first w) asc ia ib d = ⊎_elim (λ p. ⊎_elim (λ q. sym p ∙ q) (λ n. absurd (any-nil n)) (any-cons ib)) (λ n. absurd (any-nil n)) (any-cons ia)
antichain k rs a b len (entered {v = v} {t = t} {g = g} {rs = qs} p one w o s) (more-falling all asc) ia ib d =
    ⊎_elim
    (λ x. ⊎_elim (λ y. sym x ∙ y)
    (λ y. absurd (not_after k b a len (any-all (λ q e c. subst (RowBefore b) x (subst (λ (z : Row). RowBefore z (record { place = v; step = t; cost = g })) e c)) y all) d)) (any-cons ib))
    (λ x. ⊎_elim
    (λ y. absurd (o.unled (record { row = any-map (λ q e. subst (λ (z : Row). LeadsRow k z q) (sym y) (subst (LeadsRow k b) (sym e) d)) x })))
    (λ y. antichain k qs a b len s asc x y d) (any-cons ib))
    (any-cons ia)

module _ (s : Sheet) (k : Case) (fit : Fits s k) (rs : List Row) (sound : Sound k rs) (asc : Falling rs) (in-time : All (λ r. r.step ≤ steps s) rs) where
  arrives-row : (r : Row) → In r rs → Arrives s r
  arrives-row r mem = in_all mem (all-arrive s k fit rs sound in-time)

  -- a row is a leading arrival where whatever leads it is itself led by a row
  lead-by : (r : Row) → In r rs → ((b : Arrival) → Arrives s b → Covers s b r → Lead k rs b.place b.step b.cost) → Leading s r
  lead-by r mem cover = record { arrives = arr; unled = λ b a d. only b a d }
    where
      arr : Arrives s r
      arr = arrives-row r mem

      only : (b : Arrival) → Arrives s b → Leads s b r → ⊥
      only b a d =
          let c = leads-covers s b r d in
          let found = any-find (cover b a c).row in
          let q = found.0 in
          let i : b.place < k.places = arrives-inside s k fit b.step b.place b.cost a in
          let qb : Covers s q b = row-covers s k fit b.place b.step b.cost q i a.in-time found.2 in
          let qr : Covers s q r = covers-trans s q b r qb c in
          let same : q ≡ r =
          antichain k rs q r (arrives-three s q (arrives-row q found.1) ∙ sym (arrives-three s r arr)) sound asc found.1 mem
          (covers-row s k fit r.place r.step r.cost q (arrives-inside s k fit r.step r.place r.cost arr) arr.in-time qr) in
          d.differ (covers-antisym s b r (arrives-three s b a) (arrives-three s r arr) c (subst (λ (z : Row). Covers s z b) same qb))

-- each row of a finished search is a leading arrival
filled-time : (s : Sheet) (k : Case) (rs : List Row) → Filled k rs (steps s + 1) 0 → All (λ r. r.step ≤ steps s) rs
filled-time s k rs f = all_map (λ r l. ⊎_elim (λ a. omega arith) (λ a. absurd (omega (arith, a.1))) l) f.keys

pub rows-lead : (s : Sheet) (k : Case) → Fits s k → (rs : List Row) → Filled k rs (steps s + 1) 0 → (r : Row) → In r rs → Leading s r
rows-lead s k fit rs f r mem =
    lead-by s k fit rs f.sound f.ascending (filled-time s k rs f) r mem
    (λ b a c. covered s k fit rs (steps s + 1) 0 f.complete f.started b.step b.place b.cost a (inl (omega (arith, a.in-time))))

-- each leading arrival is a row
pub leads-rows : (s : Sheet) (k : Case) → Fits s k → (rs : List Row) → Filled k rs (steps s + 1) 0 → (a : Arrival) → Leading s a → In a rs
leads-rows s k fit rs f a o =
    let arr = o.arrives in
    let found = any-find (covered s k fit rs (steps s + 1) 0 f.complete f.started a.step a.place a.cost arr (inl (omega (arith, arr.in-time)))).row in
    let q = found.0 in
    let c : Covers s q a = row-covers s k fit a.place a.step a.cost q (arrives-inside s k fit a.step a.place a.cost arr) arr.in-time found.2 in
    let there' : Arrives s q = in_all found.1 (all-arrive s k fit rs f.sound (filled-time s k rs f)) in
    go q found.1 c there' (same? (key_of q) (key_of a))
  where
    go : (q : Row) → In q rs → Covers s q a → Arrives s q → Dec (key_of q ≡ key_of a) → In a rs
    go q i c b (yes e) = any-map (λ r p. p ∙ key-inj q a e) i
    go q i c b (no n) = absurd (o.unled q b (covers-leads s q a o.arrives.in-time (λ e. n (ap key_of e)) c))

-- each row is a leading arrival while the search is under way, too: what a refusal for want of room rests on
module _ (s : Sheet) (k : Case) (fit : Fits s k) (rs : List Row) (t v : ℕ) (f : Filling k rs t v) (le : t ≤ steps s) where
  filling-time : All (λ r. r.step ≤ steps s) rs
  filling-time = all_map (λ r l. ⊎_elim (λ a. omega arith) (λ a. omega (arith, a.0)) l) f.keys

  old : (b : Arrival) → Arrives s b → Less b.step b.place t v → Lead k rs b.place b.step b.cost
  old b a l = covered s k fit rs t v f.complete f.started b.step b.place b.cost a l

  all_here : All (Arrives s) rs
  all_here = all-arrive s k fit rs f.sound filling-time

  -- a cost of entering v at t that is nowhere above that of a row there is led, since the rows there come before what is open
  led-now : (r : Row) → In r rs → r.step ≡ t → r.place ≡ v → (g : Cost) → AtMost g r.cost → Vacant k v t → Cand k rs v t g → Lead k rs v t g
  led-now r mem rt rv g below w c =
      let three = arrives-three s (arrival v t g) (entered-arrives s k fit rs v t g all_here le w c) in
      lead-of k rs v t g (λ n. at-most-not-Lex g r.cost (three ∙ sym (arrives-three s r (in_all mem all_here))) below (in_all mem (f.ahead g (record { cand = c; unled = n })) rt rv))

  -- an arrival at v and t at a cost that is nowhere above a row's there is led by a row
  covered-now : (r : Row) → In r rs → r.step ≡ t → r.place ≡ v → (h : Cost) → AtMost h r.cost → (n : ℕ) → n ≡ t → Arrives s (arrival v n h) → Lead k rs v t h
  covered-now r mem rt rv h below zero e a = subst (λ (j : ℕ). Lead k rs v j h) e (start-leads s k fit rs v h (begins-of s k fit v h a) f.started)
  covered-now r mem rt rv h below (suc n) e a =
      let b = arrives_back s v n h a in
      let l = old (arrival b.place n b.cost) b.there (inl (omega arith)) in
      subst (Lead k rs v t) (sym b.sum) (go b.moves (arrives-inside s k fit n b.place b.cost b.there) l b.free b.sum)
    where
      up : n + 1 ≡ t
      up = add-one n ∙ e

      go : {u : ℕ} {g c : Cost} → Move s u v n c → u < k.places → Lead k rs u n g → Free s v (suc n) → h ≡ add g c → Lead k rs v t (add g c)
      go {u} {g} {c} (waits p q) i l fr sum =
          let ec : c ≡ k.wait v = q ∙ ap (wait_of s) p ∙ fit.wait v (omega arith) in
          let w : Vacant k v (n + 1) = fit.vacant v (n + 1) (omega arith) (omega arith) (subst (Free s v) (sym (add-one n)) fr) in
          subst (λ (j : ℕ). Lead k rs v j (add g c)) up
          (subst (λ (x : Cost). Lead k rs v (n + 1) (add g x)) (sym ec) (lead-wait s k fit rs v n g (omega arith) (omega arith) w (subst (λ (j : ℕ). Lead k rs j n g) p l)))
      go {u} {g} {c} (crosses x) i l fr sum =
          let m = fit.listed u v n c x in
          let link : Link = record { from = u; to = v; cost = c; opens = m.opens } in
          let w : Vacant k v (n + 1) = fit.vacant v (n + 1) (fit.into link m.has) (omega arith) (subst (Free s v) (sym (add-one n)) fr) in
          subst (λ (j : ℕ). Lead k rs v j (add g c)) up
          (lead-cross s k fit rs n g link m.has m.open-then
          (λ y b z. subst (λ (j : ℕ). Lead k rs v j y) (sym up)
          (led-now r mem rt rv y (at-most-trans y h r.cost (subst (AtMost y) (sym sum) b) below) (subst (Vacant k v) up w) (subst (λ (j : ℕ). Cand k rs v j y) up z)))
          l)

  pub filling-lead : (r : Row) → In r rs → Leading s r
  filling-lead r mem = lead-by s k fit rs f.sound f.ascending filling-time r mem cover
    where
      key : Less r.step r.place t (v + 1)
      key = in_all mem f.keys

      now : (b : Arrival) → Arrives s b → Covers s b r → b.step ≡ t → r.step ≡ t → r.place ≡ v → Lead k rs b.place b.step b.cost
      now b a c bt rt rv =
          let bv : b.place ≡ v = c.same_place ∙ rv in
          let below : AtMost b.cost r.cost = at-most-of b.cost r.cost (wait_of s r.place) r.step b.step (rt ∙ sym bt) c.no-dearer in
          subst (λ (x : ℕ). Lead k rs x b.step b.cost) (sym bv)
          (subst (λ (x : ℕ). Lead k rs v x b.cost) (sym bt) (covered-now r mem rt rv b.cost below b.step bt (subst (λ (x : ℕ). Arrives s (arrival x b.step b.cost)) bv a)))

      cover : (b : Arrival) → Arrives s b → Covers s b r → Lead k rs b.place b.step b.cost
      cover b a c =
          let p = c.same_place in
          let no-later = c.no-later in
          ⊎_elim
          (λ x. old b a (inl (omega arith)))
          (λ x. ⊎_elim (λ lt. old b a (inl (omega (arith, x.0))))
          (λ ge. let bt : b.step ≡ t = omega (arith, x.0) in
          ⊎_elim (λ lt. old b a (inr (bt, omega arith)))
          (λ ge'. now b a c bt x.0 (omega (arith, x.1)))
          (lt-or-le r.place v))
          (lt-or-le b.step t))
          key
