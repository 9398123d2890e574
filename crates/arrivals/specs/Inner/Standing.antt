-- The lists of all places from step to step: what they show of the rows, that visits leave them as they are but for what they add, and that after they are
-- settled they stand for all rows of the step.
use Rattle.std.specs.Prelude.{◌≡◌, refl, Bool, true, false, List, ◌⊎◌, ℕ, ◌+◌, ◌*◌, ◌-◌, ◌/◌, ◌%◌, ◌^◌, ◌≤◌, ◌<◌, length, get_or, set, replicate, Result, Ok, Err, IsErr}
use Rattle.std.proofs.Common.{sym, ap, ◌∙◌, subst, inl, inr, ⊎_elim, arith, length-set, get_or-set_same, get_or-set_other, lt-ltb, le-ltb}
use Rattle.std.proofs.Math.Decide.{ℕ_discrete}
use Rattle.std.specs.Int.Bits.{bit_or}
use Rattle.std.proofs.lemmas.Nat.{shl-shr}
use Rattle.sheet.specs.Lists.{pick}
use Rattle.sheet.specs.Laws.Decided.{lt-or-le, from-same, false-not-true}
use Rattle.intervals.specs.Sets.{Has}
use Rattle.intervals.specs.Laws.Sets.{has_left, has_right, has-or, has_one, has-own}
use Rattle.costs.specs.Costs.{Cost, figures, fig, add, times, zero_cost, AtMost}
use Rattle.costs.specs.Laws.Figures.{fig-add, fig-times, fig-zero, length-add, same-figures, at-most-refl, at-most-trans, within_more}
use Rattle.arrivals.specs.Rows.{Row, row_at, cost_at, FiguresPut, Put}
use Rattle.arrivals.specs.Laws.Rows.{row_kept}
use Rattle.arrivals.specs.Inner.Rows.{rows_of, rows-find, any_at, all-at, Bounded, zeros-at}
use Rattle.arrivals.specs.Inner.Network.{Case, case_of, places_of, since_in, wait_in}
use Rattle.arrivals.specs.Inner.Lent.{Given}
use Rattle.arrivals.specs.Inner.Entering.{LedAt, Stands}
use Rattle.arrivals.specs.Inner.Filling.{Grown, Visited}
use Rattle.arrivals.specs.Inner.Pruning.{parted}
use Rattle.arrivals.specs.Inner.Lists.{past_of, size_of, fresh_of, new_of, list_at, lists_room, cost_in, entry, stood, stood_row, grown_by}
use Rattle.arrivals.specs.Inner.Lists.{LedIn, Shows, Stems, Under, Listing, Sourcing, OwnIs, Aside, Pending, Origin, Settled, SameAt, SettledTo, AllSettleable}
use Rattle.arrivals.specs.Inner.Lists.{Modest, Appended, NewIn, Headed, LiveVisited}
use Rattle.arrivals.specs.declared.network.Here.{Here}
use Rattle.arrivals.specs.declared.lists.Part.{Part}
use Rattle.arrivals.specs.declared.offers.Full.{Full}
use Rattle.arrivals.specs.Inner.Outcomes.{offered}

-- what rows come to, and what they lead

module _ (wait c g : Cost) (s t : ℕ) (early : s ≤ t) (last : t ≤ 255) where
  pub stood-least : AtMost (stood s wait c) (stood t wait g) → AtMost (add c (times (t - s) wait)) g
  stood-least l =
      record {
        every = λ i. omega (
          arith,
          l.every i,
          fig-add c (times (255 - s) wait) i,
          fig-times (255 - s) wait i,
          fig-add g (times (255 - t) wait) i,
          fig-times (255 - t) wait i,
          fig-add c (times (t - s) wait) i,
          fig-times (t - s) wait i,
          parted (255 - s) (t - s) (255 - t) (fig wait i) (omega arith),
        );
      }

  pub least-stood : AtMost (add c (times (t - s) wait)) g → AtMost (stood s wait c) (stood t wait g)
  least-stood l =
      record {
        every = λ i. omega (
          arith,
          l.every i,
          fig-add c (times (255 - s) wait) i,
          fig-times (255 - s) wait i,
          fig-add g (times (255 - t) wait) i,
          fig-times (255 - t) wait i,
          fig-add c (times (t - s) wait) i,
          fig-times (t - s) wait i,
          parted (255 - s) (t - s) (255 - t) (fig wait i) (omega arith),
        );
      }

-- the safe interval of v goes on from step t - 1
goes_on : {free net : List ℕ} → Given free net → (v t p : ℕ) → v < places_of net → t ≤ 255 → p ≤ t → since_in free v t < p
    → since_in free v (t - 1) ≡ since_in free v t
goes_on given v t p inside last soon l = given.legal.runs v (t - 1) t inside last (omega arith) (omega arith)

-- the costs of a place that count at h show what its rows lead
pub shows-own : {free net xs : List ℕ} {m n : ℕ} {live : List ℕ} (h : Here) (p : Part) → Given free net → Stands (case_of free net) h
    → Sourcing free net xs m n live h.step.0
    → ((k : ℕ) → k < n → (row_at xs k).place ≡ h.place.0 → (row_at xs k).step < h.step.0) → OwnIs live h p → Shows live p xs n h
shows-own {free} {net} {xs} {m} {n} {live} h p given st s early own =
    record {
      inside = ⊎_elim (λ z. omega (arith, own.at, z.1, s.size, st.inside)) (λ z. omega (arith, own.at, z.1, w.few, s.size, st.inside)) own.n;
      led = λ g l. ⊎_elim (λ z. absurd (omega (arith, l.upto, z.1))) (λ z. led g l z.0 z.1) own.n;
      shown = λ g a. shown g a;
    }
  where
    v : ℕ
    v = h.place.0

    t : ℕ
    t = h.step.0

    w : Listing free net xs m live t v
    w = s.lists v st.inside

    same : h.wait ≡ wait_in net v
    same = st.wait

    before : h.since.0 < past_of live v → since_in free v (t - 1) ≡ h.since.0
    before l = goes_on given v t (past_of live v) st.inside st.last w.soon (omega (arith, st.since)) ∙ sym st.since

    led : (g : Cost) → LedIn live p (stood t h.wait g) → h.since.0 < past_of live v → p.n ≡ size_of live v → LedAt (rows_of xs n) h g
    led g l after e =
        let b = before after in
        let q = w.stems (omega (arith, b)) l.at (omega (arith, l.upto)) in
        let r = row_at xs q.at in
        let soon : r.step < past_of live v = w.newest q.at q.inside q.place in
        any_at _ xs n q.at (omega (arith, q.inside, s.upto))
        (record {
          place = q.place;
          late = omega (arith, q.late, b);
          early = omega (arith, w.soon);
          least = stood-least h.wait r.cost g r.step t (omega (arith, w.soon)) st.last
              (subst (λ (c : Cost). AtMost c (stood t h.wait g)) (q.sum ∙ ap (λ (x : Cost). stood_row x r) (sym same))
              (subst (λ (a : ℕ). AtMost (cost_in live a l.at) (stood t h.wait g)) own.at l.least));
        })

    shown : (g : Cost) → LedAt (rows_of xs n) h g → LedIn live p (stood t h.wait g)
    shown g a =
        let q = rows-find xs n a in
        let k = q.at in
        let f = q.fits in
        let r = row_at xs k in
        let soon : r.step < t = early k (omega (arith, q.upto)) f.place in
        let low : k < m = ⊎_elim (λ lt. lt) (λ ge. absurd (omega (arith, s.later k ge (omega (arith, q.upto))))) (lt-or-le k m) in
        let past : r.step < past_of live v = w.newest k low f.place in
        let after : h.since.0 < past_of live v = omega (arith, f.late) in
        let b = before after in
        let u = w.whole (omega (arith, b)) k low f.place (omega (arith, f.late, b)) in
        let e : p.n ≡ size_of live v = ⊎_elim (λ z. absurd (omega (arith, z.0))) (λ z. z.1) own.n in
        record {
          at = u.at;
          upto = omega (arith, u.upto);
          least = subst (λ (x : ℕ). AtMost (cost_in live x u.at) (stood t h.wait g)) (sym own.at)
              (at-most-trans _ (stood_row (wait_in net v) r) _ u.least
              (subst (λ (x : Cost). AtMost (stood_row x r) (stood t h.wait g)) same (least-stood h.wait r.cost g r.step t (omega arith) st.last f.least)));
        }

-- a list whose numbers, and the rows that it is for, are the same

pub record ListSame (live after : List ℕ) (v : ℕ) : Type 0 where
  pub past : past_of after v ≡ past_of live v
  pub size : size_of after v ≡ size_of live v
  pub fresh : fresh_of after v ≡ fresh_of live v
  pub entries : (i : ℕ) → i < size_of live v → entry after v i ≡ entry live v i

pub entry-same : (live after : List ℕ) (v i : ℕ) → ((j : ℕ) → i * 3 ≤ j → j < i * 3 + 3 → get_or after (list_at v + j) 0 ≡ get_or live (list_at v + j) 0)
    → entry after v i ≡ entry live v i
entry-same live after v i h =
    from-same figures (list_at v + i * 3) (list_at v + i * 3) after live (λ q l. let e : list_at v + i * 3 + q ≡ list_at v + (i * 3 + q) = omega arith in
    ap (λ (j : ℕ). get_or after j 0) e ∙ h (i * 3 + q) (omega arith) (omega arith) ∙ sym (ap (λ (j : ℕ). get_or live j 0) e))

pub list-self : (live : List ℕ) (v : ℕ) → ListSame live live v
list-self live v = record { past = refl; size = refl; fresh = refl; entries = λ i l. refl }

pub listing-kept : {free net xs ys : List ℕ} {m : ℕ} {live after : List ℕ} {t v : ℕ} → ((k : ℕ) → k < m → row_at ys k ≡ row_at xs k) → ListSame live after v
    → Listing free net xs m live t v
    → Listing free net ys m after t v
listing-kept {free} {net} {xs} {ys} {m} {live} {after} {t} {v} rows e w =
    record {
      few = omega (arith, e.size, w.few);
      fresh = omega (arith, e.fresh, e.size, w.fresh);
      soon = omega (arith, e.past, w.soon);
      newest = λ k l p. omega (arith, e.past, w.newest k l (place k l p), step k l);
      stems = λ h i l.
          let s = w.stems (omega (arith, e.past)) i (omega (arith, e.size)) in
          let r = rows s.at s.inside in
          record {
            at = s.at;
            inside = s.inside;
            place = ap (λ (x : Row). x.place) r ∙ s.place;
            late = omega (arith, s.late, step s.at s.inside);
            sum = e.entries i (omega (arith, e.size)) ∙ s.sum ∙ ap (stood_row (wait_in net v)) (sym r);
          };
      whole = λ h k l p late. up 0 k l (w.whole (omega (arith, e.past)) k l (place k l p) (omega (arith, step k l)));
      new = λ h k l p late.
          subst (λ (f : ℕ). Under after v f (size_of after v) (stood_row (wait_in net v) (row_at ys k))) (sym e.fresh)
          (up (fresh_of live v) k l (w.new (omega (arith, e.past)) k l (place k l p) (omega (arith, step k l, e.past))));
    }
  where
    place : (k : ℕ) → k < m → (row_at ys k).place ≡ v → (row_at xs k).place ≡ v
    place k l p = sym (ap (λ (x : Row). x.place) (rows k l)) ∙ p

    step : (k : ℕ) → k < m → (row_at ys k).step ≡ (row_at xs k).step
    step k l = ap (λ (x : Row). x.step) (rows k l)

    up : (f k : ℕ) → k < m → Under live v f (size_of live v) (stood_row (wait_in net v) (row_at xs k))
        → Under after v f (size_of after v) (stood_row (wait_in net v) (row_at ys k))
    up f k l u =
        record {
          at = u.at;
          from = u.from;
          upto = omega (arith, u.upto, e.size);
          least = subst (λ (r : Row). AtMost (entry after v u.at) (stood_row (wait_in net v) r)) (sym (rows k l))
              (subst (λ (c : Cost). AtMost c (stood_row (wait_in net v) (row_at xs k))) (sym (e.entries u.at u.upto)) u.least);
        }

-- the list of a place that has no rows of step t, at the next step
listing-on : {free net xs : List ℕ} {m n : ℕ} {live : List ℕ} {t v : ℕ} → Given free net → v < places_of net → t ≤ 255 → m ≤ n
    → ((k : ℕ) → m ≤ k → k < n → (row_at xs k).place ≡ v → ⊥)
    → Listing free net xs m live t v → Listing free net xs n live (t + 1) v
listing-on {free} {net} {xs} {m} {n} {live} {t} {v} given inside last upto none w =
    record {
      few = w.few;
      fresh = w.fresh;
      soon = omega (arith, w.soon);
      newest = λ k l p. w.newest k (low k l p) p;
      stems = λ h i l.
          let s = w.stems (before h).0 i l in
          record { at = s.at; inside = omega (arith, s.inside); place = s.place; late = omega (arith, s.late, (before h).1); sum = s.sum };
      whole = λ h k l p late. w.whole (before h).0 k (low k l p) p (omega (arith, (before h).1));
      new = λ h k l p late. w.new (before h).0 k (low k l p) p late;
    }
  where
    low : (k : ℕ) → k < n → (row_at xs k).place ≡ v → k < m
    low k l p = ⊎_elim (λ lt. lt) (λ ge. absurd (none k ge l p)) (lt-or-le k m)

    now : since_in free v (t + 1 - 1) ≡ since_in free v t
    now = let e : t + 1 - 1 ≡ t = omega arith in ap (since_in free v) e

    before : since_in free v (t + 1 - 1) < past_of live v → (since_in free v (t - 1) < past_of live v) × (since_in free v (t - 1) ≡ since_in free v (t + 1 - 1))
    before h = let g = goes_on given v t (past_of live v) inside last w.soon (omega (arith, now)) in (omega (arith, now, g), g ∙ sym now)

-- the new rows of place w, which stand together
pub record Group (free net xs : List ℕ) (m n : ℕ) (live : List ℕ) (t w : ℕ) : Type 0 where
  pub lo : ℕ
  pub hi : ℕ
  pub from : m ≤ lo
  pub order : lo ≤ hi
  pub upto : hi ≤ n
  pub vacant : since_in free w t ≤ t
  pub own : (k : ℕ) → lo ≤ k → k < hi → ((row_at xs k).place ≡ w) × ((row_at xs k).step ≡ t)
  pub all : (k : ℕ) → m ≤ k → k < n → (row_at xs k).place ≡ w → (lo ≤ k) × (k < hi)
  pub pending : Pending net xs live w lo hi

-- the list of a place that has rows of step t, after it is settled
listing-settled : {free net xs : List ℕ} {m n : ℕ} {live after : List ℕ} {t v : ℕ} → Given free net → v < places_of net → t ≤ 255 → m ≤ n
    → Group free net xs m n live t v
    → Settled live after v (since_in free v t) t → Listing free net xs m live t v → Listing free net xs n after (t + 1) v
listing-settled {free} {net} {xs} {m} {n} {live} {after} {t} {v} given inside last upto g d w =
    record {
      few = omega (arith, d.few, g.pending.few);
      fresh = d.fresh;
      soon = omega (arith, d.past);
      newest = λ k l p. ⊎_elim (λ lt. omega (arith, w.newest k lt p, w.soon, d.past)) (λ ge. let a = g.all k ge l p in omega (arith, (g.own k a.0 a.1).1, d.past)) (lt-or-le k m);
      stems = λ h i l. let o = d.origin i l in subst (λ (s : ℕ). Stems net xs n v s (entry after v i)) (sym now) (subst (Stems net xs n v (since_in free v t)) (sym o.same) (origin o));
      whole = λ h k l p late. ⊎_elim (λ lt. old k lt p (omega (arith, now))) (λ ge. let a = g.all k ge l p in up 0 k a.0 a.1 (omega arith)) (lt-or-le k m);
      new = λ h k l p e.
          ⊎_elim
          (λ lt. absurd (omega (arith, w.newest k lt p, w.soon, d.past)))
          (λ ge. let a = g.all k ge l p in up (fresh_of after v) k a.0 a.1 (omega arith))
          (lt-or-le k m);
    }
  where
    now : since_in free v (t + 1 - 1) ≡ since_in free v t
    now = let e : t + 1 - 1 ≡ t = omega arith in ap (since_in free v) e

    same : since_in free v t < past_of live v → since_in free v (t - 1) ≡ since_in free v t
    same l = goes_on given v t (past_of live v) inside last w.soon l

    origin : {i : ℕ} (o : Origin live after v (since_in free v t) i) → Stems net xs n v (since_in free v t) (entry live v o.at)
    origin o =
        ⊎_elim
        (λ lt.
        let b = same (o.old lt) in
        let s = w.stems (omega (arith, b, o.old lt)) o.at lt in
        record { at = s.at; inside = omega (arith, s.inside); place = s.place; late = omega (arith, s.late, b); sum = s.sum })
        (λ ge.
        let q = o.at - size_of live v in
        let l : q < g.hi - g.lo = omega (arith, o.upto, g.pending.size) in
        let e : size_of live v + q ≡ o.at = omega arith in
        let b = g.own (g.lo + q) (omega arith) (omega arith) in
        record {
          at = g.lo + q;
          inside = omega (arith, g.upto);
          place = b.0;
          late = omega (arith, b.1, g.vacant);
          sum = ap (entry live v) (sym e) ∙ g.pending.each q l;
        })
        (lt-or-le o.at (size_of live v))

    lower : {f : ℕ} {c : Cost} → f ≤ fresh_of after v → Under after v (fresh_of after v) (size_of after v) c → Under after v f (size_of after v) c
    lower l u = record { at = u.at; from = omega (arith, u.from); upto = u.upto; least = u.least }

    added : (j : ℕ) (c : Cost) → size_of live v ≤ j → j < new_of live v → AtMost (entry live v j) c → Under after v (fresh_of after v) (size_of after v) c
    added j c ge lt l = let k = d.new j ge lt in record { at = k.at; from = k.from; upto = k.upto; least = subst (λ (x : Cost). AtMost x c) (sym k.same) l }

    up : (f k : ℕ) → g.lo ≤ k → k < g.hi → f ≤ fresh_of after v → Under after v f (size_of after v) (stood_row (wait_in net v) (row_at xs k))
    up f k ge lt z =
        let e : g.lo + (k - g.lo) ≡ k = omega arith in
        let s = g.pending.each (k - g.lo) (omega arith) ∙ ap (λ (x : ℕ). stood_row (wait_in net v) (row_at xs x)) e in
        lower z (added (size_of live v + (k - g.lo)) _ (omega arith) (omega (arith, g.pending.size)) (subst (AtMost (entry live v (size_of live v + (k - g.lo)))) s (at-most-refl _)))

    old : (k : ℕ) → k < m → (row_at xs k).place ≡ v → since_in free v t ≤ (row_at xs k).step
        → Under after v 0 (size_of after v) (stood_row (wait_in net v) (row_at xs k))
    old k lt p late =
        let after-since : since_in free v t < past_of live v = omega (arith, w.newest k lt p) in
        let b = same after-since in
        let u = w.whole (omega (arith, b)) k lt p (omega (arith, b)) in
        ⊎_elim
        (λ q. record { at = q.at; from = q.from; upto = q.upto; least = subst (λ (x : Cost). AtMost x (stood_row (wait_in net v) (row_at xs k))) (sym q.same) u.least })
        (λ q. lower (omega arith) (added q.at _ q.from q.upto (at-most-trans _ (entry live v u.at) _ q.least u.least)))
        (d.old after-since u.at u.upto)

-- while the places of step t are visited: the lists of the rows before it, and the new rows of the places of a set, all below v
pub record Gathering (free net xs : List ℕ) (m n : ℕ) (live : List ℕ) (t v set : ℕ) : Type 0 where
  pub sourcing : Sourcing free net xs m n live t
  pub groups : (w : ℕ) → w < places_of net → Has set w → Group free net xs m n live t w
  pub none : (w : ℕ) → w < places_of net → (Has set w → ⊥) → (k : ℕ) → m ≤ k → k < n → (row_at xs k).place ≡ w → ⊥
  pub below : (w : ℕ) → w < places_of net → Has set w → w < v

has-zero : (v : ℕ) → Has 0 v → ⊥
has-zero v h = let e : 0 * 2 ^ v ≡ 0 = omega arith in omega (arith, h.digit, ap (λ (x : ℕ). x / 2 ^ v) e, shl-shr 0 v)

pub gathering-first : {free net xs : List ℕ} {n : ℕ} {live : List ℕ} {t : ℕ} (v : ℕ) → Sourcing free net xs n n live t → Gathering free net xs n n live t v 0
gathering-first v s = record { sourcing = s; groups = λ w l h. absurd (has-zero w h); none = λ w l h k a b p. omega arith; below = λ w l h. absurd (has-zero w h) }

pub gathering-past : {free net xs : List ℕ} {m n : ℕ} {live : List ℕ} {t v set : ℕ} (u : ℕ) → v ≤ u → Gathering free net xs m n live t v set
    → Gathering free net xs m n live t u set
gathering-past u l g = record { sourcing = g.sourcing; groups = g.groups; none = g.none; below = λ w i h. omega (arith, g.below w i h) }

-- the numbers of other places after a visit of place v
aside_same : {live after : List ℕ} {v w : ℕ} → Aside live after v → w < 64 → v < 64 → size_of live w ≤ 170 → ListSame live after w
aside_same {live} {after} {v} {w} a l m few =
    record {
      past = a.same w (λ e. omega arith) (inl (omega arith));
      size = a.same (64 + w) (λ e. omega arith) (inl (omega arith));
      fresh = a.same (128 + w) (λ e. omega arith) (inl (omega arith));
      entries = λ i b. entry-same live after w i (λ j x y. a.same (list_at w + j) (λ e. omega arith) (away j (omega arith) (omega arith)));
    }
  where
    away : (j : ℕ) → j < 510 → j < size_of live w * 3 → (list_at w + j < list_at v + size_of live v * 3) ⊎ (list_at v + 510 ≤ list_at w + j)
    away j x y =
        ⊎_elim
        (λ lt. inl (omega arith))
        (λ ge. ⊎_elim (λ gt. inr (omega arith)) (λ le. let e : w ≡ v = omega arith in inl (omega (arith, ap (size_of live) e))) (lt-or-le v w))
        (lt-or-le w v)

pending-kept : {net xs ys live after : List ℕ} {v w lo hi : ℕ} → Aside live after v → w < 64 → v < 64 → (w ≡ v → ⊥)
    → ((k : ℕ) → k < hi → row_at ys k ≡ row_at xs k) → Pending net xs live w lo hi
    → Pending net ys after w lo hi
pending-kept {net} {xs} {ys} {live} {after} {v} {w} {lo} {hi} a l m other rows p =
    record {
      size = omega (arith, new, size, p.size);
      few = omega (arith, new, p.few);
      each = λ i b.
          let e : size_of after w + i ≡ size_of live w + i = omega (arith, size) in
          ap (entry after w) e ∙ entry-same live after w (size_of live w + i) (λ j x y. a.same (list_at w + j) (λ z. omega arith) (away j (omega (arith, p.size, p.few)))) ∙ p.each i b
          ∙ ap (stood_row (wait_in net w)) (sym (rows (lo + i) (omega arith)));
    }
  where
    new : new_of after w ≡ new_of live w
    new = a.same (192 + w) (λ e. other (omega arith)) (inl (omega arith))

    size : size_of after w ≡ size_of live w
    size = a.same (64 + w) (λ e. omega arith) (inl (omega arith))

    away : (j : ℕ) → j < 510 → (list_at w + j < list_at v + size_of live v * 3) ⊎ (list_at v + 510 ≤ list_at w + j)
    away j x = ⊎_elim (λ lt. inl (omega arith)) (λ ge. ⊎_elim (λ gt. inr (omega arith)) (λ le. absurd (other (omega arith))) (lt-or-le v w)) (lt-or-le w v)

-- after a visit of place v
module _ {free net xs ys : List ℕ} {m n r : ℕ} {live after : List ℕ} {t v set : ℕ} (few : places_of net ≤ 64) (inside : v < places_of net) (vacant : since_in free v t ≤ t)
    (grown : Grown xs ys n r v t) (aside : Aside live after v) (pending : n < r → Pending net ys after v n r) (g : Gathering free net xs m n live t v set) where
  rows : (k : ℕ) → k < n → row_at ys k ≡ row_at xs k
  rows k l = row_kept xs ys k (λ j a b. grown.below j (omega arith))

  outside : Has set v → ⊥
  outside h = omega (arith, g.below v inside h)

  upto : m ≤ n
  upto = g.sourcing.upto

  old-group : (w : ℕ) → w < places_of net → Has set w → Group free net ys m r after t w
  old-group w l h =
      let o = g.groups w l h in
      let other : w ≡ v → ⊥ = λ e. omega (arith, g.below w l h) in
      record {
        lo = o.lo;
        hi = o.hi;
        from = o.from;
        order = o.order;
        upto = omega (arith, o.upto, grown.more);
        vacant = o.vacant;
        own = λ k a b. let e = rows k (omega (arith, o.upto)) in let q = o.own k a b in (ap (λ (x : Row). x.place) e ∙ q.0, ap (λ (x : Row). x.step) e ∙ q.1);
        all = λ k a b p. ⊎_elim (λ lt. o.all k a lt (sym (ap (λ (x : Row). x.place) (rows k lt)) ∙ p)) (λ ge. absurd (other (sym p ∙ (grown.own k ge b).0))) (lt-or-le k n);
        pending = pending-kept aside (omega arith) (omega arith) other (λ k a. rows k (omega (arith, o.upto))) o.pending;
      }

  new-group : n < r → Group free net ys m r after t v
  new-group more =
      record {
        lo = n;
        hi = r;
        from = upto;
        order = grown.more;
        upto = omega arith;
        vacant = vacant;
        own = grown.own;
        all = λ k a b p. ⊎_elim (λ lt. absurd (g.none v inside outside k a lt (sym (ap (λ (x : Row). x.place) (rows k lt)) ∙ p))) (λ ge. (ge, b)) (lt-or-le k n);
        pending = pending more;
      }

  sources : Sourcing free net ys m r after t
  sources =
      let s = g.sourcing in
      record {
        size = omega (arith, s.size, aside.size);
        upto = omega (arith, s.upto, grown.more);
        later = λ k a b. ⊎_elim (λ lt. ap (λ (x : Row). x.step) (rows k lt) ∙ s.later k a lt) (λ ge. (grown.own k ge b).1) (lt-or-le k n);
        lists = λ w l. listing-kept (λ k a. rows k (omega (arith, s.upto))) (aside_same aside (omega arith) (omega arith) (s.lists w l).few) (s.lists w l);
      }

  old-none : (w : ℕ) → w < places_of net → (Has set w → ⊥) → (w ≡ v → n < r → ⊥) → (k : ℕ) → m ≤ k → k < r → (row_at ys k).place ≡ w → ⊥
  old-none w l out other k a b p =
      ⊎_elim (λ lt. g.none w l out k a lt (sym (ap (λ (x : Row). x.place) (rows k lt)) ∙ p)) (λ ge. other (sym p ∙ (grown.own k ge b).0) (omega arith)) (lt-or-le k n)

  pub gathering-on : Gathering free net ys m r after t (v + 1) (grown_by set v n r)
  gathering-on = ⊎_elim more less (lt-or-le n r)
    where
      more : n < r → Gathering free net ys m r after t (v + 1) (grown_by set v n r)
      more lt =
          let e = lt-ltb n r lt in
          subst (λ (b : Bool). Gathering free net ys m r after t (v + 1) (pick b (bit_or set (2 ^ v)) set)) (sym e)
          (record {
            sourcing = sources;
            groups = λ w l h. ⊎_elim (λ o. old-group w l o) (λ o. let z = has_one v w o in subst (Group free net ys m r after t) (sym z) (new-group lt)) (has-or set (2 ^ v) w h);
            none = λ w l out. old-none w l (λ h. out (has_left set (2 ^ v) w h)) (λ z b. out (has_right set (2 ^ v) w (subst (Has (2 ^ v)) (sym z) (has-own v))));
            below = λ w l h. ⊎_elim (λ o. omega (arith, g.below w l o)) (λ o. omega (arith, has_one v w o)) (has-or set (2 ^ v) w h);
          })

      less : r ≤ n → Gathering free net ys m r after t (v + 1) (grown_by set v n r)
      less le =
          let e = le-ltb n r le in
          subst (λ (b : Bool). Gathering free net ys m r after t (v + 1) (pick b (bit_or set (2 ^ v)) set)) (sym e)
          (record { sourcing = sources; groups = old-group; none = λ w l out. old-none w l out (λ z b. omega arith); below = λ w l h. omega (arith, g.below w l h) })

-- at the end of step t
pub all-settleable : {free net xs : List ℕ} {m n : ℕ} {live : List ℕ} {t v set : ℕ} → Gathering free net xs m n live t v set
    → AllSettleable live set (places_of net)
all-settleable g =
    record {
      each = λ v l h.
          let p = (g.groups v l h).pending in
          record { room = omega (arith, g.sourcing.size); order = omega (arith, p.size); few = p.few };
    }

same-list : {live after : List ℕ} {v : ℕ} → size_of live v ≤ 170 → SameAt live after v → ListSame live after v
same-list {live} {after} {v} few s = record { past = s.past; size = s.size; fresh = s.fresh; entries = λ i l. entry-same live after v i (λ j a b. s.list j (omega arith)) }

pub gathering-end : {free net xs : List ℕ} {m n : ℕ} {live after : List ℕ} {t v set p : ℕ} → Given free net → t ≤ 255 → p ≡ places_of net
    → Gathering free net xs m n live t v set
    → SettledTo free live after set p t → Sourcing free net xs n n after (t + 1)
gathering-end {free} {net} {xs} {m} {n} {live} {after} {t} {v} {set} {p} given last all g d =
    record { size = omega (arith, g.sourcing.size, d.size); upto = omega arith; later = λ k a b. absurd (omega arith); lists = λ w l. list w l (ℕ_discrete (set / 2 ^ w % 2) 1) }
  where
    list : (w : ℕ) → w < places_of net → Dec (set / 2 ^ w % 2 ≡ 1) → Listing free net xs n after (t + 1) w
    list w l (yes e) =
        let h : Has set w = record { digit = e } in
        listing-settled given l last g.sourcing.upto (g.groups w l h) (d.done w (omega arith) (omega (arith, given.places)) h) (g.sourcing.lists w l)
    list w l (no e) =
        let o = g.sourcing.lists w l in
        listing-kept (λ k a. refl) (same-list o.few (d.others w (omega (arith, given.places)) (λ a h. e h.digit)))
        (listing-on given l last g.sourcing.upto (g.none w l (λ h. e h.digit)) o)

-- what a visit adds to the list of its place

-- a visit that gives up
pub live-refused : {free net xs ys live after : List ℕ} {n v t : ℕ} (r : Result ℕ Full) → IsErr r → length after ≡ length live → ((j : ℕ) → j < n * 5 → get_or ys j 0 ≡ get_or xs j 0)
    → LiveVisited free net xs ys live after n v t (offered r)
live-refused (Err e) i size below =
    record { size = size; below = below; visited = λ e. absurd (false-not-true refl e); aside = λ e. absurd (false-not-true refl e); pending = λ e. absurd (false-not-true refl e) }
live-refused (Ok n) i size below = absurd (false-not-true refl i)

pub new_none : (xs : List ℕ) (n d : ℕ) (live : List ℕ) (h : Here) → NewIn xs n d live live h false
new_none xs n d live h =
    record {
      size = refl;
      aside = λ e. absurd (false-not-true refl e);
      more = λ e. absurd (false-not-true refl e);
      few = λ e. absurd (false-not-true refl e);
      each = λ e. absurd (false-not-true refl e);
    }

pub new_in : (xs : List ℕ) (n d : ℕ) (live mid : List ℕ) (h : Here) (at s : ℕ) (rest : Cost) → h.place.0 < 64
    → at ≡ list_at h.place.0 + size_of live h.place.0 * 3
    → s ≡ size_of live h.place.0 + d → rest ≡ times (255 - h.step.0) h.wait → size_of live h.place.0 + d ≤ 170 → 256 ≤ length live
    → Appended xs n d live mid at rest
    → NewIn xs n d live (set mid (192 + h.place.0) s) h true
new_in xs n d live mid h at s rest inside from is stays few room a =
    record {
      size = length-set mid (192 + v) s ∙ a.others.size;
      aside = λ e. record {
        size = length-set mid (192 + v) s ∙ a.others.size;
        same = λ j other o. get_or-set_other mid (192 + v) j s 0 other ∙ a.others.same j (⊎_elim (λ b. inl (omega arith)) (λ b. inr (omega arith)) o);
      };
      more = λ e. get_or-set_same mid (192 + v) s 0 (omega (arith, a.others.size)) ∙ is;
      few = λ e. few;
      each = λ e i l.
          from-same figures (list_at v + (size_of live v + i) * 3) (at + i * 3) (set mid (192 + v) s) mid
          (λ q b. let z : list_at v + (size_of live v + i) * 3 + q ≡ at + i * 3 + q = omega arith in
          get_or-set_other mid (192 + v) (list_at v + (size_of live v + i) * 3 + q) s 0 (λ y. omega arith) ∙ ap (λ (j : ℕ). get_or mid j 0) z)
          ∙ a.each i l ∙ ap (add (cost_at xs (n + i))) stays;
    }
  where
    v : ℕ
    v = h.place.0

pub visited-none : {free net xs ys live : List ℕ} {n d v t : ℕ} → d ≡ 0 → Visited (case_of free net) xs ys n v t (record { ok = true; rows = n + d })
    → LiveVisited free net xs ys live live n v t (record { ok = true; rows = n })
visited-none {free} {net} {xs} {ys} {live} {n} {d} {v} {t} z w =
    let e : n + d ≡ n = omega arith in
    record {
      size = refl;
      below = w.grown.below;
      visited = λ q. subst (λ (r : ℕ). Visited (case_of free net) xs ys n v t (record { ok = true; rows = r })) e w;
      aside = λ q. record { size = refl; same = λ j a b. refl };
      pending = λ q l. absurd (omega arith);
    }

pub visited-new : {free net xs ys live after : List ℕ} {n d : ℕ} (h : Here) (b : Bool) → h.place.0 < 64 → h.wait ≡ wait_in net h.place.0
    → Visited (case_of free net) xs ys n h.place.0 h.step.0 (record { ok = true; rows = n + d }) → NewIn ys n d live after h b
    → LiveVisited free net xs ys live after n h.place.0 h.step.0 (record { ok = b; rows = n + d })
visited-new {free} {net} {xs} {ys} {live} {after} {n} {d} h b inside waits w a =
    record {
      size = a.size;
      below = w.grown.below;
      visited = λ e. subst (λ (x : Bool). Visited (case_of free net) xs ys n h.place.0 h.step.0 (record { ok = x; rows = n + d })) (sym e) w;
      aside = a.aside;
      pending = λ e l.
          let same : size_of after v ≡ size_of live v = (a.aside e).same (64 + v) (λ y. omega arith) (inl (omega arith)) in
          record {
            size = omega (arith, a.more e, same);
            few = omega (arith, a.more e, a.few e);
            each = λ i u.
                let z : size_of after v + i ≡ size_of live v + i = omega (arith, same) in
                let s = (w.grown.own (n + i) (omega arith) (omega arith)).1 in
                ap (entry after v) z ∙ a.each e i (omega arith) ∙ ap (λ (x : Cost). stood h.step.0 x (cost_at ys (n + i))) waits
                ∙ ap (λ (x : ℕ). stood x (wait_in net v) (cost_at ys (n + i))) (sym s);
          };
    }
  where
    v : ℕ
    v = h.place.0

-- the new rows of a visit are modest
pub visited-modest : {k : Case} {xs ys : List ℕ} {n d v t : ℕ} → t ≤ 255 → Visited k xs ys n v t (record { ok = true; rows = n + d }) → Modest ys n d
visited-modest {k} {xs} {ys} {n} {d} {v} {t} last w =
    record {
      each = λ i l.
          let s = (w.grown.own (n + i) (omega arith) (omega arith)).1 in
          let b = all-at Bounded ys (n + d) (n + i) (omega arith) (w.result.done refl).bounded in
          within_more (60000 * (row_at ys (n + i)).step) 100000000 _ (omega (arith, s)) b.within;
    }

-- at step 1, before and after the row of the start
pub sourcing-none : {free net xs : List ℕ} (live : List ℕ) → lists_room (places_of net) ≤ length live → live ≡ replicate (length live) 0
    → Sourcing free net xs 0 0 live 1
sourcing-none {free} {net} {xs} live room zero =
    record {
      size = room;
      upto = omega arith;
      later = λ k a b. absurd (omega arith);
      lists = λ v l. record {
        few = omega (arith, at (64 + v));
        fresh = omega (arith, at (128 + v));
        soon = omega (arith, at v);
        newest = λ k a p. absurd (omega arith);
        stems = λ h i a. absurd (omega (arith, at (64 + v)));
        whole = λ h k a p b. absurd (omega arith);
        new = λ h k a p b. absurd (omega arith);
      };
    }
  where
    at : (j : ℕ) → get_or live j 0 ≡ 0
    at j = ap (λ (x : List ℕ). get_or x j 0) zero ∙ zeros-at (length live) j

pub figures-at : {at p : ℕ} {c : Cost} {a b : List ℕ} → at ≡ p → FiguresPut at c a b → FiguresPut p c a b
figures-at {c = c} {a} {b} e f = subst (λ (n : ℕ). FiguresPut n c a b) e f

pub sourcing-first : {free net xs ys : List ℕ} (start : ℕ) (live mid after : List ℕ) (c : Cost) → places_of net ≤ 64 → start < places_of net
    → lists_room (places_of net) ≤ length live
    → live ≡ replicate (length live) 0 → Put xs ys 0 (record { place = start; step = 0; cost = zero_cost }) → c ≡ times 255 (wait_in net start)
    → length c ≡ figures
    → FiguresPut (list_at start) c live mid → Headed mid after start 1 1 0 → Sourcing free net ys 1 1 after 1
sourcing-first {free} {net} {xs} {ys} start live mid after c few inside room zero put is three figs head =
    record {
      size = omega (arith, room, figs.others.size, head.length);
      upto = omega arith;
      later = λ k a b. absurd (omega arith);
      lists = λ v l. list v l (ℕ_discrete v start);
    }
  where
    none : (j : ℕ) → j < 256 → (j ≡ start → ⊥) → (j ≡ 64 + start → ⊥) → (j ≡ 128 + start → ⊥) → get_or after j 0 ≡ 0
    none j l a b d = head.others j a b d ∙ figs.others.same j (inl (omega arith)) ∙ ap (λ (x : List ℕ). get_or x j 0) zero ∙ zeros-at (length live) j

    row : row_at ys 0 ≡ record { place = start; step = 0; cost = zero_cost }
    row = put.row

    step : (row_at ys 0).step ≡ 0
    step = ap (λ (r : Row). r.step) row

    stays : stood_row (wait_in net start) (row_at ys 0) ≡ c
    stays =
        ap (stood_row (wait_in net start)) row
        ∙ same-figures (add zero_cost (times 255 (wait_in net start))) c
        (length-add zero_cost (times 255 (wait_in net start)) figures refl (ap length (sym is) ∙ three) ∙ sym three)
        (λ i. fig-add zero_cost (times 255 (wait_in net start)) i ∙ omega (arith, fig-zero i) ∙ ap (λ (x : Cost). fig x i) (sym is))

    own : entry after start 0 ≡ c
    own =
        from-same figures (list_at start + 0 * 3) (list_at start) after mid
        (λ q b. let e : list_at start + 0 * 3 + q ≡ list_at start + q = omega arith in ap (λ (j : ℕ). get_or after j 0) e ∙ head.others (list_at start + q) (λ y. omega arith) (λ y. omega arith) (λ y. omega arith))
        ∙ figs.figures

    under : (k : ℕ) → k < 1 → Under after start 0 1 (stood_row (wait_in net start) (row_at ys k))
    under k l =
        let e : 0 ≡ k = omega arith in
        record { at = 0; from = omega arith; upto = omega arith; least = subst (AtMost (entry after start 0)) (own ∙ sym stays ∙ ap (λ (x : ℕ). stood_row (wait_in net start) (row_at ys x)) e) (at-most-refl _) }

    at-start : Listing free net ys 1 after 1 start
    at-start =
        record {
          few = omega (arith, head.size);
          fresh = omega (arith, head.fresh, head.size);
          soon = omega (arith, head.past);
          newest = λ k l p. let e : k ≡ 0 = omega arith in omega (arith, ap (λ (x : ℕ). (row_at ys x).step) e, step, head.past);
          stems = λ h i l.
              let e : 0 ≡ i = omega (arith, head.size) in
              record { at = 0; inside = omega arith; place = ap (λ (r : Row). r.place) row; late = omega (arith, head.past, step); sum = ap (entry after start) (sym e) ∙ own ∙ sym stays };
          whole = λ h k l p a. subst (λ (n : ℕ). Under after start 0 n (stood_row (wait_in net start) (row_at ys k))) (sym head.size) (under k l);
          new = λ h k l p a.
              subst (λ (f : ℕ). Under after start f (size_of after start) (stood_row (wait_in net start) (row_at ys k))) (sym head.fresh)
              (subst (λ (n : ℕ). Under after start 0 n (stood_row (wait_in net start) (row_at ys k))) (sym head.size) (under k l));
        }

    list : (v : ℕ) → v < places_of net → Dec (v ≡ start) → Listing free net ys 1 after 1 v
    list v l (yes e) = subst (Listing free net ys 1 after 1) (sym e) at-start
    list v l (no e) =
        let size = none (64 + v) (omega arith) (λ y. omega arith) (λ y. e (omega arith)) (λ y. omega arith) in
        let away : (k : ℕ) → k < 1 → (row_at ys k).place ≡ v → ⊥ = λ k a p. let z : 0 ≡ k = omega arith in e (sym p ∙ ap (λ (x : ℕ). (row_at ys x).place) (sym z) ∙ ap (λ (r : Row). r.place) row) in
        record {
          few = omega (arith, size);
          fresh = omega (arith, none (128 + v) (omega arith) (λ y. omega arith) (λ y. omega arith) (λ y. e (omega arith)));
          soon = omega (arith, none v (omega arith) e (λ y. omega arith) (λ y. omega arith));
          newest = λ k a p. absurd (away k a p);
          stems = λ h i a. absurd (omega (arith, size));
          whole = λ h k a p b. absurd (away k a p);
          new = λ h k a p b. absurd (away k a p);
        }
