-- Once every cost of entering a place at a step has been offered, the group is what the search has to add.
use Rattle.std.specs.Prelude.{◌≡◌, refl, List, ◌∷◌, ◌++◌, [], true, ◌⊎◌, ℕ, zero, suc, ◌+◌, ◌*◌, ◌-◌, ◌≤◌, ◌<◌, get_or}
use Rattle.std.proofs.Common.{sym, ap, ◌∙◌, subst, inl, inr, ⊎_elim, arith}
use Rattle.sheet.specs.Laws.Decided.{lt-or-le, Any, All, In, here, there, none, more, any-cons, any-nil, all_head, all_tail, all_map, all_both, all_join, any-map, any-all, any-right, any_left, any-split}
use Rattle.costs.specs.Costs.{Cost, add, times, AtMost}
use Rattle.costs.specs.Laws.Figures.{fig-add, at-most-trans}
use Rattle.intervals.specs.Sets.{Has}
use Rattle.arrivals.specs.Rows.{Row, row_at, Put}
use Rattle.arrivals.specs.Laws.Rows.{row-path}
use Rattle.arrivals.specs.Inner.Rows.{rows_of, rows-find, all-at, rows-kept, rows-tail, tail_of, tail-zero, Bounded}
use Rattle.arrivals.specs.Inner.Network.{Case, case_of, Link, Legal, since, since_in, Vacant, link_of, links_of, links-find, count_of}
use Rattle.arrivals.specs.Inner.Entering.{Enters, RowLeads, Led, LedAt, Stands, Cand, Lead, Open, Less, cand-down, cand-bounded, self-leads, led-lead}
use Rattle.arrivals.specs.Inner.Pruning.{steady-none}
use Rattle.arrivals.specs.Inner.Filling.{Sound, entered, Falling, more-falling, Filled, start_row, row-after, filling-of, filled-place, filled-as, result-done, Grown, grown-none, grown-more, Visiting, Visited}
use Rattle.arrivals.specs.Inner.Offering.{Beaten, Offered, offered-not, offered-in, Offers, offers-none, offers-more, Apart, Sorted, sorted_none, sorted_head, sorted_tail, thin-all, insert_all, offers-sorted}
use Rattle.arrivals.specs.Inner.Sweeps.{SweptAt}
use Rattle.arrivals.specs.Inner.Index.{Indexed, Covers, indexed-more, indexed-kept, covers_more, covers_kept, NotedAs}
use Rattle.arrivals.specs.Inner.Due.{Lookout}
use Rattle.arrivals.specs.declared.network.Here.{Here}

-- a row of the group that is gathered at v and t after the rows rs
pub record Own (k : Case) (rs : List Row) (v t : ℕ) (r : Row) : Type 0 where
  pub place : r.place ≡ v
  pub step : r.step ≡ t
  pub fresh : Open k rs v t r.cost

module _ (k : Case) (rs : List Row) (v t : ℕ) where
  abbrev Older : List ℕ → Type 0
  Older h = Led rs v t (since k v t) (k.wait v) h

  pub gathered : {S : List ℕ → Type 0} {gs : List Row} → ((h : List ℕ) → S h → Cand k rs v t h) → Offers S Older v t [] gs → All (Own k rs v t) gs × Sorted gs
  gathered f o = (owned f o, offers-sorted o sorted_none)
    where
      owned : {S : List ℕ → Type 0} {gs : List Row} → ((h : List ℕ) → S h → Cand k rs v t h) → Offers S Older v t [] gs → All (Own k rs v t) gs
      owned f offers-none = none
      owned {S} f (offers-more {ps} {qs} {g} o s x) = go (owned f o) x
        where
          go : {ps qs : List Row} → All (Own k rs v t) ps → Offered Older v t g ps qs → All (Own k rs v t) qs
          go a (offered-not y) = a
          go a (offered-in n h y i) = insert_all i (record { place = refl; step = refl; fresh = record { cand = f g s; unled = λ l. h l.row } }) (thin-all y a)

less-sum : (a b g : List ℕ) → AtMost (add a b) g → AtMost a g
less-sum a b g l = record { every = λ i. omega (arith, fig-add a b i, l.every i) }

record Part (k : Case) (qs : List Row) (t v : ℕ) : Type 0 where
  bounded : All Bounded qs
  keys : All (λ r. Less r.step r.place t (v + 1)) qs
  ascending : Falling qs
  sound : Sound k qs
  started : Vacant k k.start 0 → Any (λ r. r ≡ start_row k) qs

module _ (k : Case) (rs : List Row) (t v : ℕ) (legal : Legal k) (one : 1 ≤ t) (inside : v < k.places) (free : Vacant k v t) (f : Filled k rs t v) where
  cand-up : (gs : List Row) (g : List ℕ) → Cand k rs v t g → Cand k (gs ++ rs) v t g
  cand-up gs g c = record { over = any-map (λ l e. record { into = e.into; opens = e.opens; by = any-right gs e.by }) c.over }

  cand-back : {gs : List Row} (u s : ℕ) (g : List ℕ) → s ≤ t → All (Own k rs v t) gs → Cand k (gs ++ rs) u s g → Cand k rs u s g
  cand-back u s g l none c = c
  cand-back u s g l (more {x = r} {l = gs} p a) c = cand-back u s g l a (cand-down k r (gs ++ rs) u s g (omega (arith, p.step)) c)

  add_row : (gs : List Row) (g : List ℕ) → Part k (gs ++ rs) t v → All (Own k rs v t) gs → All (Apart g) gs → Open k rs v t g → Part k (record { place = v; step = t; cost = g } ∷ gs ++ rs) t v
  add_row gs g p a s o =
      record {
        bounded = more (cand-bounded k rs v t g legal f.bounded o.cand) p.bounded;
        keys = more {x = record { place = v; step = t; cost = g }} (inr (refl, omega arith)) p.keys;
        ascending = more-falling (all_both (row-after v t g) p.keys (all_join (all_map (λ q x y z. x.0) s) (all_map (λ r l e w. absurd (⊎_elim (λ b. omega arith) (λ b. omega (arith, b.1)) l)) f.keys))) p.ascending;
        sound = entered inside one free (record { cand = cand-up gs g o.cand; unled = λ l. ⊎_elim (λ x. any-all (λ q d y. y.1 (less-sum q.cost _ g d.least)) x s) (λ x. o.unled (record { row = x })) (any-split gs l.row) }) p.sound;
        started = λ w. there (p.started w);
      }

  part : {gs : List Row} → All (Own k rs v t) gs → Sorted gs → Part k (gs ++ rs) t v
  part none s = let w = filling-of k rs t v f in record { bounded = w.bounded; keys = w.keys; ascending = w.ascending; sound = w.sound; started = w.started }
  part (more {x = r} {l = gs} p a) s =
      subst (λ (q : Row). Part k (q ∷ gs ++ rs) t v) (row-path (sym p.place) (sym p.step) refl) (add_row gs r.cost (part a (sorted_tail s)) a (sorted_head s) p.fresh)

  held-lead : {gs : List Row} (h : List ℕ) → All (Own k rs v t) gs → Beaten gs h ⊎ Led rs v t (since k v t) (k.wait v) h → Lead k (gs ++ rs) v t h
  held-lead {gs} h a (inl b) = record { row = any_left rs (own-leads a b) }
    where
      own-leads : {gs : List Row} → All (Own k rs v t) gs → Beaten gs h → Any (RowLeads v t (since k v t) (k.wait v) h) gs
      own-leads none b = absurd (any-nil b)
      own-leads (more {x = r} {l = gs} p a) b =
          ⊎_elim
          (λ l. let z = self-leads v t (since k v t) (k.wait v) r.cost free in
          here (record { place = p.place; late = omega (arith, p.step); early = omega (arith, p.step); least = at-most-trans _ r.cost h (subst (λ (n : ℕ). AtMost (add r.cost (times (t - n) (k.wait v))) r.cost) (sym p.step) z.least) l }))
          (λ c. there (own-leads a c))
          (any-cons b)
  held-lead {gs} h a (inr b) = record { row = any-right gs b }

  pub filled-group : {gs : List Row} → All (Own k rs v t) gs → Sorted gs → ((h : List ℕ) → Cand k rs v t h → Beaten gs h ⊎ Led rs v t (since k v t) (k.wait v) h) → Filled k (gs ++ rs) t (v + 1)
  filled-group {gs} a s held =
      let p = part a s in
      record {
        bounded = p.bounded;
        keys = p.keys;
        ascending = p.ascending;
        sound = p.sound;
        started = p.started;
        complete = λ y u g l o i w c. ⊎_elim (λ b. old y u g (inl b) o i w c) (λ b. ⊎_elim (λ lt. old y u g (inr (b.0, lt)) o i w c) (λ ge. new y u g b.0 (omega (arith, b.1)) c) (lt-or-le u v)) l;
      }
    where
      early : (y u : ℕ) → Less y u t v → y ≤ t
      early y u l = ⊎_elim (λ b. omega arith) (λ b. omega (arith, b.0)) l

      old : (y u : ℕ) (g : List ℕ) → Less y u t v → 1 ≤ y → u < k.places → Vacant k u y → Cand k (gs ++ rs) u y g → Lead k (gs ++ rs) u y g
      old y u g l o i w c = record { row = any-right gs (f.complete y u g l o i w (cand-back u y g (early y u l) a c)).row }

      new : (y u : ℕ) (g : List ℕ) → y ≡ t → u ≡ v → Cand k (gs ++ rs) u y g → Lead k (gs ++ rs) u y g
      new y u g d e c =
          subst (λ (j : ℕ). Lead k (gs ++ rs) u j g) (sym d) (subst (λ (j : ℕ). Lead k (gs ++ rs) j t g) (sym e)
          (held-lead g a (held g (cand-back v t g (omega arith) a (subst (λ (j : ℕ). Cand k (gs ++ rs) v j g) d (subst (λ (j : ℕ). Cand k (gs ++ rs) j y g) e c))))))

tail_all : {P : Row → Type 0} (xs : List ℕ) (a d i : ℕ) → i < d → All P (tail_of xs a d) → P (row_at xs (a + i))
unfolding tail_of
tail_all xs a zero i l x = absurd (omega arith)
tail_all {P} xs a (suc d) i l x = ⊎_elim (λ lt. tail_all xs a d i lt (all_tail x)) (λ ge. let e : d ≡ i = omega arith in subst (λ (k : ℕ). P (row_at xs (a + k))) e (all_head x)) (lt-or-le i d)

-- every cost of entering where a cart stands has been offered
pub swept-filled : (k : Case) (xs ys : List ℕ) (rows d : ℕ) (h : Here) → Legal k → Stands k h → Filled k (rows_of xs rows) h.step.0 h.place.0
    → SweptAt (λ g. Any (Enters k (rows_of xs rows) h.place.0 h.step.0 g) k.links) h rows xs ys 0 true d → Visited k xs ys rows h.place.0 h.step.0 (record { ok = true; rows = rows + d })
swept-filled k xs ys rows d h legal st f s =
    let rs = rows_of xs rows in
    let v = h.place.0 in
    let t = h.step.0 in
    let o = subst (λ (w : Cost). Offers (λ g. Any (Enters k rs v t g) k.links) (Led rs v t (since k v t) w) v t [] (tail_of ys rows d)) st.wait
    (subst (λ (y : ℕ). Offers (λ g. Any (Enters k rs v t g) k.links) (Led rs v t y h.wait) v t [] (tail_of ys rows d)) st.since
    (subst (λ (gs : List Row). Offers (λ g. Any (Enters k rs v t g) k.links) (LedAt rs h) v t gs (tail_of ys rows d)) (tail-zero xs rows) (s.done refl))) in
    let g = gathered k rs v t (λ x e. record { over = e }) o in
    let e : rows_of ys (rows + d) ≡ tail_of ys rows d ++ rs = rows-tail ys rows d ∙ ap (λ (qs : List Row). tail_of ys rows d ++ qs) (rows-kept xs ys rows s.below) in
    record {
      result = result-done k ys t (v + 1) (rows + d) s.room
          (filled-as e (filled-group k rs t v legal st.first st.inside st.vacant f g.0 g.1 (λ x c. ⊎_elim (λ b. inl b) (λ l. inr (led-lead h st l).row) (s.all refl x c.over))));
      grown = record { more = omega arith; below = s.below; own = λ i l m. let q : rows + (i - rows) ≡ i = omega arith in let w = tail_all ys rows d (i - rows) (omega arith) g.0 in subst (λ (j : ℕ). ((row_at ys j).place ≡ v) × ((row_at ys j).step ≡ t)) q (w.place, w.step) };
    }

-- a place that is not looked at adds nothing: the rule covers every corridor into it
pub unwatched-filled : (free net xs : List ℕ) (rows v t set : ℕ) → Visiting free net xs rows v t → Lookout free net xs rows t set → (Has set v → ⊥) → since_in free v t < t → Filled (case_of free net) (rows_of xs rows) t (v + 1)
unwatched-filled free net xs rows v t set a look out began =
    filled-place k rs t v (filling-of k rs t v a.filled) (λ g o. o.unled (steady-none k a.given.legal rs v t g a.filled.complete a.last began (look.steady v (omega (arith, a.inside, a.given.places)) out) old o.cand.over))
  where
    k : Case
    k = case_of free net

    rs : List Row
    rs = rows_of xs rows

    old : (l : Link) → In l (links_of net (count_of net)) → l.to ≡ v → (r : Row) → In r (rows_of xs rows) → r.place ≡ l.from → r.step < t → r.step + 1 < t
    old l m into r i p early =
        let q = links-find net (count_of net) m in
        let from : r.place ≡ link_of net 0 q.at = p ∙ sym (ap (λ (x : Link). x.from) q.fits) in
        let to : link_of net 1 q.at ≡ v = ap (λ (x : Link). x.to) q.fits ∙ into in
        let w = rows-find xs rows i in
        ⊎_elim
        (λ lt. lt)
        (λ ge.
        let e : r.step + 1 ≡ t = omega arith in
        absurd (out (subst (Has set) to (look.onward q.at w.at q.upto (omega (arith, w.upto)) (ap (λ (x : Row). x.place) w.fits ∙ from) (ap (λ (x : Row). x.step + 1) w.fits ∙ e)))))
        (lt-or-le (r.step + 1) t)

pub grown-base : (xs ys zs : List ℕ) (n m v t : ℕ) → ((j : ℕ) → j < n * 5 → get_or ys j 0 ≡ get_or xs j 0) → Grown ys zs n m v t → Grown xs zs n m v t
grown-base xs ys zs n m v t same g = record { more = g.more; below = λ j l. g.below j l ∙ same j l; own = g.own }

pub fresh-of : (k : Case) (xs : List ℕ) (n t v : ℕ) → Filled k (rows_of xs n) t v → (i : ℕ) → i < n → (row_at xs i).place ≡ v → (row_at xs i).step < t
fresh-of k xs n t v f i l p = ⊎_elim (λ a. a) (λ a. absurd (omega (arith, a.1))) (all-at (λ r. Less r.step r.place t v) xs n i l f.keys)

-- the index after a place is visited
pub noted_more : (k : Case) (xs ys : List ℕ) (n m : ℕ) (ix iy : List ℕ) (t v : ℕ) → v < 64 → Filled k (rows_of xs n) t v → Indexed xs n ix t → Grown xs ys n m v t → NotedAs ix iy n m t v → Indexed ys m iy t
noted_more k xs ys n m ix iy t v inside f w g d = indexed-more xs ys n m ix iy t v d.last w g inside (fresh-of k xs n t v f) d.noted d.most d.past

-- and what covers the rows of each place then
pub noted-covers : (k : Case) (xs ys : List ℕ) (n m : ℕ) (ix iy : List ℕ) (t v : ℕ) → v < 64 → Filled k (rows_of xs n) t v → Indexed xs n ix t → Grown xs ys n m v t → NotedAs ix iy n m t v
    → {u : ℕ} {c : Cost} → Covers xs n ix t u c → Covers ys m iy t u c
noted-covers k xs ys n m ix iy t v inside f w g d = covers_more xs ys n m ix iy t v d.last w g inside (fresh-of k xs n t v f) d.noted d.most d.past

pub noted-none : (xs ys : List ℕ) (n m : ℕ) (ix : List ℕ) (t v : ℕ) → m ≤ n → Indexed xs n ix t → Grown xs ys n m v t → Indexed ys m ix t
noted-none xs ys n m ix t v l w g = let e : n ≡ m = omega (arith, g.more) in subst (λ (j : ℕ). Indexed ys j ix t) e (indexed-kept g.below w)

pub noted-first : (xs ys : List ℕ) (ix iy : List ℕ) (v : ℕ) (g : List ℕ) → v < 64 → Indexed xs 0 ix 0 → Put xs ys 0 (record { place = v; step = 0; cost = g }) → NotedAs ix iy 0 1 0 v → Indexed ys 1 iy 0
noted-first xs ys ix iy v g inside w p d = indexed-more xs ys 0 1 ix iy 0 v d.last w (grown-more xs xs ys 0 0 v 0 g (grown-none xs 0 v 0) p) inside (λ i l q. absurd (omega arith)) d.noted d.most d.past

pub covers-none : (xs ys : List ℕ) (n m : ℕ) (ix : List ℕ) (t v : ℕ) → m ≤ n → Grown xs ys n m v t → {u : ℕ} {c : Cost} → Covers xs n ix t u c → Covers ys m ix t u c
covers-none xs ys n m ix t v l g {u} {c} w = let e : n ≡ m = omega (arith, g.more) in subst (λ (j : ℕ). Covers ys j ix t u c) e (covers_kept g.below w)

pub covers-first : (xs ys : List ℕ) (ix iy : List ℕ) (v : ℕ) (g : List ℕ) → v < 64 → Indexed xs 0 ix 0 → Put xs ys 0 (record { place = v; step = 0; cost = g }) → NotedAs ix iy 0 1 0 v
    → {u : ℕ} {c : Cost} → Covers ys 1 iy 0 u c
covers-first xs ys ix iy v g inside w p d =
    covers_more xs ys 0 1 ix iy 0 v d.last w (grown-more xs xs ys 0 0 v 0 g (grown-none xs 0 v 0) p) inside (λ i l q. absurd (omega arith)) d.noted d.most d.past
    (record { of = λ i l q. absurd (omega arith) })
