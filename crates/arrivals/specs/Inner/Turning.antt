-- What a cost of a list comes to over a corridor.
use Rattle.std.specs.Prelude.{◌≡◌, refl, Bool, true, false, List, ◌⊎◌, ℕ, ◌+◌, ◌*◌, ◌-◌, ◌≤◌, ◌<◌, length, get_or}
use Rattle.std.proofs.Common.{sym, ap, ap₂, ◌∙◌, subst, inl, inr, ⊎_elim, arith}
use Rattle.sheet.specs.Lists.{numbers_from}
use Rattle.sheet.specs.Laws.Decided.{lt-or-le, any-map}
use Rattle.costs.specs.Costs.{Cost, figures, fig, add, times, AtMost}
use Rattle.costs.specs.Priced.{Within}
use Rattle.costs.specs.Laws.Figures.{fig-add, fig-times, length-add, length-times, same-figures, cancel_right, within-add, within-times, at-most-trans}
use Rattle.arrivals.specs.Rows.{Row, row_at}
use Rattle.arrivals.specs.Laws.Rows.{row_kept}
use Rattle.arrivals.specs.Inner.Facts.{within_of}
use Rattle.arrivals.specs.Inner.Rows.{rows_of, rows-kept, rows-find, any_at, all-at, Bounded, tail-zero}
use Rattle.arrivals.specs.Inner.Network.{Lawful, openb, case_of, since_in, wait_in, link_of, link_at, count_of, places_of}
use Rattle.arrivals.specs.Inner.Lent.{link-lawful}
use Rattle.arrivals.specs.Inner.Entering.{reach, Joins, Entry, LedAt, Ready}
use Rattle.arrivals.specs.Inner.Filling.{Reaching}
use Rattle.arrivals.specs.Inner.Pruning.{FreshIs, led-over, parted}
use Rattle.arrivals.specs.Inner.Offering.{Sorted, sorted_none, offers-sorted, offers-none, offers-then, Swept, swept-then, swept_as}
use Rattle.arrivals.specs.Inner.Sweeps.{SweptAt, ready-kept}
use Rattle.arrivals.specs.Inner.Lists.{past_of, size_of, fresh_of, list_at, cost_in, entry, stood, stood_row, Shows, Placeable, Turnable, Brought}
use Rattle.arrivals.specs.Inner.Lists.{Stems, Under, Listing, Sources}
use Rattle.arrivals.specs.Inner.Standing.{list-self, listing-kept}
use Rattle.arrivals.specs.declared.network.Here.{Here}
use Rattle.arrivals.specs.declared.lists.Part.{Part}
use Rattle.arrivals.specs.declared.lists.Turn.{Turn}

-- what is asked stays, as long as the rows below a are the same

pub shows_kept : {live xs ys : List ℕ} {p : Part} {a : ℕ} {h : Here} → ((j : ℕ) → j < a * 5 → get_or ys j 0 ≡ get_or xs j 0) → Shows live p xs a h
    → Shows live p ys a h
shows_kept {live} {xs} {ys} {p} {a} {h} same s =
    let e = rows-kept xs ys a same in
    record {
      inside = s.inside;
      led = λ g l. subst (λ (rs : List Row). LedAt rs h g) (sym e) (s.led g l);
      shown = λ g l. s.shown g (subst (λ (rs : List Row). LedAt rs h g) e l);
    }

pub placeable-none : {xs : List ℕ} {a : ℕ} {h : Here} → Ready xs a h → Placeable xs a 0 h
placeable-none {xs} {a} r = record { room = omega (arith, r.room); ready = r; sorted = subst Sorted (sym (tail-zero xs a)) sorted_none }

pub placeable-kept : {S : Cost → Type 0} {xs ys : List ℕ} {a d e : ℕ} {h : Here} → length ys ≡ length xs → SweptAt S h a xs ys d true e → Placeable xs a d h
    → Placeable ys a e h
placeable-kept size w s = record { room = w.room; ready = ready-kept size w.below s.ready; sorted = offers-sorted (w.done refl) s.sorted }

pub sources-kept : {free net xs ys : List ℕ} {n : ℕ} {live : List ℕ} {t : ℕ} → ((j : ℕ) → j < n * 5 → get_or ys j 0 ≡ get_or xs j 0) → Sources free net xs n live t
    → Sources free net ys n live t
sources-kept {free} {net} {xs} {ys} {n} {live} {t} same s =
    let o = s.sourcing in
    let row : (k : ℕ) → k < n → row_at ys k ≡ row_at xs k = λ k l. row_kept xs ys k (λ j b p. same j (omega arith)) in
    record {
      rows = s.rows;
      sourcing = record {
        size = o.size;
        upto = o.upto;
        later = λ k l m. subst (λ (r : Row). r.step ≡ t) (sym (row k m)) (o.later k l m);
        lists = λ v l. listing-kept (λ k b. row k (omega (arith, o.upto))) (list-self live v) (o.lists v l);
      };
    }

-- what is left of a cost is nowhere above it
pub within-left : (m : ℕ) (l c w : Cost) → add l c ≡ w → Within m w → Within m l
within-left m l c w e b = record { every = λ i. omega (arith, fig-add l c i, ap (λ (x : Cost). fig x i) e, b.every i) }

-- what the costs of a part come to, one after another
module _ (h : Here) (a : ℕ) (live : List ℕ) (o : Turn) where
  pub brought-none : (at : ℕ) (xs : List ℕ) (g : Cost) → Brought live (record { at = at; n = 0 }) o g → LedAt (rows_of xs a) h g
  brought-none at xs g b = absurd (omega (arith, b.upto))

  pub brought-more : (xs ys zs : List ℕ) (at i : ℕ) (l g : Cost) (d e : ℕ) (ok : Bool) (f : ℕ) → length l ≡ figures
      → add l o.over ≡ cost_in live at i → g ≡ add l o.cost → SweptAt (Brought live (record { at = at; n = i }) o) h a xs ys d true e
      → SweptAt (λ x. x ≡ g) h a ys zs e ok f → SweptAt (Brought live (record { at = at; n = i + 1 }) o) h a xs zs d ok f
  brought-more xs ys zs at i l g d e ok f three whole q x y =
      swept-then
      (λ c b. record { at = b.at; upto = omega (arith, b.upto); left = b.left; three = b.three; whole = b.whole; sum = b.sum })
      (λ c s. record { at = i; upto = omega arith; left = l; three = three; whole = whole; sum = s ∙ q })
      (λ c b.
      ⊎_elim
      (λ lt. inl (record { at = b.at; upto = lt; left = b.left; three = b.three; whole = b.whole; sum = b.sum }))
      (λ ge.
      let k : b.at ≡ i = omega (arith, b.upto) in
      let s : b.left ≡ l = cancel_right b.left l o.over (b.three ∙ sym three) (b.whole ∙ ap (cost_in live at) k ∙ sym whole) in
      inr (b.sum ∙ ap (λ (r : Cost). add r o.cost) s ∙ sym q))
      (lt-or-le b.at i))
      x
      (subst (λ (rs : List Row). Swept (λ r. r ≡ g) (LedAt rs h) h.place.0 h.step.0 a ys zs e ok f) (rows-kept xs ys a x.below) y)

  pub brought-end : (xs ys : List ℕ) (p : Part) (i d e : ℕ) → i ≤ p.n → p.n ≤ i → SweptAt (Brought live (record { at = p.at; n = i }) o) h a xs ys d true e
      → SweptAt (Brought live p o) h a xs ys d true e
  brought-end xs ys p i d e l m x =
      swept_as
      (λ c b. record { at = b.at; upto = omega (arith, b.upto); left = b.left; three = b.three; whole = b.whole; sum = b.sum })
      (λ c b. inl (record { at = b.at; upto = omega (arith, b.upto); left = b.left; three = b.three; whole = b.whole; sum = b.sum }))
      x

-- a cost of S is nowhere above h
pub record Below (S : Cost → Type 0) (h : Cost) : Type 0 where
  pub cost : Cost
  pub held : S cost
  pub least : AtMost cost h

-- every cost of R is nowhere below one of S, or H says that it is led
pub swept-over : {S R H : List ℕ → Type 0} {v t a : ℕ} {xs ys : List ℕ} {d e : ℕ} {ok : Bool} → ((h : List ℕ) → S h → R h)
    → ((h : List ℕ) → R h → Below S h ⊎ H h) → ((g h : List ℕ) → AtMost g h → H g → H h) → Swept S H v t a xs ys d ok e → Swept R H v t a xs ys d ok e
swept-over f g up x =
    record {
      below = x.below;
      room = x.room;
      done = λ e. offers-then f f (x.done e) offers-none;
      all = λ e h r.
          ⊎_elim
          (λ q.
          ⊎_elim
          (λ b. inl (any-map (λ p l. at-most-trans p.cost q.cost h l q.least) b))
          (λ l. inr (up q.cost h q.least l))
          (x.all e q.cost q.held))
          (λ l. inr l)
          (g h r);
    }

-- waiting from step s to step 255, parted at step t - 1
module _ (w : Cost) (t : ℕ) (last : t ≤ 255) where
  stood-fig : (s : ℕ) (c : Cost) (i : ℕ) → s < t → fig (stood s w c) i ≡ fig c i + fig (times (t - 1 - s) w) i + fig (times (256 - t) w) i
  stood-fig s c i l =
      omega (arith, fig-add c (times (255 - s) w) i, fig-times (255 - s) w i, fig-times (256 - t) w i, fig-times (t - 1 - s) w i, parted (255 - s) (256 - t) (t - 1 - s) (fig w i) (omega arith))

  pub stood-turn : (s : ℕ) (c : Cost) → s < t → length c ≡ figures → length w ≡ figures → add (add c (times (t - 1 - s) w)) (times (256 - t) w) ≡ stood s w c
  stood-turn s c l p q =
      same-figures (add (add c (times (t - 1 - s) w)) (times (256 - t) w)) (stood s w c)
      (length-add (add c (times (t - 1 - s) w)) (times (256 - t) w) figures
      (length-add c (times (t - 1 - s) w) figures p (length-times (t - 1 - s) w ∙ q))
      (length-times (256 - t) w ∙ q)
      ∙ sym (length-add c (times (255 - s) w) figures p (length-times (255 - s) w ∙ q)))
      (λ i. omega (arith, stood-fig s c i l, fig-add (add c (times (t - 1 - s) w)) (times (256 - t) w) i, fig-add c (times (t - 1 - s) w) i))

  pub stood-most : (s : ℕ) (c : Cost) → s < t → AtMost (times (256 - t) w) (stood s w c)
  stood-most s c l = record { every = λ i. omega (arith, stood-fig s c i l) }

  pub turned-least : (s r : ℕ) (c d k : Cost) → s < t → r < t → AtMost (stood s w c) (stood r w d)
      → AtMost (add (add c (times (t - 1 - s) w)) k) (add (add d (times (t - 1 - r) w)) k)
  turned-least s r c d k l m a =
      record {
        every = λ i. omega (
          arith,
          a.every i,
          stood-fig s c i l,
          stood-fig r d i m,
          fig-add (add c (times (t - 1 - s) w)) k i,
          fig-add c (times (t - 1 - s) w) i,
          fig-add (add d (times (t - 1 - r) w)) k i,
          fig-add d (times (t - 1 - r) w) i,
        );
      }

  pub stood-within : (s : ℕ) (c : Cost) → s < t → Within (60000 * s) c → Within 60000 w → Within 100000000 (stood s w c)
  stood-within s c l b x =
      within_of (60000 * s + (255 - s) * 60000) 100000000 refl (omega arith)
      (within-add (60000 * s) ((255 - s) * 60000) c (times (255 - s) w) b (within-times (255 - s) 60000 w x))

-- part p holds the costs of place u from `from` on: all, or those of the newest rows where the rule spares all others
pub record Taken (live : List ℕ) (u f t : ℕ) (p : Part) : Type 0 where
  pub from : ℕ
  pub at : p.at ≡ list_at u + from * 3
  pub n : p.n ≡ size_of live u - from
  pub upto : from ≤ size_of live u
  pub way : (from ≡ 0) ⊎ ((from ≡ fresh_of live u) × (f + 1 ≡ t))

pub taken_of : (live : List ℕ) (u f t : ℕ) (p : Part) (b : Bool)
    → (b ≡ true → (p.at ≡ list_at u + fresh_of live u * 3) × (p.n ≡ size_of live u - fresh_of live u))
    × (b ≡ false → (p.at ≡ list_at u) × (p.n ≡ size_of live u))
    → (b ≡ true → f + 1 ≡ t) → fresh_of live u ≤ size_of live u → Taken live u f t p
taken_of live u f t p true r e l =
    let q = r.0 refl in
    record { from = fresh_of live u; at = q.0; n = q.1; upto = l; way = inr (refl, e refl) }
taken_of live u f t p false r e l =
    let q = r.1 refl in
    record { from = 0; at = omega (arith, q.0); n = omega (arith, q.1); upto = omega arith; way = inl refl }

-- o turns a cost of where corridor j comes from into one of entering at h
pub record Turning (net : List ℕ) (j : ℕ) (h : Here) (o : Turn) : Type 0 where
  pub over : o.over ≡ times (256 - h.step.0) (wait_in net (link_of net 0 j))
  pub cost : o.cost ≡ (link_at net j).cost
  pub rest : o.rest ≡ times (255 - h.step.0) h.wait

module _ (free net xs : List ℕ) (a : ℕ) (h : Here) (at : Reaching free net xs a h) (live : List ℕ) (so : Sources free net xs a live h.step.0) (j : ℕ)
    (inside : j < count_of net) where
  pub source-list : Listing free net xs so.rows live h.step.0 (link_of net 0 j)
  source-list = so.sourcing.lists (link_of net 0 j) (link-lawful at.given j inside).from

  -- a row that can still cross is one of those that the lists are for
  earlier : (i : ℕ) → i < a → (row_at xs i).step < h.step.0 → i < so.rows
  earlier i l e = ⊎_elim (λ lt. lt) (λ ge. absurd (omega (arith, so.sourcing.later i ge l))) (lt-or-le i so.rows)

  -- all rows of the source are of an earlier safe interval
  pub entry-none : (g : Cost) → past_of live (link_of net 0 j) ≤ since_in free (link_of net 0 j) (h.step.0 - 1)
      → Entry h a (case_of free net) xs g (link_at net j) → LedAt (rows_of xs a) h g
  entry-none g l e =
      let q = rows-find xs a e.by in
      let b = q.fits in
      absurd (omega (arith, b.late, source-list.newest q.at (earlier q.at (omega (arith, q.upto)) b.early) b.place))

  module _ (into : link_of net 1 j ≡ h.place.0) (f : ℕ) (is : FreshIs net j h f) where
    entry-led : (g : Cost) (i : ℕ) → i < a → Joins (case_of free net) (link_at net j) h.step.0 g (row_at xs i) → (row_at xs i).step < f
        → LedAt (rows_of xs a) h g
    entry-led g i l b m =
        led-over free net xs a h at j inside into f is g (row_at xs i) (any_at (λ r. r ≡ row_at xs i) xs a i l refl) b m

    -- all rows of the source are before step f
    pub entry_old : (g : Cost) → past_of live (link_of net 0 j) ≤ f → Entry h a (case_of free net) xs g (link_at net j) → LedAt (rows_of xs a) h g
    entry_old g l e =
        let q = rows-find xs a e.by in
        let b = q.fits in
        let i : q.at < a = omega (arith, q.upto) in
        entry-led g q.at i b (omega (arith, source-list.newest q.at (earlier q.at i b.early) b.place))

    -- the costs of the part are those of entering, but for what is led or is nowhere below another
    module _ (counts : since_in free (link_of net 0 j) (h.step.0 - 1) < past_of live (link_of net 0 j)) (p : Part)
        (tk : Taken live (link_of net 0 j) f h.step.0 p) (o : Turn) (tu : Turning net j h o) where
      abbrev t : ℕ
      t = h.step.0

      abbrev u : ℕ
      u = link_of net 0 j

      abbrev w : Cost
      w = wait_in net (link_of net 0 j)

      law : Lawful (places_of net) (link_at net j)
      law = link-lawful at.given j inside

      waits : Within 60000 (wait_in net (link_of net 0 j))
      waits = at.given.legal.waits (link_of net 0 j) law.from

      three : length (wait_in net (link_of net 0 j)) ≡ figures
      three = at.given.legal.three (link_of net 0 j) law.from

      stem : (i : ℕ) → i < p.n
          → Stems net xs so.rows (link_of net 0 j) (since_in free (link_of net 0 j) (h.step.0 - 1)) (entry live (link_of net 0 j) (tk.from + i))
      stem i l = source-list.stems counts (tk.from + i) (omega (arith, tk.n, tk.upto))

      spot : (i : ℕ) → cost_in live p.at i ≡ entry live (link_of net 0 j) (tk.from + i)
      spot i =
          let e : p.at + i * 3 ≡ list_at (link_of net 0 j) + (tk.from + i) * 3 = omega (arith, tk.at) in
          ap (λ (n : ℕ). numbers_from figures n live) e

      row-early : (i : ℕ) → i < so.rows → (row_at xs i).place ≡ link_of net 0 j → (row_at xs i).step < h.step.0
      row-early i l e = omega (arith, source-list.newest i l e, source-list.soon)

      bounded : (i : ℕ) → i < so.rows → Bounded (row_at xs i)
      bounded i l = all-at Bounded xs a i (omega (arith, so.sourcing.upto)) at.ready.bounded

      pub part-turnable : Turnable live p o
      part-turnable =
          record {
            inside = omega (arith, tk.at, tk.n, tk.upto, source-list.few, so.sourcing.size, law.from);
            small = λ i l.
                let s = stem i l in
                let r = row_at xs s.at in
                subst (Within 100000000) (sym (spot i ∙ s.sum))
                (stood-within w t at.stands.last r.step r.cost (row-early s.at s.inside s.place)
                (bounded s.at s.inside).within waits);
            most = λ i l.
                let s = stem i l in
                let r = row_at xs s.at in
                subst (AtMost o.over) (sym (spot i ∙ s.sum))
                (subst (λ (x : Cost). AtMost x (stood r.step w r.cost)) (sym tu.over)
                (stood-most w t at.stands.last r.step r.cost (row-early s.at s.inside s.place)));
            cost = subst (Within 60000) (sym tu.cost) law.costs;
            rest = within_of ((255 - t) * 60000) 100000000 tu.rest (omega arith) (within-times (255 - t) 60000 h.wait at.ready.waits);
          }

      -- cost i of the part, and the row that it stems from
      turned : (i : ℕ) (l : i < p.n)
          → add (add (row_at xs (stem i l).at).cost (times (t - 1 - (row_at xs (stem i l).at).step) w)) o.over ≡ cost_in live p.at i
      turned i l =
          let s = stem i l in
          let r = row_at xs s.at in
          ap (add (add r.cost (times (t - 1 - r.step) w))) tu.over
          ∙ stood-turn w t at.stands.last r.step r.cost (row-early s.at s.inside s.place) (bounded s.at s.inside).three three
          ∙ sym (spot i ∙ s.sum)

      turned-three : (i : ℕ) (l : i < p.n) → length (add (row_at xs (stem i l).at).cost (times (t - 1 - (row_at xs (stem i l).at).step) w)) ≡ figures
      turned-three i l =
          let s = stem i l in
          let r = row_at xs s.at in
          length-add r.cost (times (t - 1 - r.step) w) figures (bounded s.at s.inside).three (length-times (t - 1 - r.step) w ∙ three)

      pub brought-enters : openb (link_at net j) (h.step.0 - 1) ≡ true → (g : Cost) → Brought live p o g → Entry h a (case_of free net) xs g (link_at net j)
      brought-enters opens g b =
          let s = stem b.at b.upto in
          let r = row_at xs s.at in
          let e : b.left ≡ add r.cost (times (t - 1 - r.step) w) =
          cancel_right b.left (add r.cost (times (t - 1 - r.step) w)) o.over
          (b.three ∙ sym (turned-three b.at b.upto)) (b.whole ∙ sym (turned b.at b.upto)) in
          record {
            into = into;
            opens = opens;
            by = any_at (Joins (case_of free net) (link_at net j) t g) xs a s.at (omega (arith, s.inside, so.sourcing.upto))
                (record { place = s.place; late = s.late; early = row-early s.at s.inside s.place; sum = b.sum ∙ ap₂ add e tu.cost });
          }

      -- the cost of the part that stands for row i
      under : (i : ℕ) → i < so.rows → (row_at xs i).place ≡ link_of net 0 j → since_in free (link_of net 0 j) (h.step.0 - 1) ≤ (row_at xs i).step
          → f ≤ (row_at xs i).step → Under live (link_of net 0 j) tk.from (size_of live (link_of net 0 j)) (stood_row w (row_at xs i))
      under i l e late new =
          ⊎_elim
          (λ z. subst (λ (n : ℕ). Under live u n (size_of live u) (stood_row w (row_at xs i))) (sym z) (source-list.whole counts i l e late))
          (λ z. subst (λ (n : ℕ). Under live u n (size_of live u) (stood_row w (row_at xs i))) (sym z.0)
          (source-list.new counts i l e (omega (arith, z.1, source-list.newest i l e, source-list.soon))))
          tk.way

      pub enters-brought : (g : Cost) → Entry h a (case_of free net) xs g (link_at net j) → Below (Brought live p o) g ⊎ LedAt (rows_of xs a) h g
      enters-brought g e =
          let q = rows-find xs a e.by in
          let b = q.fits in
          let i : q.at < a = omega (arith, q.upto) in
          ⊎_elim
          (λ lt. inr (entry-led g q.at i b lt))
          (λ ge.
          let k = earlier q.at i b.early in
          let n = under q.at k b.place b.late ge in
          let l : n.at - tk.from < p.n = omega (arith, n.from, n.upto, tk.n) in
          let s = stem (n.at - tk.from) l in
          let r = row_at xs s.at in
          let x : tk.from + (n.at - tk.from) ≡ n.at = omega (arith, n.from) in
          inl (record {
            cost = reach t w (link_at net j).cost r;
            held = record {
              at = n.at - tk.from;
              upto = l;
              left = add r.cost (times (t - 1 - r.step) w);
              three = turned-three (n.at - tk.from) l;
              whole = turned (n.at - tk.from) l;
              sum = ap (add (add r.cost (times (t - 1 - r.step) w))) (sym tu.cost);
            };
            least = subst (AtMost (reach t w (link_at net j).cost r)) (sym b.sum)
                (turned-least w t at.stands.last r.step (row_at xs q.at).step r.cost (row_at xs q.at).cost (link_at net j).cost
                (row-early s.at s.inside s.place) b.early
                (subst (λ (c : Cost). AtMost c (stood_row w (row_at xs q.at))) (ap (entry live u) (sym x) ∙ s.sum) n.least));
          }))
          (lt-or-le (row_at xs q.at).step f)
