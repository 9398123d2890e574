-- Sweeps over the rows of a group, of a place and of the corridors into a place: each cost that they arrive with at h is offered.
use Rattle.std.specs.Prelude.{◌≡◌, refl, List, Bool, true, ◌⊎◌, ℕ, ◌+◌, ◌*◌, ◌-◌, ◌≤◌, ◌<◌, length, get_or, Result, Ok, Err, IsErr}
use Rattle.std.proofs.Common.{sym, ap, ◌∙◌, subst, inl, inr, ⊎_elim, arith}
use Rattle.sheet.specs.Laws.Decided.{false-not-true, lt-or-le, Any, All}
use Rattle.costs.specs.Costs.{Cost, add, times, AtMost}
use Rattle.costs.specs.Laws.Figures.{fig-add}
use Rattle.arrivals.specs.Rows.{Row, row_at}
use Rattle.arrivals.specs.Laws.Rows.{row_kept}
use Rattle.arrivals.specs.Inner.Rows.{rows_of, rows-kept, rows-find, any_at, Bounded, tail_of, tail-zero}
use Rattle.arrivals.specs.Inner.Network.{Case, case_of, Link, link_of, link_at, links_of, links-find, links-any, count_of}
use Rattle.arrivals.specs.Inner.Chains.{by_place, NextOne}
use Rattle.arrivals.specs.Inner.Entering.{reach, Enters, Entry, LedAt, led-up, Ready, Complete}
use Rattle.arrivals.specs.Inner.Filling.{Reaching}
use Rattle.arrivals.specs.Inner.Pruning.{Tried}
use Rattle.arrivals.specs.Inner.Offering.{Sorted, sorted_none, offers-sorted, Swept, swept-full, swept-then, swept_as, swept-under}
use Rattle.arrivals.specs.Inner.Index.{Listed, Indexed, Cover, Covers, Older, low_of, high_of, newest_of, indexed-kept, covers_kept, older-most, older-past, row_low, low-row, row-newest, lag-sum}
use Rattle.arrivals.specs.declared.network.Here.{Here}
use Rattle.arrivals.specs.declared.network.Source.{Source}
use Rattle.arrivals.specs.declared.index.Span.{Span}
use Rattle.arrivals.specs.Inner.Outcomes.{Outcome, offered}
use Rattle.arrivals.specs.declared.offers.Full.{Full}

-- costs of S are offered to the rows at h, where older rows stand below row a
abbrev pub SweptAt : (Cost → Type 0) → Here → ℕ → List ℕ → List ℕ → ℕ → Bool → ℕ → Type 0
SweptAt S h a xs ys d ok e = Swept S (LedAt (rows_of xs a) h) h.place.0 h.step.0 a xs ys d ok e

-- what is asked where the rows at h are to stand from row a on
pub record Startable (xs : List ℕ) (a : ℕ) (ix : List ℕ) (h : Here) : Type 0 where
  pub room : a * 5 ≤ length xs
  pub ready : Ready xs a h
  pub indexed : Indexed xs a ix h.step.0
  pub covers : Covers xs a ix h.step.0 h.place.0 h.wait

-- what is asked where costs are offered to the d rows at h from row a on, which stand in order
pub record Sweepable (xs : List ℕ) (a d : ℕ) (ix : List ℕ) (h : Here) : Type 0 where
  pub room : (a + d) * 5 ≤ length xs
  pub ready : Ready xs a h
  pub indexed : Indexed xs a ix h.step.0
  pub covers : Covers xs a ix h.step.0 h.place.0 h.wait
  pub sorted : Sorted (tail_of xs a d)

-- the rows of span p stand below row n and before step t
pub record Before (xs : List ℕ) (n : ℕ) (p : Span) (t : ℕ) : Type 0 where
  pub order : p.lo ≤ p.hi
  pub upto : p.hi ≤ n
  pub early : (i : ℕ) → p.lo ≤ i → i < p.hi → (row_at xs i).step < t

-- the rows from lo to hi, each waiting at the source until step t - 1 and then crossing, arrive with cost g
pub record From (xs : List ℕ) (lo hi : ℕ) (o : Source) (t : ℕ) (g : Cost) : Type 0 where
  pub at : ℕ
  pub from : lo ≤ at
  pub upto : at < hi
  pub sum : g ≡ reach t o.wait o.cost (row_at xs at)

-- the rows of the source at step s or later that are listed
pub record Via (xs ix : List ℕ) (n : ℕ) (o : Source) (s t : ℕ) (g : Cost) : Type 0 where
  pub at : ℕ
  pub inside : at < n
  pub listed : Listed ix xs at
  pub late : s ≤ (row_at xs at).step
  pub tried : Tried o t g (row_at xs at)

-- a corridor from j on
pub record Over (P : Link → Type 0) (net : List ℕ) (j m : ℕ) : Type 0 where
  pub at : ℕ
  pub from : j ≤ at
  pub upto : at < m
  pub fits : P (link_at net at)

pub ready-kept : {xs ys : List ℕ} {n : ℕ} {h : Here} → length ys ≡ length xs → ((j : ℕ) → j < n * 5 → get_or ys j 0 ≡ get_or xs j 0) → Ready xs n h → Ready ys n h
ready-kept {xs} {ys} {n} e same r =
    record { room = omega (arith, r.room); inside = r.inside; steps = r.steps; waits = r.waits; bounded = subst (All Bounded) (sym (rows-kept xs ys n same)) r.bounded }

pub sweepable-none : {xs : List ℕ} {a : ℕ} {ix : List ℕ} {h : Here} → Startable xs a ix h → Sweepable xs a 0 ix h
sweepable-none {xs} {a} s = record { room = omega (arith, s.room); ready = s.ready; indexed = s.indexed; covers = s.covers; sorted = subst Sorted (sym (tail-zero xs a)) sorted_none }

pub sweepable-kept : {S : Cost → Type 0} {xs ys : List ℕ} {a d e : ℕ} {ix : List ℕ} {h : Here} → length ys ≡ length xs → SweptAt S h a xs ys d true e → Sweepable xs a d ix h → Sweepable ys a e ix h
sweepable-kept size w s =
    record { room = w.room; ready = ready-kept size w.below s.ready; indexed = indexed-kept w.below s.indexed; covers = covers_kept w.below s.covers; sorted = offers-sorted (w.done refl) s.sorted }

pub reaching-kept : {free net xs ys : List ℕ} {n : ℕ} {h : Here} → length ys ≡ length xs → ((j : ℕ) → j < n * 5 → get_or ys j 0 ≡ get_or xs j 0) → Reaching free net xs n h → Reaching free net ys n h
reaching-kept {free} {net} {xs} {ys} {n} {h} size same a =
    record { given = a.given; ready = ready-kept size same a.ready; stands = a.stands; complete = subst (λ (rs : List Row). Complete (case_of free net) rs h.step.0 h.place.0) (sym (rows-kept xs ys n same)) a.complete }

-- the rows of a group before step t
pub before_of : {xs : List ℕ} {n : ℕ} {ix : List ℕ} {t : ℕ} → Indexed xs n ix t → (v s : ℕ) {p : Span} → s ≤ 255 → v < 64 → s < t → p.lo ≡ low_of ix s v → p.hi ≡ high_of ix s v → Before xs n p t
before_of {xs} {n} {ix} {t} w v s {p} l inside early e f =
    let b = w.order s v l inside in
    record { order = omega (arith, b.0); upto = omega (arith, b.1); early = λ i x y. let o = w.only s v i l inside (omega arith) (omega arith) in omega (arith, o.1) }

-- an offer that is refused
pub swept-refused : {S H : Cost → Type 0} {v t a : ℕ} {xs ys : List ℕ} {d : ℕ} (r : Result ℕ Full) → IsErr r → ((j : ℕ) → j < a * 5 → get_or ys j 0 ≡ get_or xs j 0) → a * 5 ≤ length ys
    → Swept S H v t a xs ys d (offered r).ok (offered r).rows
swept-refused (Err e) i b l = swept-full b (omega arith)
swept-refused (Ok n) i b l = absurd (false-not-true refl i)

-- what each sweep promises
abbrev pub OffersRows : List ℕ → List ℕ → ℕ → ℕ → Span → Source → Here → Outcome → Type 0
OffersRows xs ys a d p o h r = SweptAt (From xs p.lo p.hi o h.step.0) h a xs ys d r.ok r.rows

abbrev pub OffersSource : List ℕ → List ℕ → ℕ → ℕ → Source → Here → Outcome → Type 0
OffersSource xs ys a d o h r = SweptAt (λ g. Any (Tried o h.step.0 g) (rows_of xs a)) h a xs ys d r.ok r.rows

abbrev pub OffersLink : List ℕ → List ℕ → ℕ → List ℕ → List ℕ → ℕ → ℕ → Here → Outcome → Type 0
OffersLink free net j xs ys a d h r = SweptAt (λ g. Entry h a (case_of free net) xs g (link_at net j)) h a xs ys d r.ok r.rows

abbrev pub OffersLinks : List ℕ → List ℕ → List ℕ → List ℕ → ℕ → Here → Outcome → Type 0
OffersLinks free net xs ys a h r = SweptAt (λ g. Any (Entry h a (case_of free net) xs g) (links_of net (count_of net))) h a xs ys 0 r.ok r.rows

module _ (h : Here) (a : ℕ) where
  -- offers to rows whose older rows are the same
  swept-base : {S : Cost → Type 0} (ws xs ys : List ℕ) (d : ℕ) (ok : Bool) (e : ℕ) → ((j : ℕ) → j < a * 5 → get_or xs j 0 ≡ get_or ws j 0) → SweptAt S h a xs ys d ok e → Swept S (LedAt (rows_of ws a) h) h.place.0 h.step.0 a xs ys d ok e
  swept-base {S} ws xs ys d ok e same x = subst (λ (rs : List Row). Swept S (LedAt rs h) h.place.0 h.step.0 a xs ys d ok e) (rows-kept ws xs a same) x

  pub from_more : (o : Source) (xs ys zs : List ℕ) (lo i : ℕ) (g : Cost) (d e : ℕ) (ok : Bool) (f : ℕ) → lo ≤ i → i < a → g ≡ reach h.step.0 o.wait o.cost (row_at ys i)
      → SweptAt (From xs lo i o h.step.0) h a xs ys d true e → SweptAt (λ x. x ≡ g) h a ys zs e ok f → SweptAt (From xs lo (i + 1) o h.step.0) h a xs zs d ok f
  from_more o xs ys zs lo i g d e ok f l m q x y =
      swept-then
      (λ x s. record { at = s.at; from = s.from; upto = omega (arith, s.upto); sum = s.sum })
      (λ x s. record { at = i; from = l; upto = omega arith; sum = s ∙ now })
      (λ x s. ⊎_elim (λ lt. inl (record { at = s.at; from = s.from; upto = lt; sum = s.sum }))
      (λ ge. let e : s.at ≡ i = omega (arith, s.upto) in inr (s.sum ∙ ap (λ (n : ℕ). reach h.step.0 o.wait o.cost (row_at xs n)) e ∙ sym now)) (lt-or-le s.at i))
      x
      (swept-base xs ys zs e ok f x.below y)
    where
      now : g ≡ reach h.step.0 o.wait o.cost (row_at xs i)
      now = q ∙ ap (reach h.step.0 o.wait o.cost) (row_kept xs ys i (λ j b w. x.below j (omega arith)))

  pub from_end : (o : Source) (xs ys : List ℕ) (lo i hi d e : ℕ) → i ≤ hi → hi ≤ i → SweptAt (From xs lo i o h.step.0) h a xs ys d true e → SweptAt (From xs lo hi o h.step.0) h a xs ys d true e
  from_end o xs ys lo i hi d e l m x = let q : i ≡ hi = omega arith in subst (λ (n : ℕ). SweptAt (From xs lo n o h.step.0) h a xs ys d true e) q x

  pub from-as : {o : Source} {xs ys : List ℕ} {lo hi p q d e : ℕ} {ok : Bool} → lo ≡ p → hi ≡ q → SweptAt (From xs lo hi o h.step.0) h a xs ys d ok e → SweptAt (From xs p q o h.step.0) h a xs ys d ok e
  from-as {o} {xs} {ys} {lo} {hi} {p} {q} {d} {e} {ok} x y z =
      subst (λ (n : ℕ). SweptAt (From xs p n o h.step.0) h a xs ys d ok e) y (subst (λ (n : ℕ). SweptAt (From xs n hi o h.step.0) h a xs ys d ok e) x z)

  pub from-none : (o : Source) (xs : List ℕ) (lo : ℕ) (g : Cost) → From xs lo lo o h.step.0 g → LedAt (rows_of xs a) h g
  from-none o xs lo g s = absurd (omega (arith, s.from, s.upto))

  pub via-start : {ix : List ℕ} {n : ℕ} (o : Source) (xs : List ℕ) (s : ℕ) (g : Cost) → Indexed xs a ix n → (newest_of ix o.place.0 ≤ s) ⊎ (s ≡ h.step.0) → Via xs ix a o s h.step.0 g → LedAt (rows_of xs a) h g
  via-start o xs s g w p z =
      absurd (⊎_elim (λ l. let q = row-newest w z.at o.place.0 z.inside z.tried.place in omega (arith, z.late)) (λ e. omega (arith, z.late, z.tried.early)) p)

  pub via-step : {ix : List ℕ} (o : Source) (xs ys zs : List ℕ) (p r d e : ℕ) (ok : Bool) (f : ℕ) → Indexed xs a ix h.step.0 → o.place.0 < 64 → o.floor.0 < p → p ≤ h.step.0 → Older ix (p - 1) o.place.0 r
      → SweptAt (Via xs ix a o p h.step.0) h a xs ys d true e → SweptAt (From ys (low_of ix (p - 1) o.place.0) (high_of ix (p - 1) o.place.0) o h.step.0) h a ys zs e ok f → SweptAt (Via xs ix a o r h.step.0) h a xs zs d ok f
  via-step {ix} o xs ys zs p r d e ok f w inside l m old x y =
      swept-then
      (λ g z. record { at = z.at; inside = z.inside; listed = z.listed; late = omega (arith, z.late, most); tried = z.tried })
      (λ g z.
      let n = w.only s u z.at (omega (arith, w.now)) inside z.from z.upto in
      let i : z.at < a = omega (arith, z.upto, b.1) in
      record { at = z.at; inside = i; listed = low-row xs ix z.at s u z.from z.upto n.1 n.0; late = omega (arith, n.1, most); tried = record { place = n.0; above = omega (arith, n.1); early = omega (arith, n.1); sum = z.sum ∙ ap (reach h.step.0 o.wait o.cost) (same z.at i) } })
      (λ g z.
      ⊎_elim
      (λ lt. inl (record { at = z.at; inside = z.inside; listed = z.listed; late = omega arith; tried = z.tried }))
      (λ ge.
      let step : (row_at xs z.at).step ≡ s = ⊎_elim (λ lt. let q = older-past w (omega (arith, w.now)) inside old z.at z.inside z.listed z.tried.place lt in absurd (omega (arith, z.late))) (λ le. omega arith) (lt-or-le (row_at xs z.at).step s) in
      let n = row_low z.at s u z.listed step z.tried.place in
      inr (record { at = z.at; from = n.0; upto = n.1; sum = z.tried.sum ∙ sym (ap (reach h.step.0 o.wait o.cost) (same z.at z.inside)) }))
      (lt-or-le s (row_at xs z.at).step))
      x
      (swept-base xs ys zs e ok f x.below y)
    where
      s : ℕ
      s = p - 1

      u : ℕ
      u = o.place.0

      most : r ≤ p - 1
      most = older-most w (omega (arith, w.now)) inside old

      b : (low_of ix (p - 1) o.place.0 ≤ high_of ix (p - 1) o.place.0) × (high_of ix (p - 1) o.place.0 ≤ a)
      b = w.order (p - 1) o.place.0 (omega (arith, w.now)) inside

      same : (i : ℕ) → i < a → row_at ys i ≡ row_at xs i
      same i q = row_kept xs ys i (λ j b p. x.below j (omega arith))

  -- what the row that covers a row of the source arrives with is nowhere above what that one does
  cover-reach : {ix : List ℕ} (o : Source) (xs : List ℕ) (i : ℕ) (k : Cover xs a ix h.step.0 o.wait i) → (row_at xs i).step < h.step.0
      → AtMost (reach h.step.0 o.wait o.cost (row_at xs k.at)) (reach h.step.0 o.wait o.cost (row_at xs i))
  cover-reach o xs i k early =
      let t = h.step.0 in
      let q = row_at xs k.at in
      let r = row_at xs i in
      let soon : q.step < t = ⊎_elim (λ e. omega (arith, ap (λ (j : ℕ). (row_at xs j).step) e)) (λ b. b) k.soon in
      record {
        every = λ j. omega (
          arith,
          fig-add (add q.cost (times (t - 1 - q.step) o.wait)) o.cost j,
          fig-add q.cost (times (t - 1 - q.step) o.wait) j,
          fig-add (add r.cost (times (t - 1 - r.step) o.wait)) o.cost j,
          fig-add r.cost (times (t - 1 - r.step) o.wait) j,
          fig-add r.cost (times (q.step - r.step) o.wait) j,
          lag-sum r.step q.step (t - 1) o.wait j k.later (omega arith),
          k.least.every j,
        );
      }

  pub via-end : (o : Source) (xs ys ix : List ℕ) (s d e : ℕ) → Covers xs a ix h.step.0 o.place.0 o.wait → s ≤ o.floor.0 → SweptAt (Via xs ix a o s h.step.0) h a xs ys d true e
      → SweptAt (λ g. Any (Tried o h.step.0 g) (rows_of xs a)) h a xs ys d true e
  via-end o xs ys ix s d e c l x =
      swept-under
      (λ g z. any_at _ xs a z.at z.inside z.tried)
      (λ g z.
      let q = rows-find xs a z in
      let f = q.fits in
      let k = c.of q.at (omega (arith, q.upto)) f.place in
      let soon : (row_at xs k.at).step < h.step.0 = ⊎_elim (λ e. omega (arith, f.early, ap (λ (j : ℕ). (row_at xs j).step) e)) (λ b. b) k.soon in (
        reach h.step.0 o.wait o.cost (row_at xs k.at),
        record {
          at = k.at;
          inside = k.inside;
          listed = k.listed;
          late = omega (arith, f.above, k.later);
          tried = record { place = k.place ∙ f.place; above = omega (arith, f.above, k.later); early = soon; sum = refl };
        },
        subst (AtMost (reach h.step.0 o.wait o.cost (row_at xs k.at))) (sym f.sum) (cover-reach o xs q.at k f.early),
      ))
      (λ f g l. led-up h f g l)
      x

  pub over_none : (k : Case) (xs net : List ℕ) (j m : ℕ) (g : Cost) → ((i : ℕ) → j ≤ i → i < m → link_of net 1 i ≡ h.place.0 → ⊥) → Over (Entry h a k xs g) net j m → LedAt (rows_of xs a) h g
  over_none k xs net j m g n o = absurd (n o.at o.from o.upto o.fits.into)

  pub over-step : (k : Case) (xs ys zs net : List ℕ) (j r m d e : ℕ) (ok : Bool) (f : ℕ) → 0 < j → j ≤ m → NextOne (by_place 1) net h.place.0 (j - 1) r
      → SweptAt (λ g. Over (Entry h a k xs g) net j m) h a xs ys d true e → SweptAt (λ g. Entry h a k ys g (link_at net (j - 1))) h a ys zs e ok f → SweptAt (λ g. Over (Entry h a k xs g) net r m) h a xs zs d ok f
  over-step k xs ys zs net j r m d e ok f l u n x y =
      swept-then
      (λ g o. record { at = o.at; from = omega (arith, o.from, n.most); upto = o.upto; fits = o.fits })
      (λ g z. record { at = j - 1; from = n.most; upto = omega arith; fits = z })
      (λ g o.
      ⊎_elim
      (λ lt. inl (record { at = o.at; from = omega arith; upto = o.upto; fits = o.fits }))
      (λ ge. ⊎_elim (λ lt. absurd (n.none o.at o.from lt o.fits.into)) (λ le. let q : o.at ≡ j - 1 = omega arith in inr (subst (λ (i : ℕ). Entry h a k xs g (link_at net i)) q o.fits)) (lt-or-le o.at (j - 1)))
      (lt-or-le (j - 1) o.at))
      x
      (subst (λ (rs : List Row). Swept (λ g. Enters k rs h.place.0 h.step.0 g (link_at net (j - 1))) (LedAt rs h) h.place.0 h.step.0 a ys zs e ok f) (rows-kept xs ys a x.below) y)

  pub over-end : (k : Case) (xs ys net : List ℕ) (j m d e : ℕ) → j ≤ 0 → SweptAt (λ g. Over (Entry h a k xs g) net j m) h a xs ys d true e → SweptAt (λ g. Any (Entry h a k xs g) (links_of net m)) h a xs ys d true e
  over-end k xs ys net j m d e l x =
      swept_as (λ g o. links-any _ net m o.at o.upto o.fits) (λ g o. let q = links-find net m o in inl (record { at = q.at; from = omega arith; upto = q.upto; fits = q.fits })) x
