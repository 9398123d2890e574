-- The pruning rule (001, section IV: the earliest arrival in a safe interval). A row that has waited need not be offered again over a corridor
-- if it could have departed earlier, arriving in the same safe interval, and waiting there is nowhere dearer: that earlier arrival leads.
use Rattle.std.specs.Prelude.{◌≡◌, refl, true, List, ◌⊎◌, ℕ, ◌+◌, ◌*◌, ◌-◌, ◌≤◌, ◌<◌}
use Rattle.std.proofs.Common.{sym, ap, ap₂, ◌∙◌, subst, inl, inr, ⊎_elim, arith, add-mul, mul-le-mul_left}
use Rattle.sheet.specs.Laws.Decided.{lt-or-le, Any, In, any-map, any-find, in_all}
use Rattle.costs.specs.Costs.{Cost, fig, add, times}
use Rattle.costs.specs.Priced.{Within}
use Rattle.costs.specs.Laws.Figures.{fig-add, fig-times}
use Rattle.arrivals.specs.Rows.{Row}
use Rattle.arrivals.specs.Inner.Network.{Link, openb, Case, case_of, since, since_in, wait_in, link_of, link_at, links_of, count_of, dear_of, Cheap}
use Rattle.arrivals.specs.Inner.Network.{links-find, links-any, closure_of, closures_of, open_of, Lawful, Legal}
use Rattle.arrivals.specs.Inner.Lent.{Given, link-lawful}
use Rattle.arrivals.specs.Inner.Filling.{Reaching}
use Rattle.arrivals.specs.Inner.Rows.{rows_of}
use Rattle.arrivals.specs.Inner.Entering.{reach, Joins, Enters, Entry, LedAt, Lead, Complete, lead-led}
use Rattle.arrivals.specs.declared.network.Here.{Here}
use Rattle.arrivals.specs.declared.network.Source.{Source}

-- a row of step s need not be offered at step t over corridor l: there is an open departure of l before t - 1, not before s, whose arrival lies
-- in the safe interval of t, and waiting there is nowhere dearer
pub record Spared (k : Case) (l : Link) (s t : ℕ) : Type 0 where
  pub departs : ℕ
  pub from : s ≤ departs
  pub before : departs + 1 < t
  pub opens : openb l departs ≡ true
  pub within : since k l.to t ≤ departs + 1
  pub cheap : Cheap k.wait l

-- a number of steps in two parts
pub parted : (a b n m : ℕ) → a ≡ b + n → a * m ≡ b * m + n * m
parted a b n m e = ap (λ (x : ℕ). x * m) e ∙ add-mul b n m

module _ (k : Case) (legal : Legal k) (rs : List Row) (t W : ℕ) (complete : Complete k rs t W) (last : t ≤ 255) where
  -- the rule: what a spared row would arrive with is led
  pub spared-led : (l : Link) (r : Row) (g : Cost) → In l k.links → In r rs → Joins k l t g r → Spared k l r.step t → Lead k rs l.to t g
  spared-led l r g mem in-rs j s =
      record {
        row = any-map
            (λ q d. record {
              place = d.place;
              late = omega (arith, d.late, there);
              early = omega (arith, d.early, s.before);
              least = record {
                every = λ i.
                    omega (
                      arith,
                      d.least.every i,
                      parted (t - q.step) (u - q.step) (t - u) (fig (k.wait l.to) i) (omega (arith, d.early, s.before)),
                      parted (t - 1 - r.step) (u - 1 - r.step) (t - u) (fig (k.wait l.from) i) (omega (arith, s.from, s.before)),
                      mul-le-mul_left (t - u) (s.cheap.every i),
                      fig-add q.cost (times (t - q.step) (k.wait l.to)) i,
                      fig-times (t - q.step) (k.wait l.to) i,
                      fig-add q.cost (times (u - q.step) (k.wait l.to)) i,
                      fig-times (u - q.step) (k.wait l.to) i,
                      fig-add (add r.cost (times (u - 1 - r.step) (k.wait l.from))) l.cost i,
                      fig-add r.cost (times (u - 1 - r.step) (k.wait l.from)) i,
                      fig-times (u - 1 - r.step) (k.wait l.from) i,
                      fig-add (add r.cost (times (t - 1 - r.step) (k.wait l.from))) l.cost i,
                      fig-add r.cost (times (t - 1 - r.step) (k.wait l.from)) i,
                      fig-times (t - 1 - r.step) (k.wait l.from) i,
                      ap (λ (x : Cost). fig x i) j.sum,
                    );
              };
            })
            earlier.row;
      }
    where
      u : ℕ
      u = s.departs + 1

      law : Lawful k.places l
      law = in_all mem legal.links

      back : s.departs + 1 - 1 ≡ s.departs
      back = omega arith

      there : since k l.to (s.departs + 1) ≡ since k l.to t
      there = legal.runs l.to (s.departs + 1) t law.to last s.within (omega (arith, s.before))

      stays : since k l.from s.departs ≡ since k l.from (t - 1)
      stays = legal.runs l.from s.departs (t - 1) law.from (omega arith) (omega (arith, j.late, s.from)) (omega (arith, s.before))

      joins : Joins k l (s.departs + 1) (reach (s.departs + 1) (k.wait l.from) l.cost r) r
      joins = record { place = j.place; late = subst (λ (n : ℕ). since k l.from n ≤ r.step) (sym back) (omega (arith, stays, j.late)); early = omega (arith, s.from); sum = refl }

      enters : Enters k rs l.to (s.departs + 1) (reach (s.departs + 1) (k.wait l.from) l.cost r) l
      enters = record { into = refl; opens = subst (λ (n : ℕ). openb l n ≡ true) (sym back) s.opens; by = any-map (λ q e. subst (Joins k l (s.departs + 1) _) (sym e) joins) in-rs }

      earlier : Lead k rs l.to (s.departs + 1) (reach (s.departs + 1) (k.wait l.from) l.cost r)
      earlier =
          complete (s.departs + 1) l.to _ (inl s.before) (omega arith) law.to (omega (arith, there, s.within))
          (record { over = any-map (λ q e. subst (Enters k rs l.to (s.departs + 1) _) (sym e) enters) mem })

  -- a corridor all of whose rows are spared
  pub spared-all : (v : ℕ) (l : Link) (g : Cost) → In l k.links → ((r : Row) → In r rs → Joins k l t g r → Spared k l r.step t) → Enters k rs v t g l → Lead k rs v t g
  spared-all v l g mem spared e =
      let f = any-find e.by in
      subst (λ (u : ℕ). Lead k rs u t g) e.into (spared-led l f.0 g mem f.1 f.2 (spared f.0 f.1 f.2))

-- over corridor l the rows before step f need not be offered at step t
pub record Fresh (k : Case) (l : Link) (t f : ℕ) : Type 0 where
  pub spared : (s : ℕ) → s < f → Spared k l s t

-- the rule covers every corridor into v at step t by the departure at t - 2
pub record Steady (k : Case) (v t : ℕ) : Type 0 where
  pub every : (l : Link) → In l k.links → l.to ≡ v → Cheap k.wait l × (openb l (t - 2) ≡ true)

pub steady-of : (free net : List ℕ) (v t : ℕ) → Given free net → ((j : ℕ) → j < count_of net → link_of net 1 j ≡ v → dear_of net j ≡ 0)
    → ((x : ℕ) → x < closures_of net → closure_of net 2 x ≡ t - 2 → closure_of net 1 x ≡ v → ⊥) → Steady (case_of free net) v t
steady-of free net v t given cheap none =
    record {
      every = λ l m into.
          let q = links-find net (count_of net) m in
          let to : link_of net 1 q.at ≡ v = ap (λ (x : Link). x.to) q.fits ∙ into in
          let o = open_of net (link_of net 0 q.at) (link_of net 1 q.at) (t - 2) (λ x b c. none x b c.step (c.to ∙ to)) in
          (subst (Cheap (wait_in net)) q.fits (given.cheap q.at q.upto (cheap q.at q.upto to)), subst (λ (x : Link). openb x (t - 2) ≡ true) q.fits o);
    }

pub record FreshIs (net : List ℕ) (j : ℕ) (h : Here) (f : ℕ) : Type 0 where
  pub of : (free : List ℕ) → Given free net → j < count_of net → h.since.0 ≡ since_in free (link_of net 1 j) h.step.0 → Fresh (case_of free net) (link_at net j) h.step.0 f

pub fresh-none : (net : List ℕ) (j : ℕ) (h : Here) → FreshIs net j h 0
fresh-none net j h = record { of = λ free g l e. record { spared = λ s m. absurd (omega arith) } }

-- the departure at step a - 1 spares the rows before step a
pub fresh_at : (net : List ℕ) (j : ℕ) (h : Here) (a : ℕ) → 0 < a → a < h.step.0 → h.since.0 ≤ a → openb (link_at net j) (a - 1) ≡ true → dear_of net j ≡ 0 → FreshIs net j h a
fresh_at net j h a one early inside opens none =
    record { of = λ free g l e. record { spared = λ s m. record { departs = a - 1; from = omega arith; before = omega arith; opens = opens; within = omega arith; cheap = g.cheap j l none } } }

-- the figures of a source are at most 60000
pub record Fair (o : Source) : Type 0 where
  pub inside : o.place.0 < 64
  pub waits : Within 60000 o.wait
  pub costs : Within 60000 o.cost

-- o is where corridor l comes from, with the first step whose rows are tried at step t: none of those before it that can wait until t - 1 is
-- before step f
pub record Sourced (k : Case) (l : Link) (t f : ℕ) (o : Source) : Type 0 where
  pub place : o.place.0 ≡ l.from
  pub wait : o.wait ≡ k.wait l.from
  pub cost : o.cost ≡ l.cost
  pub late : (s : ℕ) → o.floor.0 ≤ s → since k l.from (t - 1) ≤ s
  pub low : (s : ℕ) → s < o.floor.0 → since k l.from (t - 1) ≤ s → s < f

pub sourced : (free net : List ℕ) (j t f s : ℕ) (o : Source) → o.place.0 ≡ link_of net 0 j → s ≡ since_in free o.place.0 (t - 1)
    → (f ≤ o.floor.0) × (s ≤ o.floor.0) × ((o.floor.0 ≡ f) ⊎ (o.floor.0 ≡ s)) → o.wait ≡ wait_in net o.place.0 → o.cost ≡ (link_at net j).cost → Sourced (case_of free net) (link_at net j) t f o
sourced free net j t f s o place first later wait cost =
    let e : s ≡ since_in free (link_of net 0 j) (t - 1) = first ∙ ap (λ (u : ℕ). since_in free u (t - 1)) place in
    record {
      place = place;
      wait = wait ∙ ap (wait_in net) place;
      cost = cost;
      late = λ n l. omega (arith, e, later.1);
      low = λ n l m. ⊎_elim (λ x. omega arith) (λ x. absurd (omega (arith, e))) later.2;
    }

-- row r of the source, from its floor on, arrives at step t with cost g
pub record Tried (o : Source) (t : ℕ) (g : Cost) (r : Row) : Type 0 where
  pub place : r.place ≡ o.place.0
  pub above : o.floor.0 ≤ r.step
  pub early : r.step < t
  pub sum : g ≡ reach t o.wait o.cost r

-- what enters h over corridor j is what the rows that are tried arrive with, but for what is led
module _ (free net xs : List ℕ) (n : ℕ) (h : Here) (at : Reaching free net xs n h) (j : ℕ) (inside : j < count_of net) (into : link_of net 1 j ≡ h.place.0) (f : ℕ) (is : FreshIs net j h f) where
  fresh : Fresh (case_of free net) (link_at net j) h.step.0 f
  fresh = is.of free at.given inside (at.stands.since ∙ ap (λ (v : ℕ). since_in free v h.step.0) (sym into))

  mem : In (link_at net j) (links_of net (count_of net))
  mem = links-any (λ l. l ≡ link_at net j) net (count_of net) j inside refl

  pub led-over : (g : Cost) (r : Row) → In r (rows_of xs n) → Joins (case_of free net) (link_at net j) h.step.0 g r → r.step < f → LedAt (rows_of xs n) h g
  led-over g r m q l =
      lead-led h at.stands (subst (λ (u : ℕ). Lead (case_of free net) (rows_of xs n) u h.step.0 g) into
      (spared-led (case_of free net) at.given.legal (rows_of xs n) h.step.0 h.place.0 at.complete at.stands.last (link_at net j) r g mem m q (fresh.spared r.step l)))

  pub tried-enters : (o : Source) (g : Cost) → Sourced (case_of free net) (link_at net j) h.step.0 f o → openb (link_at net j) (h.step.0 - 1) ≡ true → Any (Tried o h.step.0 g) (rows_of xs n) → Entry h n (case_of free net) xs g (link_at net j)
  tried-enters o g s opens a =
      record {
        into = into;
        opens = opens;
        by = any-map (λ r d. record { place = d.place ∙ s.place; late = s.late r.step d.above; early = d.early; sum = d.sum ∙ ap₂ (λ (w c : Cost). reach h.step.0 w c r) s.wait s.cost }) a;
      }

  pub enters-tried : (o : Source) (g : Cost) → Sourced (case_of free net) (link_at net j) h.step.0 f o → Entry h n (case_of free net) xs g (link_at net j) → Any (Tried o h.step.0 g) (rows_of xs n) ⊎ LedAt (rows_of xs n) h g
  enters-tried o g s e =
      let q = any-find e.by in
      let r = q.0 in
      let b = q.2 in
      ⊎_elim
      (λ lt. inr (led-over g r q.1 b (s.low r.step lt b.late)))
      (λ ge. inl (any-map
      (λ p same. subst (Tried o h.step.0 g) (sym same) (record { place = b.place ∙ sym s.place; above = ge; early = b.early; sum = b.sum ∙ sym (ap₂ (λ (w c : Cost). reach h.step.0 w c r) s.wait s.cost) }))
      q.1))
      (lt-or-le r.step o.floor.0)

  -- a corridor whose place has no rows from step f on
  pub enters_none : (g : Cost) → ((r : Row) → In r (rows_of xs n) → r.place ≡ link_of net 0 j → r.step < f) → Entry h n (case_of free net) xs g (link_at net j) → LedAt (rows_of xs n) h g
  enters_none g old e = let q = any-find e.by in led-over g q.0 q.1 q.2 (old q.0 q.1 q.2.place)

pub fair-of : (free net : List ℕ) (j t f : ℕ) (o : Source) → Given free net → j < count_of net → Sourced (case_of free net) (link_at net j) t f o → Fair o
fair-of free net j t f o given l s =
    let w = link-lawful given j l in
    record {
      inside = omega (arith, s.place, w.from, given.places);
      waits = subst (Within 60000) (sym s.wait) (given.legal.waits (link_of net 0 j) w.from);
      costs = subst (Within 60000) (sym s.cost) w.costs;
    }

-- a place that the rule covers is not entered from rows before step t - 1, unless its safe interval begins at t
pub steady-none : (k : Case) → Legal k → (rs : List Row) (v t : ℕ) (g : Cost) → Complete k rs t v → t ≤ 255 → since k v t < t → Steady k v t → ((l : Link) → In l k.links → l.to ≡ v → (r : Row) → In r rs → r.place ≡ l.from → r.step < t → r.step + 1 < t)
    → Any (Enters k rs v t g) k.links → Lead k rs v t g
steady-none k legal rs v t g complete last began steady old over =
    let q = any-find over in
    let l = q.0 in
    let e = q.2 in
    let y = steady.every l q.1 e.into in
    spared-all k legal rs t v complete last v l g q.1
    (λ r m j. let b = old l q.1 e.into r m j.place j.early in record { departs = t - 2; from = omega arith; before = omega arith; opens = y.1; within = subst (λ (u : ℕ). since k u t ≤ t - 2 + 1) (sym e.into) (omega arith); cheap = y.0 })
    e
