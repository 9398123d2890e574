-- The index of rows that stand in order, made anew, step by step.
use Rattle.std.specs.Prelude.{◌≡◌, refl, List, ◌∷◌, ◌⊎◌, ℕ, zero, suc, ◌+◌, ◌*◌, ◌-◌, ◌≤◌, ◌<◌, length, replicate}
use Rattle.std.proofs.Common.{sym, ◌∙◌, subst, inl, inr, ⊎_elim, arith}
use Rattle.sheet.specs.Laws.Decided.{lt-or-le, All, none, more, all_tail}
use Rattle.costs.specs.Costs.{Cost}
use Rattle.arrivals.specs.Rows.{Row, row_at}
use Rattle.arrivals.specs.Inner.Rows.{rows_of, all-at, Bounded}
use Rattle.arrivals.specs.Inner.Network.{Case, case_of}
use Rattle.arrivals.specs.Inner.Lent.{Given}
use Rattle.arrivals.specs.Inner.Entering.{Less}
use Rattle.arrivals.specs.Inner.Filling.{RowBefore, Falling, more-falling, Sound, empty, first, entered, Filled}
use Rattle.arrivals.specs.Inner.Index.{Indexed, Listed, Covers, NotedAs, room_of, low-row, cover-own}
use Rattle.arrivals.specs.Inner.Index.{indexed-more, indexed-step, indexed-none, covers-step}
use Rattle.arrivals.specs.Inner.Due.{Covered, IndexedShort}
use Rattle.arrivals.specs.Inner.Settling.{Settling}

-- the rows from k to r are of one place and step, and row r, if it is below n, is not
pub record GroupEnd (xs : List ℕ) (k n r : ℕ) : Type 0 where
  pub from : k < r
  pub upto : r ≤ n
  pub own : (i : ℕ) → k ≤ i → i < r → ((row_at xs i).place ≡ (row_at xs k).place) × ((row_at xs i).step ≡ (row_at xs k).step)
  pub other : r < n → (row_at xs r).place ≡ (row_at xs k).place → (row_at xs r).step ≡ (row_at xs k).step → ⊥

-- the rows below n can be noted: they stand in order, within the bounds of a search, in a table whose rows 23 bits number
pub record Noteable (xs : List ℕ) (n : ℕ) : Type 0 where
  pub room : n * 5 ≤ length xs
  pub short : length xs ≤ 41943039
  pub places : (i : ℕ) → i < n → (row_at xs i).place < 64
  pub steps : (i : ℕ) → i < n → (row_at xs i).step ≤ 255
  pub bounded : All Bounded (rows_of xs n)
  pub order : Falling (rows_of xs n)

-- row k is the first of its step
pub record First (xs : List ℕ) (k : ℕ) : Type 0 where
  pub before : (i : ℕ) → i < k → (row_at xs i).step < (row_at xs k).step

-- the rows from k to r are those of a step, and are noted
pub record StepNoted (xs : List ℕ) (k n : ℕ) (ix iy : List ℕ) (r : ℕ) : Type 0 where
  pub from : k < r
  pub upto : r ≤ n
  pub size : length iy ≡ length ix
  pub own : (i : ℕ) → k ≤ i → i < r → (row_at xs i).step ≡ (row_at xs k).step
  pub next : r < n → First xs r
  pub indexed : Indexed xs r iy (row_at xs k).step
  pub covers : (t v : ℕ) (w : Cost) → Covers xs k ix t v w → Covers xs r iy t v w

-- the rows from k to i are of one place and step
pub record Same (xs : List ℕ) (k i : ℕ) : Type 0 where
  pub each : (j : ℕ) → k ≤ j → j < i → ((row_at xs j).place ≡ (row_at xs k).place) × ((row_at xs j).step ≡ (row_at xs k).step)

-- a row comes before each row that stands after it
falling-head : {r : Row} {rs : List Row} → Falling (r ∷ rs) → All (λ q. RowBefore q r) rs
falling-head (more-falling a f) = a

falling-tail : {r : Row} {rs : List Row} → Falling (r ∷ rs) → Falling rs
falling-tail (more-falling a f) = f

rows_before : (xs : List ℕ) (n : ℕ) → Falling (rows_of xs n) → (i j : ℕ) → i < j → j < n → RowBefore (row_at xs i) (row_at xs j)
unfolding rows_of
rows_before xs zero f i j l m = absurd (omega arith)
rows_before xs (suc n) f i j l m =
    ⊎_elim
    (λ lt. rows_before xs n (falling-tail f) i j l lt)
    (λ ge.
    let e : n ≡ j = omega arith in
    subst (λ (k : ℕ). RowBefore (row_at xs i) (row_at xs k)) e (all-at (λ q. RowBefore q (row_at xs n)) xs n i (omega arith) (falling-head f)))
    (lt-or-le j n)

all-below : (P : Row → Type 0) (xs : List ℕ) (n r : ℕ) → r ≤ n → All P (rows_of xs n) → All P (rows_of xs r)
unfolding rows_of
all-below P xs zero r l a = let e : 0 ≡ r = omega arith in subst (λ (k : ℕ). All P (rows_of xs k)) e a
all-below P xs (suc n) r l a =
    ⊎_elim
    (λ lt. all-below P xs n r (omega arith) (all_tail a))
    (λ ge. let e : suc n ≡ r = omega arith in subst (λ (k : ℕ). All P (rows_of xs k)) e a)
    (lt-or-le r (suc n))

-- each row before row k is of an earlier step, or of the same step and an earlier place
pub record Opens (xs : List ℕ) (n k : ℕ) : Type 0 where
  pub before : k < n → (i : ℕ) → i < k → Less (row_at xs i).step (row_at xs i).place (row_at xs k).step (row_at xs k).place

-- so it is of the row past a group
group-opens : {xs : List ℕ} {n : ℕ} (k r : ℕ) → Noteable xs n → Opens xs n k → GroupEnd xs k n r → Opens xs n r
group-opens {xs} {n} k r a o g = record { before = λ m i l. past m i l (lt-or-le i k) }
  where
    apart : r < n → Less (row_at xs k).step (row_at xs k).place (row_at xs r).step (row_at xs r).place
    apart m = ⊎_elim (λ x. x) (λ x. absurd (g.other m (sym x.1) (sym x.0))) (rows_before xs n a.order k r g.from m).order

    past : r < n → (i : ℕ) → i < r → (i < k) ⊎ (k ≤ i) → Less (row_at xs i).step (row_at xs i).place (row_at xs r).step (row_at xs r).place
    past m i l (inl lt) =
        ⊎_elim
        (λ x. ⊎_elim (λ y. inl (omega arith)) (λ y. inl (omega (arith, y.0))) (apart m))
        (λ x. ⊎_elim (λ y. inl (omega (arith, x.0))) (λ y. inr (omega (arith, x.0, y.0), omega (arith, x.1, y.1))) (apart m))
        (o.before (omega (arith, g.from)) i lt)
    past m i l (inr ge) =
        let e = g.own i ge l in
        ⊎_elim (λ y. inl (omega (arith, e.1))) (λ y. inr (omega (arith, e.1, y.0), omega (arith, e.0, y.1))) (apart m)

-- a group of rows that are in the table is noted
module _ (xs ix iy : List ℕ) (n m t v : ℕ) (w : Indexed xs n ix t) (on : n ≤ m)
    (own : (i : ℕ) → n ≤ i → i < m → ((row_at xs i).place ≡ v) × ((row_at xs i).step ≡ t)) (inside : v < 64)
    (fresh : (i : ℕ) → i < n → (row_at xs i).place ≡ v → (row_at xs i).step < t) (d : NotedAs ix iy n m t v) where
  group-indexed : Indexed xs m iy t
  group-indexed =
      indexed-more xs xs n m ix iy t v d.last w (record { more = on; below = λ j l. refl; own = own }) inside fresh d.noted d.most d.past

  old : (i : ℕ) → i < n → Listed ix xs i → Listed iy xs i
  old i l g =
      let a : (row_at xs i).step ≤ 255 = omega (arith, w.steps i l, w.now) in
      let apart : (row_at xs i).step ≡ t → (row_at xs i).place ≡ v → ⊥ = λ e f. let z = fresh i l f in omega arith in
      let x = d.noted.group.lows (row_at xs i).step (row_at xs i).place a (w.places i l) apart in
      let y = d.noted.group.highs (row_at xs i).step (row_at xs i).place a (w.places i l) apart in
      record { group = (omega (arith, g.group.0), omega (arith, g.group.1)) }

  new : (i : ℕ) → n ≤ i → i < m → Listed iy xs i
  new i l u =
      let o = own i l u in
      low-row xs iy i t v (omega (arith, d.noted.group.low)) (omega (arith, d.noted.group.high)) o.1 o.0

  group-covers : (s u : ℕ) (c : Cost) → Covers xs n ix s u c → Covers xs m iy s u c
  group-covers s u c f =
      record {
        of = λ i l p. ⊎_elim
            (λ lt.
            let k = f.of i lt p in
            record {
              at = k.at;
              inside = omega (arith, k.inside);
              listed = old k.at k.inside k.listed;
              place = k.place;
              later = k.later;
              soon = k.soon;
              least = k.least;
            })
            (λ ge. cover-own i l (new i ge l))
            (lt-or-le i n);
      }

-- the rows from k to i are of one step, and are noted; a group begins at i
pub record Noting (xs : List ℕ) (k n : ℕ) (ix iy : List ℕ) (i : ℕ) : Type 0 where
  pub from : k ≤ i
  pub upto : i ≤ n
  pub size : length iy ≡ length ix
  pub own : (j : ℕ) → k ≤ j → j < i → (row_at xs j).step ≡ (row_at xs k).step
  pub opens : Opens xs n i
  pub indexed : Indexed xs i iy (row_at xs k).step
  pub covers : (t v : ℕ) (w : Cost) → Covers xs k ix t v w → Covers xs i iy t v w

pub noting-more : {xs ix iy iz : List ℕ} {k n i m : ℕ} → Noteable xs n → Noting xs k n ix iy i → i < n → (row_at xs i).step ≡ (row_at xs k).step → GroupEnd xs i n m
    → NotedAs iy iz i m (row_at xs k).step (row_at xs i).place → Noting xs k n ix iz m
noting-more {xs} {ix} {iy} {iz} {k} {n} {i} {m} a w l e g d =
    record {
      from = omega (arith, w.from, g.from);
      upto = g.upto;
      size = d.noted.group.size ∙ w.size;
      own = λ j x y. ⊎_elim (λ lt. w.own j x lt) (λ ge. (g.own j ge y).1 ∙ e) (lt-or-le j i);
      opens = group-opens i m a w.opens g;
      indexed = group-indexed xs iy iz i m (row_at xs k).step (row_at xs i).place w.indexed grown own (a.places i l) fresh d;
      covers = λ t v c h.
          group-covers xs iy iz i m (row_at xs k).step (row_at xs i).place w.indexed grown own (a.places i l) fresh d t v c (w.covers t v c h);
    }
  where
    grown : i ≤ m
    grown = omega (arith, g.from)

    own : (j : ℕ) → i ≤ j → j < m → ((row_at xs j).place ≡ (row_at xs i).place) × ((row_at xs j).step ≡ (row_at xs k).step)
    own j x y = let o = g.own j x y in (o.0, o.1 ∙ e)

    fresh : (j : ℕ) → j < i → (row_at xs j).place ≡ (row_at xs i).place → (row_at xs j).step < (row_at xs k).step
    fresh j x p = ⊎_elim (λ y. omega arith) (λ y. absurd (omega (arith, y.1))) (w.opens.before l j x)

-- the rows below k are those of so many steps; from the last of these steps on, ix is their index
pub record Renoted (net xs : List ℕ) (n k : ℕ) (ix : List ℕ) : Type 0 where
  pub upto : k ≤ n
  pub first : k < n → First xs k
  pub index : (s : ℕ) → (0 < k → (row_at xs (k - 1)).step ≤ s) → s ≤ 255 → room_of s ≤ length ix → Indexed xs k ix s × Covered net xs k ix (s + 1)

pub indexed-zeros : {xs ix : List ℕ} {t : ℕ} → ix ≡ replicate (length ix) 0 → room_of t ≤ length ix → t ≤ 255 → Indexed xs 0 ix t
indexed-zeros {xs} {ix} {t} e l m = subst (λ (iy : List ℕ). Indexed xs 0 iy t) (sym e) (indexed-none xs (length ix) t l m)

pub renoted-none : {net xs ix : List ℕ} {n : ℕ} → ix ≡ replicate (length ix) 0 → Renoted net xs n 0 ix
renoted-none e =
    record {
      upto = omega arith;
      first = λ l. record { before = λ i b. absurd (omega arith) };
      index = λ s a l m. (indexed-zeros e m l, λ v b. record { of = λ i c p. absurd (omega arith) });
    }

pub renoted-next : {net xs ix : List ℕ} {n k : ℕ} → Renoted net xs n k ix → Noteable xs n → k < n → room_of (row_at xs k).step ≤ length ix
    → Indexed xs k ix (row_at xs k).step × Covered net xs k ix ((row_at xs k).step + 1)
renoted-next {net} {xs} {ix} {n} {k} w a l size =
    w.index (row_at xs k).step (λ b. let z = (w.first l).before (k - 1) (omega arith) in omega arith) (a.steps k l) size

-- at the end of a step
pub renoted-settling : {net xs ix iy : List ℕ} {n k r : ℕ} → Renoted net xs n k ix → Noteable xs n → k < n → room_of (row_at xs k).step ≤ length ix
    → StepNoted xs k n ix iy r → Settling net xs r iy (row_at xs k).step
renoted-settling {net} {xs} {ix} {iy} {n} {k} {r} w a l size d =
    let y = renoted-next w a l size in
    record {
      room = omega (arith, a.room, d.upto);
      short = omega (arith, a.room, a.short, d.upto);
      bounded = all-below Bounded xs n r d.upto a.bounded;
      indexed = d.indexed;
      covered = λ v b. d.covers _ v _ (y.1 v b);
    }

pub renoted-more : {net xs ix iy iz : List ℕ} {n k r : ℕ} → StepNoted xs k n ix iy r → Settling net xs r iz (row_at xs k).step → Renoted net xs n r iz
renoted-more {net} {xs} {ix} {iy} {iz} {n} {k} {r} d a =
    record {
      upto = d.upto;
      first = d.next;
      index = λ s b l m.
          let e = d.own (r - 1) (omega (arith, d.from)) (omega (arith, d.from)) in
          let late : (row_at xs k).step ≤ s = omega (arith, e, b (omega (arith, d.from))) in
          (indexed-step s late l m a.indexed, λ v c. covers-step (s + 1) (omega arith) (a.covered v c));
    }

pub renoted-all : {net xs ix : List ℕ} {n k : ℕ} (t : ℕ) → Renoted net xs n k ix → n ≤ k → t ≤ 255 → room_of t ≤ length ix
    → ((i : ℕ) → i < n → (row_at xs i).step ≤ t) → Indexed xs n ix t × Covered net xs n ix (t + 1)
renoted-all {net} {xs} {ix} {n} {k} t w l m size early =
    let e : k ≡ n = omega (arith, w.upto) in
    subst (λ (j : ℕ). Indexed xs j ix t × Covered net xs j ix (t + 1)) e (w.index t (λ b. early (k - 1) (omega arith)) m size)

-- the rows before step t can be noted
sound-places : (k : Case) {rs : List Row} → k.start < k.places → Sound k rs → All (λ r. r.place < k.places) rs
sound-places k l empty = none
sound-places k l (first f) = more {x = record { place = k.start; step = 0; cost = _ }} l none
sound-places k l (entered i o f p s) = more i (sound-places k l s)

pub filled-early : {k : Case} (xs : List ℕ) (n : ℕ) {t : ℕ} → Filled k (rows_of xs n) t 0 → (i : ℕ) → i < n → (row_at xs i).step < t
filled-early xs n {t} f i l = ⊎_elim (λ a. a) (λ a. absurd (omega (arith, a.1))) (all-at (λ r. Less r.step r.place t 0) xs n i l f.keys)

pub filled-noteable : {free net xs : List ℕ} {n t : ℕ} → Given free net → n * 5 ≤ length xs → length xs ≤ 41943039 → t ≤ 255
    → Filled (case_of free net) (rows_of xs n) t 0 → Noteable xs n
filled-noteable {free} {net} {xs} {n} {t} given room short day f =
    record {
      room = room;
      short = short;
      places = λ i l. omega (
        arith,
        all-at (λ r. r.place < (case_of free net).places) xs n i l (sound-places (case_of free net) given.start f.sound),
        given.places,
      );
      steps = λ i l. omega (arith, filled-early xs n f i l);
      bounded = f.bounded;
      order = f.ascending;
    }

pub noted-before : (net : List ℕ) {xs ix : List ℕ} {n t : ℕ} → 1 ≤ t → Indexed xs n ix (t - 1) × Covered net xs n ix (t - 1 + 1)
    → IndexedShort xs n ix (t - 1) t net
noted-before net {xs} {ix} {n} {t} one (w, c) short = let e : t - 1 + 1 ≡ t = omega arith in (w, subst (λ (s : ℕ). Covered net xs n ix s) e c)
