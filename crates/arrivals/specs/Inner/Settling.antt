-- Rows that are left out of the index because a later row of their place undercuts them (document 02, E8; live rows). A group may be shortened by rows for
-- which rows of step t stand, and a group may point past groups that are empty: the index still has what it promises, and the rows that it lists before
-- step t + 1 cover them all.
use Rattle.std.specs.Prelude.{◌≡◌, List, Bool, false, ◌⊎◌, ℕ, ◌+◌, ◌*◌, ◌-◌, ◌≤◌, ◌<◌, ltb, length, get_or}
use Rattle.std.proofs.Common.{sym, ap, ◌∙◌, subst, inl, inr, ⊎_elim, arith, ltb-false}
use Rattle.std.proofs.Math.Decide.{ℕ_discrete}
use Rattle.sheet.specs.Laws.Decided.{lt-or-le, All}
use Rattle.costs.specs.Costs.{Cost, add, times, AtMost}
use Rattle.costs.specs.Priced.{Within}
use Rattle.costs.specs.Laws.Figures.{fig-add, within_more, within-times}
use Rattle.arrivals.specs.Rows.{Row, row_at}
use Rattle.arrivals.specs.Inner.Rows.{rows_of, all-at, tail_of, tail-find, Bounded}
use Rattle.arrivals.specs.Inner.Network.{wait_in}
use Rattle.arrivals.specs.Inner.Offering.{Beaten}
use Rattle.arrivals.specs.Inner.Index.{room_of, Regrouped, low_of, high_of, back_of, Listed, Indexed, Cover, Older, covers-step, row_low, low-row, older-past, lag-sum}
use Rattle.arrivals.specs.Inner.Due.{Covered, IndexedShort}
use Rattle.arrivals.specs.Inner.Walking.{Walking}
use Rattle.arrivals.specs.declared.index.Span.{Span}

-- the rows up to step t and their index, whose listed rows cover them all from step t + 1 on
pub record Settling (net xs : List ℕ) (n : ℕ) (ix : List ℕ) (t : ℕ) : Type 0 where
  pub room : n * 5 ≤ length xs
  pub short : n ≤ 8388607
  pub bounded : All Bounded (rows_of xs n)
  pub indexed : Indexed xs n ix t
  pub covered : Covered net xs n ix (t + 1)

pub record Settleable (net xs ix : List ℕ) (t : ℕ) : Type 0 where
  pub rows : ℕ
  pub settling : Settling net xs rows ix t

-- however many rows there are, the index after a change has what it had before it
pub record Settles (net xs : List ℕ) (t : ℕ) (ix iy : List ℕ) : Type 0 where
  pub size : length iy ≡ length ix
  pub of : (n : ℕ) → Settling net xs n ix t → Settling net xs n iy t

-- the rows of place v that are listed before step p begin below step b
abbrev pub Begins : List ℕ → ℕ → List ℕ → ℕ → ℕ → ℕ → Type 0
Begins xs n ix v p b = (i : ℕ) → i < n → Listed ix xs i → (row_at xs i).place ≡ v → (row_at xs i).step < p → (row_at xs i).step < b

-- a listed row q of v after step s stands for row i of step s
pub record Stands (xs : List ℕ) (n : ℕ) (ix : List ℕ) (t v s : ℕ) (w : Cost) (i : ℕ) : Type 0 where
  pub at : ℕ
  pub inside : at < n
  pub listed : Listed ix xs at
  pub place : (row_at xs at).place ≡ v
  pub later : s < (row_at xs at).step
  pub soon : (row_at xs at).step < t
  pub least : AtMost (row_at xs at).cost (add (row_at xs i).cost (times ((row_at xs at).step - s) w))

module _ {net xs : List ℕ} {n : ℕ} {ix iy : List ℕ} {t lo hi b s v : ℕ} (a : Settling net xs n ix t) (g : Regrouped ix iy lo hi b s v) (day : s ≤ 255) (inside : v < 64)
    (from : low_of ix s v ≤ lo) (order : lo ≤ hi) (upto : hi ≤ high_of ix s v) (down : b ≤ s) (begins : Begins xs n ix v s b)
    (stands : (i : ℕ) → i < n → low_of ix s v ≤ i → i < high_of ix s v → (i < lo) ⊎ (hi ≤ i) → Stands xs n ix (t + 1) v s (wait_in net v) i) where
  key : (r u : ℕ) → ((r ≡ s) × (u ≡ v)) ⊎ (r ≡ s → u ≡ v → ⊥)
  key r u = go (ℕ_discrete r s) (ℕ_discrete u v)
    where
      go : Dec (r ≡ s) → Dec (u ≡ v) → ((r ≡ s) × (u ≡ v)) ⊎ (r ≡ s → u ≡ v → ⊥)
      go (yes p) (yes q) = inl (p, q)
      go (no p) q = inr (λ e f. p e)
      go (yes p) (no q) = inr (λ e f. q f)

  -- a group after the change is within what it was
  within : (r u : ℕ) → r ≤ 255 → u < 64 → (low_of ix r u ≤ low_of iy r u) × (low_of iy r u ≤ high_of iy r u) × (high_of iy r u ≤ high_of ix r u)
  within r u c d = go (key r u)
    where
      go : ((r ≡ s) × (u ≡ v)) ⊎ (r ≡ s → u ≡ v → ⊥) → (low_of ix r u ≤ low_of iy r u) × (low_of iy r u ≤ high_of iy r u) × (high_of iy r u ≤ high_of ix r u)
      go (inl (e, f)) =
          subst (λ (y : ℕ). (low_of ix y u ≤ low_of iy y u) × (low_of iy y u ≤ high_of iy y u) × (high_of iy y u ≤ high_of ix y u)) (sym e)
          (subst (λ (y : ℕ). (low_of ix s y ≤ low_of iy s y) × (low_of iy s y ≤ high_of iy s y) × (high_of iy s y ≤ high_of ix s y)) (sym f)
          (omega (arith, g.group.low), omega (arith, g.group.low, g.group.high), omega (arith, g.group.high)))
      go (inr n) =
          let o = a.indexed.order r u c d in
          (omega (arith, g.group.lows r u c d n), omega (arith, g.group.lows r u c d n, g.group.highs r u c d n, o.0), omega (arith, g.group.highs r u c d n))

  row-day : (i : ℕ) → i < n → (row_at xs i).step ≤ 255
  row-day i l = omega (arith, a.indexed.steps i l, a.indexed.now)

  pub fewer : (i : ℕ) → i < n → Listed iy xs i → Listed ix xs i
  fewer i l k =
      let z = within (row_at xs i).step (row_at xs i).place (row-day i l) (a.indexed.places i l) in
      record { group = (omega (arith, k.group.0, z.0), omega (arith, k.group.1, z.2)) }

  -- a row of another group is listed as it was
  others : (i : ℕ) → i < n → ((row_at xs i).step ≡ s → (row_at xs i).place ≡ v → ⊥) → Listed ix xs i → Listed iy xs i
  others i l m k =
      let x = g.group.lows (row_at xs i).step (row_at xs i).place (row-day i l) (a.indexed.places i l) m in
      let y = g.group.highs (row_at xs i).step (row_at xs i).place (row-day i l) (a.indexed.places i l) m in
      record { group = (omega (arith, k.group.0), omega (arith, k.group.1)) }

  back_at : (i j : ℕ) → i < n → j < n → Listed iy xs i → Listed iy xs j → (row_at xs i).place ≡ (row_at xs j).place → (row_at xs i).step < (row_at xs j).step
      → (row_at xs i).step < back_of iy (row_at xs j).step (row_at xs j).place
  back_at i j l m p q e f = go (key (row_at xs j).step (row_at xs j).place)
    where
      go : (((row_at xs j).step ≡ s) × ((row_at xs j).place ≡ v)) ⊎ ((row_at xs j).step ≡ s → (row_at xs j).place ≡ v → ⊥) → (row_at xs i).step < back_of iy (row_at xs j).step (row_at xs j).place
      go (inl (c, d)) =
          subst (λ (y : ℕ). (row_at xs i).step < back_of iy y (row_at xs j).place) (sym c)
          (subst (λ (y : ℕ). (row_at xs i).step < back_of iy s y) (sym d) (omega (arith, g.group.back, begins i l (fewer i l p) (e ∙ d) (omega arith))))
      go (inr c) =
          omega (
            arith,
            g.group.backs (row_at xs j).step (row_at xs j).place (row-day j m) (a.indexed.places j m) c,
            a.indexed.back i j l m (fewer i l p) (fewer j m q) e f,
          )

  indexed : Indexed xs n iy t
  indexed =
      record {
        size = omega (arith, g.group.size, a.indexed.size);
        now = a.indexed.now;
        places = a.indexed.places;
        steps = a.indexed.steps;
        order = λ r u c d. let o = a.indexed.order r u c d in let z = within r u c d in (z.1, omega (arith, z.2, o.1));
        only = λ r u i c d x y. let z = within r u c d in a.indexed.only r u i c d (omega (arith, z.0)) (omega (arith, z.2));
        newest = λ i l. omega (arith, g.rest (row_at xs i).place (a.indexed.places i l), a.indexed.newest i l);
        latest = λ u c. omega (arith, g.rest u c, a.indexed.latest u c);
        back = back_at;
        down = λ r u c d. ⊎_elim
            (λ e. subst (λ (y : ℕ). back_of iy y u ≤ y) (sym e.0) (subst (λ (y : ℕ). back_of iy s y ≤ s) (sym e.1) (omega (arith, g.group.back))))
            (λ e. omega (arith, g.group.backs r u c d e, a.indexed.down r u c d))
            (key r u);
      }

  -- a row that a dropped row covered is covered by the row that stands for that
  instead : (i : ℕ) (k : Cover xs n ix (t + 1) (wait_in net v) i) → (row_at xs i).place ≡ v → (row_at xs k.at).step ≡ s → Stands xs n ix (t + 1) v s (wait_in net v) k.at
      → Cover xs n iy (t + 1) (wait_in net v) i
  instead i k p e q =
      let w = wait_in net v in
      record {
        at = q.at;
        inside = q.inside;
        listed = others q.at q.inside (λ c d. omega (arith, q.later)) q.listed;
        place = q.place ∙ sym p;
        later = omega (arith, q.later, k.later);
        soon = inr q.soon;
        least = record {
          every = λ j. omega (
            arith,
            fig-add (row_at xs k.at).cost (times ((row_at xs q.at).step - s) w) j,
            fig-add (row_at xs i).cost (times ((row_at xs k.at).step - (row_at xs i).step) w) j,
            fig-add (row_at xs i).cost (times ((row_at xs q.at).step - (row_at xs i).step) w) j,
            lag-sum (row_at xs i).step (row_at xs k.at).step (row_at xs q.at).step w j k.later (omega (arith, q.later)),
            ap (λ (x : ℕ). fig' (times ((row_at xs q.at).step - x) w) j) e,
            k.least.every j,
            q.least.every j,
          );
        };
      }
    where
      fig' : Cost → ℕ → ℕ
      fig' c j = get_or c j 0

  cover-own : (i : ℕ) → i < n → (row_at xs i).place ≡ v → Cover xs n ix (t + 1) (wait_in net v) i → Cover xs n iy (t + 1) (wait_in net v) i
  cover-own i l p k = go (ℕ_discrete (row_at xs k.at).step s)
    where
      kept : Listed iy xs k.at → Cover xs n iy (t + 1) (wait_in net v) i
      kept c = record { at = k.at; inside = k.inside; listed = c; place = k.place; later = k.later; soon = k.soon; least = k.least }

      go : Dec ((row_at xs k.at).step ≡ s) → Cover xs n iy (t + 1) (wait_in net v) i
      go (no m) = kept (others k.at k.inside (λ c d. m c) k.listed)
      go (yes e) =
          let r = row_low k.at s v k.listed e (k.place ∙ p) in
          ⊎_elim
          (λ before. instead i k p e (stands k.at k.inside r.0 r.1 (inl before)))
          (λ after. ⊎_elim
          (λ within. kept (low-row xs iy k.at s v (omega (arith, g.group.low)) (omega (arith, g.group.high)) e (k.place ∙ p)))
          (λ past. instead i k p e (stands k.at k.inside r.0 r.1 (inr past)))
          (lt-or-le k.at hi))
          (lt-or-le k.at lo)

  covered : Covered net xs n iy (t + 1)
  covered u d = record { of = λ i l p. go i l p (ℕ_discrete u v) ((a.covered u d).of i l p) }
    where
      go : (i : ℕ) → i < n → (row_at xs i).place ≡ u → Dec (u ≡ v) → Cover xs n ix (t + 1) (wait_in net u) i → Cover xs n iy (t + 1) (wait_in net u) i
      go i l p (yes e) k = subst (λ (y : ℕ). Cover xs n iy (t + 1) (wait_in net y) i) (sym e) (cover-own i l (p ∙ e) (subst (λ (y : ℕ). Cover xs n ix (t + 1) (wait_in net y) i) e k))
      go i l p (no e) k =
          record {
            at = k.at;
            inside = k.inside;
            listed = others k.at k.inside (λ c d. e (sym p ∙ sym k.place ∙ d)) k.listed;
            place = k.place;
            later = k.later;
            soon = k.soon;
            least = k.least;
          }

  pub settled : Settling net xs n iy t
  settled = record { room = a.room; short = a.short; bounded = a.bounded; indexed = indexed; covered = covered }

-- row k is nowhere below one of the rows of a span after waiting at cost lag
abbrev pub Undercut : List ℕ → Cost → Span → ℕ → Type 0
Undercut xs lag by k = Beaten (tail_of xs by.lo (by.hi - by.lo)) (add (row_at xs k).cost lag)

-- two spans of rows of the table, with figures that can be counted on
pub record Spans (xs : List ℕ) (span : Span) (lag : Cost) (by : Span) : Type 0 where
  pub order : span.lo ≤ span.hi
  pub upto : span.hi * 5 ≤ length xs
  pub small : (i : ℕ) → span.lo ≤ i → i < span.hi → Within 1000000000 (row_at xs i).cost
  pub lag-small : Within 1000000000 lag
  pub by_order : by.lo ≤ by.hi
  pub by-upto : by.hi * 5 ≤ length xs

pub record FirstLive (xs : List ℕ) (span : Span) (lag : Cost) (by : Span) (r : ℕ) : Type 0 where
  pub from : span.lo ≤ r
  pub upto : r ≤ span.hi
  pub dead : (i : ℕ) → span.lo ≤ i → i < r → Undercut xs lag by i

pub record LastLive (xs : List ℕ) (span : Span) (lag : Cost) (by : Span) (r : ℕ) : Type 0 where
  pub from : span.lo ≤ r
  pub upto : r ≤ span.hi
  pub dead : (i : ℕ) → r ≤ i → i < span.hi → Undercut xs lag by i

-- the groups of steps s and t stand in the table
pub record Shortening (xs ix : List ℕ) (v s t : ℕ) (wait : Cost) (back : ℕ) : Type 0 where
  pub inside : v < 64
  pub before : s < t
  pub day : t ≤ 255
  pub size : room_of t ≤ length ix
  pub waits : Within 60000 wait
  pub down : back ≤ s
  pub rows : ℕ
  pub room : rows * 5 ≤ length xs
  pub short : rows ≤ 8388607
  pub bounded : All Bounded (rows_of xs rows)
  pub indexed : Indexed xs rows ix t

-- the group of step s is shortened; r tells whether rows are left in it
pub record ShortenedFor (net xs : List ℕ) (n v s t : ℕ) (ix iy : List ℕ) (r : Bool) : Type 0 where
  pub settling : Settling net xs n iy t
  pub fewer : (i : ℕ) → i < n → Listed iy xs i → Listed ix xs i
  pub none : r ≡ false → (i : ℕ) → i < n → Listed iy xs i → (row_at xs i).place ≡ v → (row_at xs i).step ≡ s → ⊥

pub record Shortened (xs : List ℕ) (v s t : ℕ) (wait : Cost) (back : ℕ) (ix iy : List ℕ) (r : Bool) : Type 0 where
  pub size : length iy ≡ length ix
  pub of : (net : List ℕ) (n : ℕ) → wait ≡ wait_in net v → Settling net xs n ix t → Begins xs n ix v s back → ShortenedFor net xs n v s t ix iy r

row_small : (r : Row) (t : ℕ) → Bounded r → r.step ≤ t → t ≤ 255 → Within 1000000000 r.cost
row_small r t b l m = record { every = λ i. omega (arith, b.within.every i) }

module _ {xs ix : List ℕ} {v s t : ℕ} {wait : Cost} {back : ℕ} (p : Shortening xs ix v s t wait back) {by span : Span} (by-low : by.lo ≡ low_of ix t v) (by_high : by.hi ≡ high_of ix t v)
    (low : span.lo ≡ low_of ix s v) (high : span.hi ≡ high_of ix s v) {lag : Cost} (is-lag : lag ≡ times (t - s) wait) where
  own : (low_of ix s v ≤ high_of ix s v) × (high_of ix s v ≤ p.rows)
  own = p.indexed.order s v (omega (arith, p.before, p.day)) p.inside

  later : (low_of ix t v ≤ high_of ix t v) × (high_of ix t v ≤ p.rows)
  later = p.indexed.order t v p.day p.inside

  lag-small : Within 1000000000 lag
  lag-small = subst (Within 1000000000) (sym is-lag) (within_more ((t - s) * 60000) 1000000000 (times (t - s) wait) (omega (arith, p.day)) (within-times (t - s) 60000 wait p.waits))

  pub spans : Spans xs span lag by
  spans =
      record {
        order = omega (arith, own.0);
        upto = omega (arith, own.1, p.room);
        small = λ i l m.
            let b : i < p.rows = omega (arith, own.1) in
            row_small (row_at xs i) t (all-at Bounded xs p.rows i b p.bounded) (p.indexed.steps i b) p.day;
        lag-small = lag-small;
        by_order = omega (arith, later.0);
        by-upto = omega (arith, later.1, p.room);
      }

  pub spans-rest : (lo : ℕ) → span.lo ≤ lo → lo ≤ span.hi → Spans xs (record { lo = lo; hi = span.hi }) lag by
  spans-rest lo a b =
      record { order = b; upto = spans.upto; small = λ i l m. spans.small i (omega arith) m; lag-small = lag-small; by_order = spans.by_order; by-upto = spans.by-upto }

  -- a row of step t stands for a row of the group that it undercuts
  stands-for : (net : List ℕ) (n : ℕ) → wait ≡ wait_in net v → Settling net xs n ix t → (i : ℕ) → Undercut xs lag by i → Stands xs n ix (t + 1) v s (wait_in net v) i
  stands-for net n e a i u =
      let f = tail-find xs by.lo (by.hi - by.lo) u in
      let o = a.indexed.order t v p.day p.inside in
      let from : low_of ix t v ≤ f.at = omega (arith, f.from) in
      let upto : f.at < high_of ix t v = omega (arith, f.upto, later.0) in
      let q = a.indexed.only t v f.at p.day p.inside from upto in
      record {
        at = f.at;
        inside = omega (arith, upto, o.1);
        listed = low-row xs ix f.at t v from upto q.1 q.0;
        place = q.0;
        later = omega (arith, q.1, p.before);
        soon = omega (arith, q.1);
        least = subst (λ (x : ℕ). AtMost (row_at xs f.at).cost (add (row_at xs i).cost (times (x - s) (wait_in net v)))) (sym q.1)
            (subst (λ (w : Cost). AtMost (row_at xs f.at).cost (add (row_at xs i).cost (times (t - s) w))) e
            (subst (λ (c : Cost). AtMost (row_at xs f.at).cost (add (row_at xs i).cost c)) is-lag f.fits));
      }

  module _ {iy : List ℕ} {lo hi : ℕ} (f : FirstLive xs span lag by lo) (l : LastLive xs (record { lo = lo; hi = span.hi }) lag by hi) (g : Regrouped ix iy lo hi back s v) where
    day : s ≤ 255
    day = omega (arith, p.before, p.day)

    pub shortened : {r : Bool} → r ≡ ltb lo hi → Shortened xs v s t wait back ix iy r
    shortened {r} e =
        record {
          size = g.group.size;
          of = λ net n q a b.
              let from : low_of ix s v ≤ lo = omega (arith, f.from) in
              let upto : hi ≤ high_of ix s v = omega (arith, l.upto) in
              let dead : (i : ℕ) → i < n → low_of ix s v ≤ i → i < high_of ix s v → (i < lo) ⊎ (hi ≤ i) → Stands xs n ix (t + 1) v s (wait_in net v) i =
              λ i m x y z. stands-for net n q a i (⊎_elim (λ c. f.dead i (omega arith) c) (λ c. l.dead i c (omega arith)) z) in
              record {
                settling = settled a g day p.inside from l.from upto p.down b dead;
                fewer = fewer a g day p.inside from l.from upto p.down b dead;
                none = λ z i m k x y.
                    let c = row_low i s v k y x in
                    omega (arith, c.0, c.1, g.group.low, g.group.high, ltb-false lo hi (sym e ∙ z));
              };
        }

-- one group further back: where rows are left in it, and where none is and the group after it is pointed past it
module _ {net xs : List ℕ} {n : ℕ} {ix iy : List ℕ} {v g t back : ℕ} {wait : Cost} {r : Bool} (short : Shortened xs v g t wait back ix iy r) (price : wait ≡ wait_in net v) (inside : v < 64)
    (day : g ≤ 255) (older : Older ix g v back) (a : Settling net xs n ix t) where
  before : Begins xs n ix v g back
  before i l k p c = older-past a.indexed day inside older i l k p c

  after : ShortenedFor net xs n v g t ix iy r
  after = short.of net n price a before

  pub rows_left : Settling net xs n iy t × Begins xs n iy v g back
  rows_left = (after.settling, λ i l k p c. before i l (after.fewer i l k) p c)

  module _ {iz : List ℕ} {span : Span} {q : ℕ} (none : r ≡ false) (upto : q ≤ 255) (down : g < q) (deep : back ≤ g) (low : span.lo ≡ low_of iy q v) (high : span.hi ≡ high_of iy q v)
      (re : Regrouped iy iz span.lo span.hi back q v) (b : Begins xs n ix v q (g + 1)) where
    past : Begins xs n iy v q back
    past i l k p c =
        let f = after.fewer i l k in
        let z = b i l f p c in
        ⊎_elim (λ lt. before i l f p lt) (λ ge. absurd (after.none none i l k p (omega arith))) (lt-or-le (row_at xs i).step g)

    stays : (i : ℕ) → i < n → low_of iy q v ≤ i → i < high_of iy q v → (i < span.lo) ⊎ (span.hi ≤ i) → Stands xs n iy (t + 1) v q (wait_in net v) i
    stays i l x y z = absurd (⊎_elim (λ c. omega arith) (λ c. omega arith) z)

    pub rows_none : Settling net xs n iz t × Begins xs n iz v q back
    rows_none =
        let o = after.settling.indexed.order q v upto inside in
        let order : span.lo ≤ span.hi = omega (arith, o.0) in (
          settled after.settling re upto inside (omega arith) order (omega arith) (omega arith) past stays,
          λ i l k p c. past i l (fewer after.settling re upto inside (omega arith) order (omega arith) (omega arith) past stays i l k) p c,
        )

-- at the end of a step
pub walking-settling : {free net xs ix : List ℕ} {n v t : ℕ} → Walking free net xs n v t → IndexedShort xs n ix t t net → length xs ≤ 41943039 → Settling net xs n ix t
walking-settling {t = t} w index short =
    let y = index short in
    record {
      room = w.room;
      short = omega (arith, w.room);
      bounded = w.filled.bounded;
      indexed = y.0;
      covered = λ v l. covers-step (t + 1) (omega arith) (y.1 v l);
    }
