-- Where the rows of each step and place stand: for place v, at v, one more than the last step at which v has rows; for step s and place v, at
-- group_at s v, the first row; next to it the row past the last, times 512, and one more than the last step before s at which v has rows. So the
-- steps up to s take the first room_of s numbers. Rows for which a later row of their place stands may be left out: Covers says for which (document 02, E8;
-- the search: live rows).
use Rattle.std.specs.Prelude.{◌≡◌, refl, List, ◌⊎◌, ℕ, ◌+◌, ◌*◌, ◌-◌, ◌/◌, ◌%◌, ◌≤◌, ◌<◌, length, get_or, set, replicate}
use Rattle.std.proofs.Common.{sym, ap, ap₂, ◌∙◌, subst, inl, inr, ⊎_elim, arith, add-mul, length-set, get_or-set_same, get_or-set_other}
use Rattle.std.proofs.Math.Decide.{ℕ_discrete}
use Rattle.std.proofs.lemmas.List.{length-replicate}
use Rattle.sheet.specs.Laws.Decided.{lt-or-le, In}
use Rattle.costs.specs.Costs.{Cost, fig, add, times, AtMost}
use Rattle.costs.specs.Laws.Figures.{fig-add, fig-times}
use Rattle.arrivals.specs.Rows.{Row, row_at}
use Rattle.arrivals.specs.Laws.Rows.{row_kept}
use Rattle.arrivals.specs.Inner.Rows.{rows_of, rows-find, zeros-at}
use Rattle.arrivals.specs.Inner.Filling.{Grown}

-- how many numbers the places and the steps up to s take
abbrev pub room_of : ℕ → ℕ
room_of s = 64 + (s + 1) * 128

-- where the numbers of step s and place v stand
abbrev pub group_at : ℕ → ℕ → ℕ
group_at s v = 64 + (s * 64 + v) * 2

abbrev pub newest_of : List ℕ → ℕ → ℕ
newest_of ix v = get_or ix v 0

abbrev pub low_of : List ℕ → ℕ → ℕ → ℕ
low_of ix s v = get_or ix (group_at s v) 0

abbrev pub high_of : List ℕ → ℕ → ℕ → ℕ
high_of ix s v = get_or ix (group_at s v + 1) 0 / 512

abbrev pub back_of : List ℕ → ℕ → ℕ → ℕ
back_of ix s v = get_or ix (group_at s v + 1) 0 % 512

-- row i, which is r, is one of its group as the index has it
abbrev pub InGroup : List ℕ → ℕ → Row → Type 0
InGroup ix i r = (low_of ix r.step r.place ≤ i) × (i < high_of ix r.step r.place)

pub record Listed (ix xs : List ℕ) (i : ℕ) : Type 0 where
  pub group : InGroup ix i (row_at xs i)

pub record Indexed (xs : List ℕ) (n : ℕ) (ix : List ℕ) (t : ℕ) : Type 0 where
  pub size : room_of t ≤ length ix
  pub now : t ≤ 255
  pub places : (i : ℕ) → i < n → (row_at xs i).place < 64
  pub steps : (i : ℕ) → i < n → (row_at xs i).step ≤ t
  pub order : (s v : ℕ) → s ≤ 255 → v < 64 → (low_of ix s v ≤ high_of ix s v) × (high_of ix s v ≤ n)
  pub only : (s v i : ℕ) → s ≤ 255 → v < 64 → low_of ix s v ≤ i → i < high_of ix s v → ((row_at xs i).place ≡ v) × ((row_at xs i).step ≡ s)
  pub newest : (i : ℕ) → i < n → (row_at xs i).step < newest_of ix (row_at xs i).place
  pub latest : (v : ℕ) → v < 64 → newest_of ix v ≤ t + 1
  pub back : (i j : ℕ) → i < n → j < n → Listed ix xs i → Listed ix xs j → (row_at xs i).place ≡ (row_at xs j).place → (row_at xs i).step < (row_at xs j).step
      → (row_at xs i).step < back_of ix (row_at xs j).step (row_at xs j).place
  pub down : (s v : ℕ) → s ≤ 255 → v < 64 → back_of ix s v ≤ s

-- row `at` is listed, and a cart that arrives with it is nowhere dearer off, from its step on, than one that has waited from row i at cost w a step; before
-- step t it is there
pub record Cover (xs : List ℕ) (n : ℕ) (ix : List ℕ) (t : ℕ) (w : Cost) (i : ℕ) : Type 0 where
  pub at : ℕ
  pub inside : at < n
  pub listed : Listed ix xs at
  pub place : (row_at xs at).place ≡ (row_at xs i).place
  pub later : (row_at xs i).step ≤ (row_at xs at).step
  pub soon : (at ≡ i) ⊎ ((row_at xs at).step < t)
  pub least : AtMost (row_at xs at).cost (add (row_at xs i).cost (times ((row_at xs at).step - (row_at xs i).step) w))

-- some listed row covers each row of place v, where waiting costs w
pub record Covers (xs : List ℕ) (n : ℕ) (ix : List ℕ) (t v : ℕ) (w : Cost) : Type 0 where
  pub of : (i : ℕ) → i < n → (row_at xs i).place ≡ v → Cover xs n ix t w i

-- the step past the rows of v before step s, as far as the index shows
abbrev pub Older : List ℕ → ℕ → ℕ → ℕ → Type 0
Older ix s v r = ((low_of ix s v < high_of ix s v) × (r ≡ back_of ix s v)) ⊎ (r ≡ s)

pub older-most : {xs : List ℕ} {n : ℕ} {ix : List ℕ} {t s v r : ℕ} → Indexed xs n ix t → s ≤ 255 → v < 64 → Older ix s v r → r ≤ s
older-most {xs} {n} {ix} {t} {s} {v} w l m (inl e) = omega (arith, e.1, w.down s v l m)
older-most w l m (inr e) = omega arith

-- the group of a row that is listed, and the other way round
pub row_low : {xs ix : List ℕ} (i s v : ℕ) → Listed ix xs i → (row_at xs i).step ≡ s → (row_at xs i).place ≡ v → (low_of ix s v ≤ i) × (i < high_of ix s v)
row_low {xs} {ix} i s v l e f =
    subst (λ (y : ℕ). (low_of ix y v ≤ i) × (i < high_of ix y v)) e (subst (λ (y : ℕ). (low_of ix (row_at xs i).step y ≤ i) × (i < high_of ix (row_at xs i).step y)) f l.group)

pub low-row : (xs ix : List ℕ) (i s v : ℕ) → low_of ix s v ≤ i → i < high_of ix s v → (row_at xs i).step ≡ s → (row_at xs i).place ≡ v → Listed ix xs i
low-row xs ix i s v l h e f =
    record { group = subst (λ (y : ℕ). (low_of ix (row_at xs i).step y ≤ i) × (i < high_of ix (row_at xs i).step y)) (sym f) (subst (λ (y : ℕ). (low_of ix y v ≤ i) × (i < high_of ix y v)) (sym e) (l, h)) }

pub older-past : {xs : List ℕ} {n : ℕ} {ix : List ℕ} {t s v r : ℕ} → Indexed xs n ix t → s ≤ 255 → v < 64 → Older ix s v r
    → (i : ℕ) → i < n → Listed ix xs i → (row_at xs i).place ≡ v → (row_at xs i).step < s → (row_at xs i).step < r
older-past {xs} {n} {ix} {t} {s} {v} {r} w l m (inl e) i u g p q =
    let j = low_of ix s v in
    let o = w.only s v j l m (omega arith) e.0 in
    let b = w.order s v l m in
    let z = w.back i j u (omega (arith, e.0, b.1)) g (low-row xs ix j s v (omega arith) e.0 o.1 o.0) (p ∙ sym o.0) (omega (arith, o.1)) in
    omega (arith, e.1, subst (λ (y : ℕ). (row_at xs i).step < back_of ix y v) o.1 (subst (λ (y : ℕ). (row_at xs i).step < back_of ix (row_at xs j).step y) o.0 z))
older-past w l m (inr e) i u g p q = omega arith

pub row-newest : {xs : List ℕ} {n : ℕ} {ix : List ℕ} {t : ℕ} → Indexed xs n ix t → (i v : ℕ) → i < n → (row_at xs i).place ≡ v → (row_at xs i).step < newest_of ix v
row-newest {xs} {n} {ix} w i v l f = subst (λ (y : ℕ). (row_at xs i).step < newest_of ix y) f (w.newest i l)

pub indexed-kept : {xs ys : List ℕ} {n : ℕ} {ix : List ℕ} {t : ℕ} → ((j : ℕ) → j < n * 5 → get_or ys j 0 ≡ get_or xs j 0) → Indexed xs n ix t → Indexed ys n ix t
indexed-kept {xs} {ys} {n} {ix} {t} same w =
    record {
      size = w.size;
      now = w.now;
      order = w.order;
      latest = w.latest;
      down = w.down;
      places = λ i l. subst (λ (r : Row). r.place < 64) (e i l) (w.places i l);
      steps = λ i l. subst (λ (r : Row). r.step ≤ t) (e i l) (w.steps i l);
      only = λ s v i a b c d. let o = w.order s v a b in subst (λ (r : Row). (r.place ≡ v) × (r.step ≡ s)) (e i (omega (arith, o.1, d))) (w.only s v i a b c d);
      newest = λ i l. subst (λ (r : Row). r.step < newest_of ix r.place) (e i l) (w.newest i l);
      back = λ i j l m g h. subst (λ (q : Row). InGroup ix i (row_at ys i) → InGroup ix j q → (row_at ys i).place ≡ q.place → (row_at ys i).step < q.step → (row_at ys i).step < back_of ix q.step q.place) (e j m)
          (subst (λ (r : Row). InGroup ix i r → InGroup ix j (row_at xs j) → r.place ≡ (row_at xs j).place → r.step < (row_at xs j).step → r.step < back_of ix (row_at xs j).step (row_at xs j).place) (e i l) (λ a b. w.back i j l m (record { group = a }) (record { group = b }))) g.group h.group;
    }
  where
    e : (i : ℕ) → i < n → row_at xs i ≡ row_at ys i
    e i l = sym (row_kept xs ys i (λ j a b. same j (omega arith)))

pub row-newest-in : {xs : List ℕ} {n : ℕ} {ix : List ℕ} {t : ℕ} → Indexed xs n ix t → (r : Row) → In r (rows_of xs n) → r.step < newest_of ix r.place
row-newest-in {xs} {n} {ix} w r m = let f = rows-find xs n m in subst (λ (q : Row). q.step < newest_of ix q.place) f.fits (w.newest f.at (omega (arith, f.upto)))

pub none_after : {xs : List ℕ} {n : ℕ} {ix : List ℕ} {t : ℕ} → Indexed xs n ix t → (u f : ℕ) → newest_of ix u ≤ f → (r : Row) → In r (rows_of xs n) → r.place ≡ u → r.step < f
none_after {xs} {n} {ix} w u f l r m e = omega (arith, subst (λ (v : ℕ). r.step < newest_of ix v) e (row-newest-in w r m))

-- the group of step s and place v becomes the rows from lo to hi, and those of v before it begin below step b; no other group is changed
pub record Grouped (ix iy : List ℕ) (lo hi b s v : ℕ) : Type 0 where
  pub size : length iy ≡ length ix
  pub low : low_of iy s v ≡ lo
  pub high : high_of iy s v ≡ hi
  pub back : back_of iy s v ≡ b
  pub lows : (r u : ℕ) → r ≤ 255 → u < 64 → (r ≡ s → u ≡ v → ⊥) → low_of iy r u ≡ low_of ix r u
  pub highs : (r u : ℕ) → r ≤ 255 → u < 64 → (r ≡ s → u ≡ v → ⊥) → high_of iy r u ≡ high_of ix r u
  pub backs : (r u : ℕ) → r ≤ 255 → u < 64 → (r ≡ s → u ≡ v → ⊥) → back_of iy r u ≡ back_of ix r u

-- the same, and nothing else is changed
pub record Regrouped (ix iy : List ℕ) (lo hi b s v : ℕ) : Type 0 where
  pub group : Grouped ix iy lo hi b s v
  pub rest : (j : ℕ) → j < 64 → get_or iy j 0 ≡ get_or ix j 0

-- the same, as the newest rows of v
pub record Noted (ix iy : List ℕ) (lo hi s v b : ℕ) : Type 0 where
  pub group : Grouped ix iy lo hi b s v
  pub newest : newest_of iy v ≡ s + 1
  pub newests : (u : ℕ) → u < 64 → (u ≡ v → ⊥) → newest_of iy u ≡ newest_of ix u

pub record NotedAs (ix iy : List ℕ) (lo hi s v : ℕ) : Type 0 where
  pub last : ℕ
  pub most : last ≤ s
  pub past : (newest_of ix v ≤ last) ⊎ (last ≡ s)
  pub noted : Noted ix iy lo hi s v last

-- the numbers of two groups are apart
pub odd_even : (a b : ℕ) → 64 + a * 2 + 1 ≡ 64 + b * 2 → ⊥
odd_even a b e = omega arith

pub one-group : (r u s v : ℕ) → u < 64 → v < 64 → r * 64 + u ≡ s * 64 + v → (r ≡ s) × (u ≡ v)
one-group r u s v l m e = (omega arith, omega arith)

-- regrouped after the newest step of v is noted
pub noted : (ix iy : List ℕ) (lo hi b s v : ℕ) → v < 64 → 64 ≤ length ix → Regrouped (set ix v (s + 1)) iy lo hi b s v → Noted ix iy lo hi s v b
noted ix iy lo hi b s v m size d =
    record {
      group = record {
        size = d.group.size ∙ length-set ix v (s + 1);
        low = d.group.low;
        high = d.group.high;
        back = d.group.back;
        lows = λ r u a c n. d.group.lows r u a c n ∙ other (group_at r u) (omega arith);
        highs = λ r u a c n. d.group.highs r u a c n ∙ ap (λ (x : ℕ). x / 512) (other (group_at r u + 1) (omega arith));
        backs = λ r u a c n. d.group.backs r u a c n ∙ ap (λ (x : ℕ). x % 512) (other (group_at r u + 1) (omega arith));
      };
      newest = d.rest v m ∙ get_or-set_same ix v (s + 1) 0 (omega arith);
      newests = λ u c n. d.rest u c ∙ get_or-set_other ix v u (s + 1) 0 n;
    }
  where
    other : (j : ℕ) → 64 ≤ j → get_or (set ix v (s + 1)) j 0 ≡ get_or ix j 0
    other j l = get_or-set_other ix v j (s + 1) 0 (λ e. omega arith)

-- a row covers itself, where it is listed
pub cover-own : {xs : List ℕ} {n : ℕ} {ix : List ℕ} {t : ℕ} {w : Cost} (i : ℕ) → i < n → Listed ix xs i → Cover xs n ix t w i
cover-own {xs} {w = w} i l g =
    record {
      at = i;
      inside = l;
      listed = g;
      place = refl;
      later = omega arith;
      soon = inl refl;
      least = record { every = λ j. omega (arith, fig-add (row_at xs i).cost (times ((row_at xs i).step - (row_at xs i).step) w) j) };
    }

module _ (xs ys : List ℕ) (n m : ℕ) (ix iy : List ℕ) (t v b : ℕ) (w : Indexed xs n ix t) (g : Grown xs ys n m v t) (inside : v < 64) (fresh : (i : ℕ) → i < n → (row_at xs i).place ≡ v → (row_at xs i).step < t) (d : Noted ix iy n m t v b) (bt : b ≤ t) (bn : (newest_of ix v ≤ b) ⊎ (b ≡ t)) where
  same_row : (i : ℕ) → i < n → row_at xs i ≡ row_at ys i
  same_row i l = sym (row_kept xs ys i (λ j a c. g.below j (omega arith)))

  old-step : (i : ℕ) → i < n → (row_at ys i).place ≡ v → (row_at ys i).step < t
  old-step i l p = subst (λ (r : Row). r.step < t) (same_row i l) (fresh i l (ap (λ (r : Row). r.place) (same_row i l) ∙ p))

  old-place : (i : ℕ) → i < n → (row_at ys i).place < 64
  old-place i l = subst (λ (r : Row). r.place < 64) (same_row i l) (w.places i l)

  old-late : (i : ℕ) → i < n → (row_at ys i).step ≤ t
  old-late i l = subst (λ (r : Row). r.step ≤ t) (same_row i l) (w.steps i l)

  split : {P : ℕ → Type 0} → ((i : ℕ) → i < n → P i) → ((i : ℕ) → n ≤ i → i < m → P i) → (i : ℕ) → i < m → P i
  split f h i l = ⊎_elim (λ lt. f i lt) (λ ge. h i ge l) (lt-or-le i n)

  key : (s u : ℕ) → ((s ≡ t) × (u ≡ v)) ⊎ (s ≡ t → u ≡ v → ⊥)
  key s u = go (ℕ_discrete s t) (ℕ_discrete u v)
    where
      go : Dec (s ≡ t) → Dec (u ≡ v) → ((s ≡ t) × (u ≡ v)) ⊎ (s ≡ t → u ≡ v → ⊥)
      go (yes p) (yes q) = inl (p, q)
      go (no p) q = inr (λ e f. p e)
      go (yes p) (no q) = inr (λ e f. q f)

  abbrev At : (ℕ → ℕ → Type 0) → ℕ → Type 0
  At Q i = Q (row_at ys i).step (row_at ys i).place

  own_key : (Q : ℕ → ℕ → Type 0) (i : ℕ) → n ≤ i → i < m → Q t v → At Q i
  own_key Q i l u q = let o = g.own i l u in subst (λ (y : ℕ). Q y (row_at ys i).place) (sym o.1) (subst (λ (y : ℕ). Q t y) (sym o.0) q)

  not-here : (i : ℕ) → i < n → (row_at ys i).step ≡ t → (row_at ys i).place ≡ v → ⊥
  not-here i l e f = let z = old-step i l f in omega arith

  not-order : (s u : ℕ) → s ≤ 255 → u < 64 → ((s ≡ t) × (u ≡ v)) ⊎ (s ≡ t → u ≡ v → ⊥) → (low_of iy s u ≤ high_of iy s u) × (high_of iy s u ≤ m)
  not-order s u a c (inl e) = subst (λ (y : ℕ). (low_of iy y u ≤ high_of iy y u) × (high_of iy y u ≤ m)) (sym e.0) (subst (λ (y : ℕ). (low_of iy t y ≤ high_of iy t y) × (high_of iy t y ≤ m)) (sym e.1) (omega (arith, d.group.low, d.group.high, g.more), omega (arith, d.group.high)))
  not-order s u a c (inr e) = let o = w.order s u a c in let x = d.group.lows s u a c e in let y = d.group.highs s u a c e in (omega (arith, o.0), omega (arith, o.1, g.more))

  only_at : (s u i : ℕ) → s ≤ 255 → u < 64 → low_of iy s u ≤ i → i < high_of iy s u → ((s ≡ t) × (u ≡ v)) ⊎ (s ≡ t → u ≡ v → ⊥) → ((row_at ys i).place ≡ u) × ((row_at ys i).step ≡ s)
  only_at s u i a c l h (inl e) =
      let l' = subst (λ (y : ℕ). low_of iy t y ≤ i) e.1 (subst (λ (y : ℕ). low_of iy y u ≤ i) e.0 l) in
      let h' = subst (λ (y : ℕ). i < high_of iy t y) e.1 (subst (λ (y : ℕ). i < high_of iy y u) e.0 h) in
      let o = g.own i (omega (arith, l', d.group.low)) (omega (arith, h', d.group.high)) in
      (o.0 ∙ sym e.1, o.1 ∙ sym e.0)
  only_at s u i a c l h (inr e) =
      let x = d.group.lows s u a c e in let y = d.group.highs s u a c e in
      let o = w.order s u a c in
      subst (λ (r : Row). (r.place ≡ u) × (r.step ≡ s)) (same_row i (omega (arith, o.1))) (w.only s u i a c (omega arith) (omega arith))

  latest-at : (u : ℕ) → u < 64 → Dec (u ≡ v) → newest_of iy u ≤ t + 1
  latest-at u c (yes e) = subst (λ (y : ℕ). newest_of iy y ≤ t + 1) (sym e) (omega (arith, d.newest))
  latest-at u c (no e) = omega (arith, d.newests u c e, w.latest u c)

  newest-at : (i : ℕ) → i < n → Dec ((row_at ys i).place ≡ v) → (row_at ys i).step < newest_of iy (row_at ys i).place
  newest-at i l (yes e) = subst (λ (y : ℕ). (row_at ys i).step < newest_of iy y) (sym e) (omega (arith, d.newest, old-late i l))
  newest-at i l (no e) = omega (arith, d.newests (row_at ys i).place (old-place i l) e, subst (λ (r : Row). r.step < newest_of ix r.place) (same_row i l) (w.newest i l))

  back-own : (i : ℕ) → i < n → (row_at ys i).place ≡ v → (row_at ys i).step < back_of iy t v
  back-own i l p =
      let z = row-newest w i v l (ap (λ (r : Row). r.place) (same_row i l) ∙ p) in
      let z' = subst (λ (r : Row). r.step < newest_of ix v) (same_row i l) z in
      let q = old-step i l p in
      ⊎_elim (λ x. omega (arith, d.group.back)) (λ x. omega (arith, d.group.back)) bn

  -- an old row is listed as it was
  old-listed : (i : ℕ) → i < n → Listed iy ys i → Listed ix xs i
  old-listed i l g =
      let a : (row_at ys i).step ≤ 255 = omega (arith, old-late i l, w.now) in
      let x = d.group.lows (row_at ys i).step (row_at ys i).place a (old-place i l) (not-here i l) in
      let y = d.group.highs (row_at ys i).step (row_at ys i).place a (old-place i l) (not-here i l) in
      record { group = subst (InGroup ix i) (sym (same_row i l)) (omega (arith, g.group.0), omega (arith, g.group.1)) }

  listed-old : (i : ℕ) → i < n → Listed ix xs i → Listed iy ys i
  listed-old i l g =
      let a : (row_at ys i).step ≤ 255 = omega (arith, old-late i l, w.now) in
      let x = d.group.lows (row_at ys i).step (row_at ys i).place a (old-place i l) (not-here i l) in
      let y = d.group.highs (row_at ys i).step (row_at ys i).place a (old-place i l) (not-here i l) in
      let h = subst (InGroup ix i) (same_row i l) g.group in
      record { group = (omega (arith, h.0), omega (arith, h.1)) }

  listed-new : (i : ℕ) → n ≤ i → i < m → Listed iy ys i
  listed-new i l u = record { group = (own_key (λ s w. low_of iy s w ≤ i) i l u (omega (arith, d.group.low)), own_key (λ s w. i < high_of iy s w) i l u (omega (arith, d.group.high))) }

  back_at : (i j : ℕ) → i < m → j < m → Listed iy ys i → Listed iy ys j → (row_at ys i).place ≡ (row_at ys j).place → (row_at ys i).step < (row_at ys j).step
      → (row_at ys i).step < back_of iy (row_at ys j).step (row_at ys j).place
  back_at i j l u gi gj p q =
      ⊎_elim
      (λ lt.
      let i-old : i < n = ⊎_elim (λ x. x) (λ x. let o = g.own i x l in absurd (omega (arith, o.1, old-late j lt))) (lt-or-le i n) in
      omega (
        arith,
        d.group.backs (row_at ys j).step (row_at ys j).place (omega (arith, old-late j lt, w.now)) (old-place j lt) (not-here j lt),
        subst (λ (r : Row). (row_at ys i).step < back_of ix r.step r.place) (same_row j lt)
            (subst (λ (r : Row). r.step < back_of ix (row_at xs j).step (row_at xs j).place) (same_row i i-old)
            (w.back i j i-old lt (old-listed i i-old gi) (old-listed j lt gj) (ap (λ (r : Row). r.place) (same_row i i-old) ∙ p ∙ sym (ap (λ (r : Row). r.place) (same_row j lt)))
            (subst (λ (r : Row). (row_at xs i).step < r.step) (sym (same_row j lt)) (subst (λ (r : Row). r.step < (row_at ys j).step) (sym (same_row i i-old)) q)))),
      ))
      (λ ge.
      let o = g.own j ge u in
      let i-old : i < n = ⊎_elim (λ x. x) (λ x. let y = g.own i x l in absurd (omega (arith, o.1, y.1))) (lt-or-le i n) in
      own_key (λ s w. (row_at ys i).step < back_of iy s w) j ge u (back-own i i-old (p ∙ o.0)))
      (lt-or-le j n)

  pub covers_more : {u : ℕ} {c : Cost} → Covers xs n ix t u c → Covers ys m iy t u c
  covers_more {u} {c} f = record { of = split (λ i l p. old i l (f.of i l (ap (λ (r : Row). r.place) (same_row i l) ∙ p))) (λ i l b p. cover-own i b (listed-new i l b)) }
    where
      old : (i : ℕ) → i < n → Cover xs n ix t c i → Cover ys m iy t c i
      old i l k =
          let e = same_row i l in
          let h = same_row k.at k.inside in
          record {
            at = k.at;
            inside = omega (arith, k.inside, g.more);
            listed = listed-old k.at k.inside k.listed;
            place = sym (ap (λ (r : Row). r.place) h) ∙ k.place ∙ ap (λ (r : Row). r.place) e;
            later = omega (arith, k.later, ap (λ (r : Row). r.step) h, ap (λ (r : Row). r.step) e);
            soon = ⊎_elim (λ q. inl q) (λ q. inr (omega (arith, q, ap (λ (r : Row). r.step) h))) k.soon;
            least = subst (λ (r : Row). AtMost r.cost (add (row_at ys i).cost (times (r.step - (row_at ys i).step) c))) h
                (subst (λ (r : Row). AtMost (row_at xs k.at).cost (add r.cost (times ((row_at xs k.at).step - r.step) c))) e k.least);
          }

  pub indexed-more : Indexed ys m iy t
  indexed-more =
      record {
        size = omega (arith, d.group.size, w.size);
        now = w.now;
        places = split old-place (λ i l u. let o = g.own i l u in omega (arith, o.0));
        steps = split old-late (λ i l u. let o = g.own i l u in omega (arith, o.1));
        order = λ s u a c. not-order s u a c (key s u);
        only = λ s u i a c l h. only_at s u i a c l h (key s u);
        newest = split (λ i l. newest-at i l (ℕ_discrete (row_at ys i).place v)) (λ i l u. own_key (λ s w. s < newest_of iy w) i l u (omega (arith, d.newest)));
        latest = λ u c. latest-at u c (ℕ_discrete u v);
        back = back_at;
        down = λ s u a c. ⊎_elim (λ e. subst (λ (y : ℕ). back_of iy y u ≤ y) (sym e.0) (subst (λ (y : ℕ). back_of iy t y ≤ t) (sym e.1) (omega (arith, d.group.back)))) (λ e. omega (arith, d.group.backs s u a c e, w.down s u a c)) (key s u);
      }

pub indexed-step : {xs : List ℕ} {n : ℕ} {ix : List ℕ} {t : ℕ} (u : ℕ) → t ≤ u → u ≤ 255 → room_of u ≤ length ix → Indexed xs n ix t → Indexed xs n ix u
indexed-step u l m size w =
    record { size = size; now = m; places = w.places; steps = λ i b. omega (arith, w.steps i b); order = w.order; only = w.only; newest = w.newest; latest = λ v b. omega (arith, w.latest v b); back = w.back; down = w.down }

pub indexed-none : (xs : List ℕ) (n t : ℕ) → room_of t ≤ n → t ≤ 255 → Indexed xs 0 (replicate n 0) t
indexed-none xs n t l m =
    record {
      size = omega (arith, length-replicate {A = ℕ} n 0);
      now = m;
      places = λ i b. absurd (omega arith);
      steps = λ i b. absurd (omega arith);
      order = λ s v a b. (omega (arith, zeros-at n (group_at s v)), omega (arith, zeros-at n (group_at s v + 1)));
      only = λ s v i a b c d. absurd (omega (arith, zeros-at n (group_at s v + 1)));
      newest = λ i b. absurd (omega arith);
      latest = λ v b. omega (arith, zeros-at n v);
      back = λ i j b. absurd (omega arith);
      down = λ s v a b. omega (arith, zeros-at n (group_at s v + 1));
    }

-- what covers a row covers it at a later step, and after cells that are no row's are changed
pub covers-step : {xs : List ℕ} {n : ℕ} {ix : List ℕ} {t v : ℕ} {w : Cost} (u : ℕ) → t ≤ u → Covers xs n ix t v w → Covers xs n ix u v w
covers-step u l f =
    record {
      of = λ i b p.
          let k = f.of i b p in
          record { at = k.at; inside = k.inside; listed = k.listed; place = k.place; later = k.later; soon = ⊎_elim (λ q. inl q) (λ q. inr (omega arith)) k.soon; least = k.least };
    }

pub covers_kept : {xs ys : List ℕ} {n : ℕ} {ix : List ℕ} {t v : ℕ} {w : Cost} → ((j : ℕ) → j < n * 5 → get_or ys j 0 ≡ get_or xs j 0) → Covers xs n ix t v w → Covers ys n ix t v w
covers_kept {xs} {ys} {n} {ix} {t} {v} {w} same f = record { of = λ i l p. old i l (f.of i l (ap (λ (r : Row). r.place) (e i l) ∙ p)) }
  where
    e : (i : ℕ) → i < n → row_at xs i ≡ row_at ys i
    e i l = sym (row_kept xs ys i (λ j a b. same j (omega arith)))

    old : (i : ℕ) → i < n → Cover xs n ix t w i → Cover ys n ix t w i
    old i l k =
        let h = e k.at k.inside in
        record {
          at = k.at;
          inside = k.inside;
          listed = record { group = subst (InGroup ix k.at) h k.listed.group };
          place = sym (ap (λ (r : Row). r.place) h) ∙ k.place ∙ ap (λ (r : Row). r.place) (e i l);
          later = omega (arith, k.later, ap (λ (r : Row). r.step) h, ap (λ (r : Row). r.step) (e i l));
          soon = ⊎_elim (λ q. inl q) (λ q. inr (omega (arith, q, ap (λ (r : Row). r.step) h))) k.soon;
          least = subst (λ (r : Row). AtMost r.cost (add (row_at ys i).cost (times (r.step - (row_at ys i).step) w))) h
              (subst (λ (r : Row). AtMost (row_at xs k.at).cost (add r.cost (times ((row_at xs k.at).step - r.step) w))) (e i l) k.least);
        }

-- waiting on is waiting from one row to the next and from there on
pub lag-sum : (a b c : ℕ) (w : Cost) (i : ℕ) → a ≤ b → b ≤ c → fig (times (c - a) w) i ≡ fig (times (b - a) w) i + fig (times (c - b) w) i
lag-sum a b c w i l m =
    let e : c - a ≡ (b - a) + (c - b) = omega arith in
    fig-times (c - a) w i ∙ ap (λ (n : ℕ). n * fig w i) e ∙ add-mul (b - a) (c - b) (fig w i) ∙ sym (ap₂ (λ (x y : ℕ). x + y) (fig-times (b - a) w i) (fig-times (c - b) w i))
