-- Which places are looked at at a step: the sets of places that are laid out beforehand, what the set of a step holds, and that at a place outside it the
-- rule spares every row.
use Rattle.std.specs.Prelude.{◌≡◌, List, Bool, true, false, ◌⊎◌, ℕ, ◌+◌, ◌≤◌, ◌<◌, ltb, length}
use Rattle.std.proofs.Common.{sym, ap, ◌∙◌, subst, inl, inr, ⊎_elim, arith, lt-ltb}
use Rattle.std.specs.Int.Bits.{bit_or}
use Rattle.sheet.specs.Lists.{pick, number, flat}
use Rattle.sheet.specs.Sheet.{Sheet}
use Rattle.sheet.specs.Laws.Decided.{lt-or-le}
use Rattle.intervals.specs.FirstSteps.{SinceTable}
use Rattle.intervals.specs.Sets.{Has, Kept, Begun}
use Rattle.intervals.specs.Laws.Sets.{has_left, has_right, has_all}
use Rattle.arrivals.specs.Rows.{Row, row_at}
use Rattle.arrivals.specs.Laws.Rows.{row_kept}
use Rattle.arrivals.specs.Inner.Rows.{rows_of, all-at}
use Rattle.arrivals.specs.Inner.Network.{link_of, count_of, dear_of, closures_of, closure_of, wait_in, since_in, case_of, Vacant}
use Rattle.arrivals.specs.Inner.Lent.{Given, Linked}
use Rattle.arrivals.specs.Inner.Entering.{Less}
use Rattle.arrivals.specs.Inner.Pruning.{Steady, steady-of}
use Rattle.arrivals.specs.Inner.Filling.{Filled, Result, Visiting, Grown}
use Rattle.arrivals.specs.Inner.Index.{Indexed, Covers}
use Rattle.arrivals.specs.Inner.Outcomes.{Outcome, StepOutcome}

-- the listed rows before step t cover the rows of every place
abbrev pub Covered : List ℕ → List ℕ → ℕ → List ℕ → ℕ → Type 0
Covered net xs n ix t = (v : ℕ) → v < 64 → Covers xs n ix t v (wait_in net v)

-- the index of the rows up to step s, of which those before step t cover them all; it is kept for tables whose rows can be numbered with 23 bits
abbrev pub IndexedShort : List ℕ → ℕ → List ℕ → ℕ → ℕ → List ℕ → Type 0
IndexedShort xs n ix s t net = length xs ≤ 41943039 → Indexed xs n ix s × Covered net xs n ix t

-- what corridor j adds to the sets
pub record LinkWatched (net : List ℕ) (j : ℕ) (xs ys : List ℕ) : Type 0 where
  pub kept : Kept xs ys
  pub onward : Has (number ys (258 + link_of net 0 j)) (link_of net 1 j)
  pub dear : (dear_of net j ≡ 0) ⊎ Has (number ys 322) (link_of net 1 j)

-- what the first m corridors add
pub record LinksWatched (net : List ℕ) (m : ℕ) (xs ys : List ℕ) : Type 0 where
  pub kept : Kept xs ys
  pub onward : (j : ℕ) → j < m → Has (number ys (258 + link_of net 0 j)) (link_of net 1 j)
  pub dear : (j : ℕ) → j < m → (dear_of net j ≡ 0) ⊎ Has (number ys 322) (link_of net 1 j)

-- what closure x adds
pub record ClosureWatched (net : List ℕ) (x : ℕ) (xs ys : List ℕ) : Type 0 where
  pub kept : Kept xs ys
  pub own : closure_of net 2 x < 256 → Has (number ys (closure_of net 2 x + 2)) (closure_of net 1 x)

-- what the first m closures add
pub record ClosuresWatched (net : List ℕ) (m : ℕ) (xs ys : List ℕ) : Type 0 where
  pub kept : Kept xs ys
  pub own : (x : ℕ) → x < m → closure_of net 2 x < 256 → Has (number ys (closure_of net 2 x + 2)) (closure_of net 1 x)

-- the sets of a network and its first steps
pub record Watching (free net sets : List ℕ) : Type 0 where
  pub size : 323 ≤ length sets
  pub begins : (v t : ℕ) → v < 64 → 1 ≤ t → t ≤ 255 → since_in free v t ≡ t → Has (number sets t) v
  pub onward : (j : ℕ) → j < count_of net → Has (number sets (258 + link_of net 0 j)) (link_of net 1 j)
  pub dear : (j : ℕ) → j < count_of net → (dear_of net j ≡ 0) ⊎ Has (number sets 322) (link_of net 1 j)
  pub reopens : (x : ℕ) → x < closures_of net → closure_of net 2 x < 256 → Has (number sets (closure_of net 2 x + 2)) (closure_of net 1 x)

-- what is asked where all rows up to step `last` are sought
pub record Searchable (free net sets : List ℕ) (last : ℕ) : Type 0 where
  pub given : Given free net
  pub day : last ≤ 255
  pub watching : Watching free net sets

-- the sets, for the first steps of a sheet
pub record Watches (s : Sheet) (net sets : List ℕ) : Type 0 where
  pub of : (free : List ℕ) → SinceTable (flat s.occupancies) free → Watching free net sets

pub watches : (s : Sheet) (net xs ys zs ws : List ℕ) → 323 ≤ length xs → Begun s xs ys → LinksWatched net (count_of net) ys zs → ClosuresWatched net (closures_of net) zs ws
    → Watches s net ws
watches s net xs ys zs ws size a b c =
    record {
      of = λ free table. record {
        size = omega (arith, a.kept.size, b.kept.size, c.kept.size);
        begins = λ v t l m n e. c.kept.more t v (b.kept.more t v (a.of free table v t l m n e));
        onward = λ j l. c.kept.more _ _ (b.onward j l);
        dear = λ j l. ⊎_elim (λ z. inl z) (λ h. inr (c.kept.more _ _ h)) (b.dear j l);
        reopens = c.own;
      };
    }

-- the set of step t
abbrev pub step_set : List ℕ → ℕ → ℕ → ℕ
step_set sets next t = bit_or (bit_or next (number sets t)) (number sets 322)

-- the set with what corridors lead to from v, if there are new rows of v
abbrev pub led_on : List ℕ → ℕ → ℕ → ℕ → ℕ → ℕ
led_on sets next v n m = pick (ltb n m) (bit_or next (number sets (258 + v))) next

-- a set holds every place that a corridor leads to from a row of the step before t; at step 1, where no departure was before, every place
pub record Onward (net xs : List ℕ) (n t next : ℕ) : Type 0 where
  pub of : (j i : ℕ) → j < count_of net → i < n → (row_at xs i).place ≡ link_of net 0 j → (row_at xs i).step + 1 ≡ t → Has next (link_of net 1 j)
  pub first : t ≡ 1 → (v : ℕ) → v < 64 → Has next v

-- what holds of a place that is not in the set of step t
pub record Lookout (free net xs : List ℕ) (n t set : ℕ) : Type 0 where
  pub begins : (v : ℕ) → v < 64 → since_in free v t ≡ t → Has set v
  pub steady : (v : ℕ) → v < 64 → (Has set v → ⊥) → Steady (case_of free net) v t
  pub onward : (j i : ℕ) → j < count_of net → i < n → (row_at xs i).place ≡ link_of net 0 j → (row_at xs i).step + 1 ≡ t → Has set (link_of net 1 j)

pub onward-all : (net xs : List ℕ) (n : ℕ) {t : ℕ} → Linked net → Onward net xs n t 18446744073709551615
onward-all net xs n linked = record { of = λ j i l m p e. has_all (link_of net 1 j) (linked.ends 1 j (omega arith) l); first = λ e v l. has_all v l }

pub lookout : (free net xs sets : List ℕ) (n t next : ℕ) → Given free net → Watching free net sets → 1 ≤ t → t ≤ 255 → Onward net xs n t next → Lookout free net xs n t (step_set sets next t)
lookout free net xs sets n t next given w first last o =
    record {
      begins = λ v l e. own v (w.begins v t l first last e);
      steady = λ v l out. ⊎_elim (λ one. absurd (out (before v (o.first (omega arith) v l)))) (λ more. covered v more out) (lt-or-le t 2);
      onward = λ j i l m p e. before (link_of net 1 j) (o.of j i l m p e);
    }
  where
    before : (v : ℕ) → Has next v → Has (step_set sets next t) v
    before v h = has_left (bit_or next (number sets t)) (number sets 322) v (has_left next (number sets t) v h)

    own : (v : ℕ) → Has (number sets t) v → Has (step_set sets next t) v
    own v h = has_left (bit_or next (number sets t)) (number sets 322) v (has_right next (number sets t) v h)

    covered : (v : ℕ) → 2 ≤ t → (Has (step_set sets next t) v → ⊥) → Steady (case_of free net) v t
    covered v more out =
        steady-of free net v t given
        (λ j l to. ⊎_elim (λ z. z) (λ h. absurd (out (has_right (bit_or next (number sets t)) (number sets 322) v (subst (Has (number sets 322)) to h)))) (w.dear j l))
        (λ x l e to. let z : closure_of net 2 x + 2 ≡ t = omega arith in out (own v (subst (λ (i : ℕ). Has (number sets i) v) z (subst (Has (number sets (closure_of net 2 x + 2))) to (w.reopens x l (omega arith))))))

-- a row below n after others were added
grown-row : {xs ys : List ℕ} {n m v t : ℕ} → Grown xs ys n m v t → (i : ℕ) → i < n → row_at ys i ≡ row_at xs i
grown-row {xs} {ys} {n} g i l = row_kept xs ys i (λ j a b. g.below j (omega arith))

pub lookout-on : {free net xs ys : List ℕ} {n m v t set : ℕ} → Grown xs ys n m v t → Lookout free net xs n t set → Lookout free net ys m t set
lookout-on {n = n} g a =
    record {
      begins = a.begins;
      steady = a.steady;
      onward = λ j i l b p e. ⊎_elim
          (λ lt. a.onward j i l lt (ap (λ (r : Row). r.place) (sym (grown-row g i lt)) ∙ p) (ap (λ (r : Row). r.step + 1) (sym (grown-row g i lt)) ∙ e))
          (λ ge. absurd (omega (arith, (g.own i ge b).1)))
          (lt-or-le i n);
    }

pub onward-on : {free net xs ys sets : List ℕ} {n m v t next : ℕ} → 1 ≤ t → Watching free net sets → Grown xs ys n m v t → Onward net xs n (t + 1) next
    → Onward net ys m (t + 1) (led_on sets next v n m)
onward-on {net = net} {sets = sets} {n = n} {m = m} {v = v} {next = next} one w g o =
    record {
      of = λ j i l b p e. ⊎_elim
          (λ lt. kept (ltb n m) (link_of net 1 j) (o.of j i l lt (ap (λ (r : Row). r.place) (sym (grown-row g i lt)) ∙ p) (ap (λ (r : Row). r.step + 1) (sym (grown-row g i lt)) ∙ e)))
          (λ ge.
          let from : link_of net 0 j ≡ v = sym p ∙ (g.own i ge b).0 in
          subst (λ (c : Bool). Has (pick c (bit_or next (number sets (258 + v))) next) (link_of net 1 j)) (sym (lt-ltb n m (omega arith)))
          (has_right next (number sets (258 + v)) (link_of net 1 j) (subst (λ (u : ℕ). Has (number sets (258 + u)) (link_of net 1 j)) from (w.onward j l))))
          (lt-or-le i n);
      first = λ e. absurd (omega arith);
    }
  where
    kept : (c : Bool) (u : ℕ) → Has next u → Has (pick c (bit_or next (number sets (258 + v))) next) u
    kept true u h = has_left next (number sets (258 + v)) u h
    kept false u h = h

-- at the beginning of step t no row is of it
pub onward-none : (free net xs : List ℕ) (n t : ℕ) → 1 ≤ t → Filled (case_of free net) (rows_of xs n) t 0 → Onward net xs n (t + 1) 0
onward-none free net xs n t one f =
    record {
      of = λ j i l b p e. absurd (⊎_elim (λ a. omega arith) (λ a. omega (arith, a.1)) (all-at (λ r. Less r.step r.place t 0) xs n i b f.keys));
      first = λ e. absurd (omega arith);
    }

-- what filling in before place v at step t leaves, and the index of the rows up to step s
pub record Stepping (free net xs ix : List ℕ) (s t v : ℕ) (o : Outcome) : Type 0 where
  pub result : Result (case_of free net) xs t v o.ok o.rows
  pub index : o.ok ≡ true → IndexedShort xs o.rows ix s t net

-- what filling in step t leaves, and the places that corridors lead to from its rows
pub record SteppedOn (free net xs ix : List ℕ) (t : ℕ) (o : StepOutcome) : Type 0 where
  pub result : Result (case_of free net) xs (t + 1) 0 o.ok o.rows
  pub index : o.ok ≡ true → IndexedShort xs o.rows ix t (t + 1) net
  pub onward : o.ok ≡ true → Onward net xs o.rows (t + 1) o.next

-- what is asked where place v is filled in at step t by the index
pub record Fast (free net xs ix : List ℕ) (n v t : ℕ) : Type 0 where
  pub visiting : Visiting free net xs n v t
  pub vacant : Vacant (case_of free net) v t
  pub indexed : Indexed xs n ix t
  pub covered : Covered net xs n ix t
