-- How the list of a place is settled: costs are moved down one after another, the numbers before the lists are written, and what that makes of the list of
-- the place, whether its old costs count or not; and how the places of a set are settled one after another.
use Rattle.std.specs.Prelude.{◌≡◌, List, ◌⊎◌, ℕ, ◌+◌, ◌*◌, ◌-◌, ◌≤◌, ◌<◌, get_or}
use Rattle.std.proofs.Common.{sym, ap, ◌∙◌, subst, inl, inr, ⊎_elim, arith}
use Rattle.sheet.specs.Lists.{numbers_from}
use Rattle.sheet.specs.Laws.Decided.{from-same, lt-or-le}
use Rattle.intervals.specs.Sets.{Has}
use Rattle.costs.specs.Costs.{Cost, figures, AtMost}
use Rattle.arrivals.specs.Rows.{Besides}
use Rattle.arrivals.specs.Laws.Rows.{besides-then, besides-wide}
use Rattle.arrivals.specs.Inner.Network.{since_in}
use Rattle.arrivals.specs.Inner.Lists.{past_of, size_of, new_of, list_at, cost_in, entry, LedIn, Under, Among, Retained, Shifted, Headed}
use Rattle.arrivals.specs.Inner.Lists.{Kept, Origin, Settled, SameAt, SettledOne, Settleable, AllSettleable, SettledTo}

-- three numbers in a row, where they begin told in another way
cost-as : (live : List ℕ) (p q : ℕ) → p ≡ q → numbers_from figures p live ≡ numbers_from figures q live
cost-as live p q e = ap (λ (x : ℕ). numbers_from figures x live) e

-- three numbers in a row that are not written
cost-kept : {lo hi : ℕ} {a b : List ℕ} (p : ℕ) → Besides lo hi a b → (p + 3 ≤ lo) ⊎ (hi ≤ p) → numbers_from figures p b ≡ numbers_from figures p a
cost-kept {lo} {hi} {a} {b} p w o =
    from-same figures p p b a (λ j l. w.same (p + j) (⊎_elim (λ m. inl (omega arith)) (λ m. inr (omega arith)) o))

-- the lists stay as they are
head-cost : {a b : List ℕ} {v p n f : ℕ} (k : ℕ) → v < 64 → 256 ≤ k → Headed a b v p n f → numbers_from figures k b ≡ numbers_from figures k a
head-cost {a} {b} k low far h = from-same figures k k b a (λ j l. h.others (k + j) (λ e. omega arith) (λ e. omega arith) (λ e. omega arith))

-- where the list of one place is written and the numbers before the lists, the other places are the same
apart : {live a b : List ℕ} {v p n f : ℕ} → v < 64 → Besides (list_at v) (list_at v + 510) live a → Headed a b v p n f → (w : ℕ) → w < 64 → (w ≡ v → ⊥)
    → SameAt live b w
apart {live} {a} {b} {v} low m h w l ne =
    record {
      past = h.others w ne (λ e. omega arith) (λ e. omega arith) ∙ m.same w (inl (omega arith));
      size = h.others (64 + w) (λ e. omega arith) (λ e. ne (omega arith)) (λ e. omega arith) ∙ m.same (64 + w) (inl (omega arith));
      fresh = h.others (128 + w) (λ e. omega arith) (λ e. omega arith) (λ e. ne (omega arith)) ∙ m.same (128 + w) (inl (omega arith));
      new = h.others (192 + w) (λ e. omega arith) (λ e. omega arith) (λ e. omega arith) ∙ m.same (192 + w) (inl (omega arith));
      list = λ j o. h.others (list_at w + j) (λ e. omega arith) (λ e. omega arith) (λ e. omega arith) ∙ m.same (list_at w + j) (side j o);
    }
  where
    side : (j : ℕ) → j < 510 → (list_at w + j < list_at v) ⊎ (list_at v + 510 ≤ list_at w + j)
    side j o =
        ⊎_elim
        (λ lt. inl (omega arith))
        (λ ge. ⊎_elim (λ lt. inr (omega arith)) (λ le. absurd (ne (omega arith))) (lt-or-le v w))
        (lt-or-le w v)

-- the old costs of a place count no more: the new ones are moved down over them
pub settled-anew : {live a b : List ℕ} {v s t at n m : ℕ} → v < 64 → Settleable live v → at ≡ list_at v → n ≡ size_of live v → n + m ≡ new_of live v
    → past_of live v ≤ s → Shifted live a (at + n * 3) at m → Headed a b v (t + 1) m 0 → SettledOne live b v s t
settled-anew {live} {a} {b} {v} {s} {t} {at} {n} {m} low ok ea en em past sh h =
    record {
      size = h.length ∙ sh.others.size;
      own = record {
        past = h.past;
        few = omega (arith, h.size, em);
        fresh = omega (arith, h.fresh);
        origin = λ i l.
            record {
              at = n + i;
              upto = omega (arith, h.size, em);
              old = λ o. absurd (omega (arith, en));
              same = moved i (n + i) (omega arith) (omega (arith, h.size));
            };
        new = λ j l u.
            record {
              at = j - n;
              from = omega (arith, h.fresh);
              upto = omega (arith, h.size, em, en);
              same = moved (j - n) j (omega (arith, en)) (omega (arith, en, em));
            };
        old = λ l. absurd (omega arith);
      };
      others = apart low (besides-wide (list_at v) (list_at v + 510) (omega (arith, ea)) (omega (arith, ea, em, ok.few)) sh.others) h;
    }
  where
    moved : (i j : ℕ) → n + i ≡ j → i < m → entry b v i ≡ entry live v j
    moved i j e l =
        head-cost (list_at v + i * 3) low (omega arith) h
        ∙ cost-as a (list_at v + i * 3) (at + i * 3) (omega (arith, ea))
        ∙ sh.each i l
        ∙ cost-as live (at + n * 3 + i * 3) (list_at v + j * 3) (omega (arith, ea, e))

-- the old costs of a place count: those that no new one undercuts are kept, and the new ones are moved down behind them
pub settled_on : {live a b d : List ℕ} {v s t at n m k : ℕ} → v < 64 → Settleable live v → at ≡ list_at v → n ≡ size_of live v → n + m ≡ new_of live v
    → s < past_of live v → Retained live a at n m k → Shifted a b (at + n * 3) (at + k * 3) m → Headed b d v (t + 1) (k + m) k → SettledOne live d v s t
settled_on {live} {a} {b} {d} {v} {s} {t} {at} {n} {m} {k} low ok ea en em past re sh h =
    record {
      size = h.length ∙ sh.others.size ∙ re.others.size;
      own = record {
        past = h.past;
        few = omega (arith, h.size, em, re.most);
        fresh = omega (arith, h.fresh, h.size);
        origin = λ i l. ⊎_elim (λ o. origin-old i o) (λ o. origin-new i o (omega (arith, h.size))) (lt-or-le i k);
        new = λ j l u.
            record {
              at = k + (j - n);
              from = omega (arith, h.fresh);
              upto = omega (arith, h.size, em, en);
              same = moved (j - n) (k + (j - n)) j (omega arith) (omega (arith, en)) (omega (arith, en, em));
            };
        old = λ l j o. ⊎_elim (λ x. inl (among j x)) (λ x. inr (under j x)) (re.each j (omega (arith, en)));
      };
      others = apart low (besides-then
          (besides-wide (list_at v) (list_at v + 510) (omega (arith, ea)) (omega (arith, ea, em, ok.few)) re.others)
          (besides-wide (list_at v) (list_at v + 510) (omega (arith, ea)) (omega (arith, ea, em, ok.few)) sh.others)) h;
    }
  where
    moved : (i q j : ℕ) → k + i ≡ q → n + i ≡ j → i < m → entry d v q ≡ entry live v j
    moved i q j x y l =
        head-cost (list_at v + q * 3) low (omega arith) h
        ∙ cost-as b (list_at v + q * 3) (at + k * 3 + i * 3) (omega (arith, ea, x))
        ∙ sh.each i l
        ∙ cost-kept (at + n * 3 + i * 3) re.others (inr (omega arith))
        ∙ cost-as live (at + n * 3 + i * 3) (list_at v + j * 3) (omega (arith, ea, y))

    stays : (i : ℕ) → i < k → entry d v i ≡ cost_in a at i
    stays i l =
        head-cost (list_at v + i * 3) low (omega arith) h
        ∙ cost-as b (list_at v + i * 3) (at + i * 3) (omega (arith, ea))
        ∙ cost-kept (at + i * 3) sh.others (inl (omega arith))

    old-cost : (j : ℕ) → cost_in live at j ≡ entry live v j
    old-cost j = cost-as live (at + j * 3) (list_at v + j * 3) (omega (arith, ea))

    origin-old : (i : ℕ) → i < k → Origin live d v s i
    origin-old i o =
        let r = re.came i o in
        record { at = r.place; upto = omega (arith, r.upto, em); old = λ x. past; same = stays i o ∙ r.same ∙ old-cost r.place }

    origin-new : (i : ℕ) → k ≤ i → i < k + m → Origin live d v s i
    origin-new i o l =
        record {
          at = n + (i - k);
          upto = omega (arith, em);
          old = λ x. past;
          same = moved (i - k) i (n + (i - k)) (omega arith) (omega arith) (omega arith);
        }

    among : (j : ℕ) → Among live a at k j → Kept live d v 0 (size_of d v) j
    among j x =
        record { at = x.place; from = omega arith; upto = omega (arith, x.upto, h.size); same = stays x.place x.upto ∙ x.same ∙ old-cost j }

    under : (j : ℕ) → LedIn live (record { at = at + n * 3; n = m }) (cost_in live at j) → Under live v (size_of live v) (new_of live v) (entry live v j)
    under j x =
        let q : ℕ = x.at in
        let e : cost_in live (at + n * 3) q ≡ entry live v (n + q) = cost-as live (at + n * 3 + q * 3) (list_at v + (n + q) * 3) (omega (arith, ea)) in
        record {
          at = n + q;
          from = omega (arith, en);
          upto = omega (arith, x.upto, em);
          least = subst (λ (c : Cost). AtMost c (entry live v j)) e (subst (AtMost (cost_in live (at + n * 3) q)) (old-cost j) x.least);
        }

pub same_then : {a b c : List ℕ} {v : ℕ} → SameAt a b v → SameAt b c v → SameAt a c v
same_then x y =
    record {
      past = y.past ∙ x.past;
      size = y.size ∙ x.size;
      fresh = y.fresh ∙ x.fresh;
      new = y.new ∙ x.new;
      list = λ j l. y.list j l ∙ x.list j l;
    }

same-entry : {a b : List ℕ} (v i : ℕ) → SameAt a b v → i < 170 → entry b v i ≡ entry a v i
same-entry {a} {b} v i x l =
    from-same figures (list_at v + i * 3) (list_at v + i * 3) b a (λ j o.
    ap (λ (p : ℕ). get_or b p 0) (spot j) ∙ x.list (i * 3 + j) (omega arith) ∙ ap (λ (p : ℕ). get_or a p 0) (sym (spot j)))
  where
    spot : (j : ℕ) → list_at v + i * 3 + j ≡ list_at v + (i * 3 + j)
    spot j = omega arith

-- a list that is settled stays so where its place is the same after and before
settled-kept : {live a b : List ℕ} {v s t : ℕ} → new_of live v ≤ 170 → SameAt a b v → Settled live a v s t → Settled live b v s t
settled-kept {live} {a} {b} {v} {s} {t} few x y =
    record {
      past = x.past ∙ y.past;
      few = omega (arith, x.size, y.few);
      fresh = omega (arith, x.size, x.fresh, y.fresh);
      origin = λ i l.
          let o = y.origin i (omega (arith, x.size)) in
          record { at = o.at; upto = o.upto; old = o.old; same = same-entry v i x (omega (arith, x.size, y.few)) ∙ o.same };
      new = λ j l u.
          let k = y.new j l u in
          record {
            at = k.at;
            from = omega (arith, x.fresh, k.from);
            upto = omega (arith, x.size, k.upto);
            same = same-entry v k.at x (omega (arith, y.few, k.upto)) ∙ k.same;
          };
      old = λ l j o. ⊎_elim (λ k. inl (kept j k)) (λ u. inr u) (y.old l j o);
    }
  where
    kept : (j : ℕ) → Kept live a v 0 (size_of a v) j → Kept live b v 0 (size_of b v) j
    kept j k =
        record {
          at = k.at;
          from = omega arith;
          upto = omega (arith, x.size, k.upto);
          same = same-entry v k.at x (omega (arith, y.few, k.upto)) ∙ k.same;
        }

settled-from : {live a b : List ℕ} {v s t : ℕ} → Settleable live v → SameAt live a v → Settled a b v s t → Settled live b v s t
settled-from {live} {a} {b} {v} {s} {t} ok x y =
    record {
      past = y.past;
      few = omega (arith, x.new, y.few);
      fresh = y.fresh;
      origin = λ i l.
          let o = y.origin i l in
          let u : o.at < new_of live v = omega (arith, x.new, o.upto) in
          record {
            at = o.at;
            upto = u;
            old = λ q. let p : s < past_of a v = o.old (omega (arith, x.size)) in omega (arith, x.past);
            same = o.same ∙ same-entry v o.at x (omega (arith, ok.few));
          };
      new = λ j l u. kept j (omega (arith, ok.few)) (y.new j (omega (arith, x.size)) (omega (arith, x.new)));
      old = λ l j o.
          ⊎_elim
          (λ k. inl (kept j (omega (arith, ok.order, ok.few)) k))
          (λ u. inr (under j (omega (arith, ok.order, ok.few)) u))
          (y.old (omega (arith, x.past)) j (omega (arith, x.size)));
    }
  where
    kept : {f m : ℕ} (j : ℕ) → j < 170 → Kept a b v f m j → Kept live b v f m j
    kept j l k = record { at = k.at; from = k.from; upto = k.upto; same = k.same ∙ same-entry v j x l }

    under : (j : ℕ) → j < 170 → Under a v (size_of a v) (new_of a v) (entry a v j) → Under live v (size_of live v) (new_of live v) (entry live v j)
    under j l u =
        let q : ℕ = u.at in
        let e : entry a v q ≡ entry live v q = same-entry v q x (omega (arith, x.new, u.upto, ok.few)) in
        record {
          at = q;
          from = omega (arith, x.size, u.from);
          upto = omega (arith, x.new, u.upto);
          least = subst (λ (c : Cost). AtMost c (entry live v j)) e (subst (AtMost (entry a v q)) (same-entry v j x l) u.least);
        }

-- the places from u to x are not in the set
pub settled-past : {free live after : List ℕ} {set u t : ℕ} (x : ℕ) → u ≤ x → ((w : ℕ) → u ≤ w → w < x → Has set w → ⊥)
    → SettledTo free live after set u t → SettledTo free live after set x t
settled-past {u = u} x le none y =
    record {
      size = y.size;
      done = λ v l m h. ⊎_elim (λ lt. y.done v lt m h) (λ ge. absurd (none v ge l h)) (lt-or-le v u);
      others = λ v m n. y.others v m (λ l h. n (omega arith) h);
    }

-- the place that is found is in the set
pub has_of : {set w : ℕ} → w < 64 → Has set w ⊎ (64 ≤ w) → Has set w
has_of low o = ⊎_elim (λ h. h) (λ far. absurd (omega arith)) o

-- the next place of the set is settled
pub settled-more : {free live a b : List ℕ} {set places t : ℕ} (w : ℕ) → w < places → w < 64 → Has set w → AllSettleable live set places
    → SettledTo free live a set w t → SettledOne a b w (since_in free w t) t → SettledTo free live b set (w + 1) t
settled-more {free} {live} {a} {b} {set} {places} {t} w low l h all y one =
    record {
      size = one.size ∙ y.size;
      done = λ v m o g.
          ⊎_elim
          (λ lt. settled-kept (all.each v (omega arith) g).few (one.others v o (λ e. omega (arith, e))) (y.done v lt o g))
          (λ ge. let e : w ≡ v = omega arith in subst (λ (x : ℕ). Settled live b x (since_in free x t) t) e own)
          (lt-or-le v w);
      others = λ v o n.
          same_then (y.others v o (λ m g. n (omega arith) g)) (one.others v o (λ e. n (omega (arith, e)) (subst (Has set) (sym e) h)));
    }
  where
    own : Settled live b w (since_in free w t) t
    own = settled-from (all.each w low h) (y.others w l (λ m g. omega arith)) one.own
