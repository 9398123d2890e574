-- How costs are added to the list of a place, and which of them are kept.
use Rattle.std.specs.Prelude.{◌≡◌, List, ◌⊎◌, ℕ, ◌+◌, ◌*◌, ◌≤◌, ◌<◌}
use Rattle.std.proofs.Common.{sym, ◌∙◌, subst, inl, inr, ⊎_elim, arith}
use Rattle.sheet.specs.Laws.Decided.{from-same, lt-or-le}
use Rattle.costs.specs.Costs.{Cost, figures, AtMost}
use Rattle.arrivals.specs.Rows.{Besides, FiguresPut}
use Rattle.arrivals.specs.Laws.Rows.{besides-then, besides-wide}
use Rattle.arrivals.specs.Inner.Lists.{cost_in, LedIn, RetainedOne, Among, Came, RetainedTo}
use Rattle.arrivals.specs.declared.lists.Part.{Part}

-- what holds of each number below i, and of i
pub each_more : (P : ℕ → Type 0) (i : ℕ) → ((j : ℕ) → j < i → P j) → P i → (j : ℕ) → j < i + 1 → P j
each_more P i h p j l =
    ⊎_elim (λ lt. h j lt) (λ ge. let e : i ≡ j = omega arith in subst P e p) (lt-or-le j i)

-- a cost aside of what was written
pub cost-aside : {lo hi : ℕ} {a b : List ℕ} → Besides lo hi a b → (at i : ℕ) → (at + i * 3 + 3 ≤ lo) ⊎ (hi ≤ at + i * 3)
    → cost_in b at i ≡ cost_in a at i
cost-aside {lo} {hi} {a} {b} p at i o =
    from-same figures (at + i * 3) (at + i * 3) b a
    (λ j l. p.same (at + i * 3 + j) (⊎_elim (λ m. inl (omega arith)) (λ m. inr (omega arith)) o))

-- a part that is aside of what was written leads the same costs
pub led-aside : {lo hi : ℕ} {a b : List ℕ} {p : Part} {c d : Cost} → Besides lo hi a b → hi ≤ p.at → c ≡ d → LedIn b p c → LedIn a p d
led-aside {lo} {hi} {a} {b} {p} {c} {d} w m e l =
    record {
      at = l.at;
      upto = l.upto;
      least = subst
          (λ (x : Cost). AtMost x d)
          (cost-aside w p.at l.at (inr (omega arith)))
          (subst (λ (x : Cost). AtMost (cost_in b p.at l.at) x) e l.least);
    }

module _ (live mid after : List ℕ) (at n m i k r : ℕ) (low : i < n) (p : RetainedTo live mid at n m i k) where
  -- cost i is as it was
  ahead : cost_in mid at i ≡ cost_in live at i
  ahead = cost-aside p.others at i (inr (omega arith))

  dropped : r ≡ k → after ≡ mid → LedIn mid (record { at = at + n * 3; n = m }) (cost_in mid at i) → RetainedTo live after at n m (i + 1) r
  dropped e f l =
      subst
      (λ (x : ℕ). RetainedTo live after at n m (i + 1) x)
      (sym e)
      (subst
      (λ (x : List ℕ). RetainedTo live x at n m (i + 1) k)
      (sym f)
      (record {
        most = omega (arith, p.most);
        others = besides-wide at (at + (i + 1) * 3) (omega arith) (omega arith) p.others;
        came = λ j u. let o = p.came j u in record { place = o.place; upto = omega (arith, o.upto); same = o.same };
        each = each_more
            (λ j. Among live mid at k j ⊎ LedIn live (record { at = at + n * 3; n = m }) (cost_in live at j))
            i
            p.each
            (inr (led-aside p.others (omega arith) ahead l));
      }))

  module _ (w : FiguresPut (at + k * 3) (cost_in mid at i) mid after) where
    -- the costs that were kept before stand still
    still : (j : ℕ) → j < k → cost_in after at j ≡ cost_in mid at j
    still j l = cost-aside w.others at j (inl (omega arith))

    among : (j : ℕ) → Among live mid at k j → Among live after at (k + 1) j
    among j a = record { place = a.place; upto = omega (arith, a.upto); same = still a.place a.upto ∙ a.same }

    kept : RetainedTo live after at n m (i + 1) (k + 1)
    kept =
        record {
          most = omega (arith, p.most);
          others = besides-then
              (besides-wide at (at + (i + 1) * 3) (omega arith) (omega arith) p.others)
              (besides-wide at (at + (i + 1) * 3) (omega arith) (omega (arith, p.most)) w.others);
          came = each_more
              (λ j. Came live after at (i + 1) j)
              k
              (λ j l. let o = p.came j l in record { place = o.place; upto = omega (arith, o.upto); same = still j l ∙ o.same })
              (record { place = i; upto = omega arith; same = w.figures ∙ ahead });
          each = each_more
              (λ j. Among live after at (k + 1) j ⊎ LedIn live (record { at = at + n * 3; n = m }) (cost_in live at j))
              i
              (λ j l. ⊎_elim (λ a. inl (among j a)) (λ b. inr b) (p.each j l))
              (inl (record { place = k; upto = omega arith; same = w.figures ∙ ahead }));
        }

  -- one cost more is kept or dropped
  pub retained-more : RetainedOne mid after at i k (record { at = at + n * 3; n = m }) r → RetainedTo live after at n m (i + 1) r
  retained-more o =
      ⊎_elim
      (λ d. dropped d.0 d.1 d.2)
      (λ d. subst (λ (x : ℕ). RetainedTo live after at n m (i + 1) x) (sym d.0) (kept d.1))
      o.way
