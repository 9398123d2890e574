-- The rows of a place that lead a cost, sought group by group, the newest first. Those that are not listed need not be sought: where one leads, the row that
-- covers it does.
use Rattle.std.specs.Prelude.{◌≡◌, List, Bool, ℕ, ◌+◌, ◌-◌, ◌≤◌, ◌<◌}
use Rattle.std.proofs.Common.{sym, ◌∙◌, ap, subst, ⊎_elim, arith}
use Rattle.sheet.specs.Laws.Decided.{Decided, decided-as, lt-or-le, Any, any-map, any_out}
use Rattle.costs.specs.Costs.{fig, add, times, AtMost}
use Rattle.costs.specs.Laws.Figures.{fig-add}
use Rattle.arrivals.specs.Rows.{Row, row_at}
use Rattle.arrivals.specs.Inner.Rows.{rows_of, tail_of, tail-any, tail-find, any_at, none_below}
use Rattle.arrivals.specs.Inner.Entering.{RowLeads, Led}
use Rattle.arrivals.specs.Inner.Offering.{Beaten}
use Rattle.arrivals.specs.Inner.Index.{Listed, Indexed, Cover, Covers, Older, low_of, high_of, row_low, older-past, lag-sum}

pub rest-led : (g lag rest : List ℕ) {qs : List Row} {b : Bool} → add rest lag ≡ g → Decided (Beaten qs rest) b → Decided (Any (λ q. AtMost (add q.cost lag) g) qs) b
rest-led g lag rest e d =
    let f : (i : ℕ) → fig rest i + fig lag i ≡ fig g i = λ i. sym (fig-add rest lag i) ∙ ap (λ (x : List ℕ). fig x i) e in
    decided-as (any-map (λ q l. record { every = λ i. omega (arith, f i, l.every i, fig-add q.cost lag i) })) (any-map (λ q l. record { every = λ i. omega (arith, f i, l.every i, fig-add q.cost lag i) })) d

pub lag-led : {g lag : List ℕ} {qs : List Row} → (AtMost lag g → ⊥) → Any (λ q. AtMost (add q.cost lag) g) qs → ⊥
lag-led {g} {lag} n a = any_out (λ q l. n (record { every = λ i. omega (arith, l.every i, fig-add q.cost lag i) })) a

module _ {xs : List ℕ} {n : ℕ} {ix : List ℕ} {t : ℕ} (w : Indexed xs n ix t) (s v since : ℕ) (wait g : List ℕ) (inside : v < 64) where
  abbrev pub GroupLed : List ℕ → Type 0
  GroupLed lag = Any (λ q. AtMost (add q.cost lag) g) (tail_of xs (low_of ix s v) (high_of ix s v - low_of ix s v))

  pub group-leads : (lag : List ℕ) → since ≤ s → s ≤ t → lag ≡ times (t - s) wait → GroupLed lag → Led (rows_of xs n) v t since wait g
  group-leads lag l m e a =
      let f = tail-find xs (low_of ix s v) (high_of ix s v - low_of ix s v) a in
      let b = w.order s v (omega (arith, w.now)) inside in
      let o = w.only s v f.at (omega (arith, w.now)) inside f.from (omega (arith, f.upto, b.0)) in
      any_at (RowLeads v t since wait g) xs n f.at (omega (arith, f.upto, b.0, b.1))
      (record { place = o.0; late = omega (arith, o.1); early = omega (arith, o.1); least = subst (λ (y : ℕ). AtMost (add (row_at xs f.at).cost (times (t - y) wait)) g) (sym o.1) (subst (λ (y : List ℕ). AtMost (add (row_at xs f.at).cost y) g) e f.fits) })

  pub group-not : (lag : List ℕ) → s ≤ t → lag ≡ times (t - s) wait → (GroupLed lag → ⊥) → (i : ℕ) → Listed ix xs i → (row_at xs i).place ≡ v → (row_at xs i).step ≡ s → RowLeads v t since wait g (row_at xs i) → ⊥
  group-not lag m e nn i l p q d =
      let r = row_low i s v l q p in
      let j : low_of ix s v + (i - low_of ix s v) ≡ i = omega (arith, r.0) in
      nn (tail-any _ xs (low_of ix s v) _ (i - low_of ix s v) (omega (arith, r.0, r.1)) (subst (λ (y : ℕ). AtMost (add (row_at xs y).cost lag) g) (sym j)
      (subst (λ (y : List ℕ). AtMost (add (row_at xs i).cost y) g) (sym e) (subst (λ (y : ℕ). AtMost (add (row_at xs i).cost (times (t - y) wait)) g) q d.least))))

  abbrev pub Unled : ℕ → Type 0
  Unled r = (i : ℕ) → i < n → Listed ix xs i → (row_at xs i).place ≡ v → r ≤ (row_at xs i).step → RowLeads v t since wait g (row_at xs i) → ⊥

  pub unled-more : (lag : List ℕ) (r : ℕ) → s ≤ t → lag ≡ times (t - s) wait → (GroupLed lag → ⊥) → Older ix s v r → Unled (s + 1) → Unled r
  unled-more lag r m e nn o u i l k p q d =
      ⊎_elim
      (λ lt. let z = older-past w (omega (arith, w.now)) inside o i l k p lt in omega arith)
      (λ ge. ⊎_elim (λ lt. u i l k p (omega arith) d) (λ le. group-not lag m e nn i k p (omega arith) d) (lt-or-le s (row_at xs i).step))
      (lt-or-le (row_at xs i).step s)

-- the row that covers one that leads, leads
pub cover-leads : {xs : List ℕ} {n : ℕ} {ix : List ℕ} {t v since : ℕ} {wait g : List ℕ} (j : ℕ) (k : Cover xs n ix t wait j) → RowLeads v t since wait g (row_at xs j) → RowLeads v t since wait g (row_at xs k.at)
cover-leads {xs} {n} {ix} {t} {v} {since} {wait} {g} j k d =
    let early : (row_at xs k.at).step ≤ t = ⊎_elim (λ e. omega (arith, d.early, ap (λ (i : ℕ). (row_at xs i).step) e)) (λ b. omega arith) k.soon in
    record {
      place = k.place ∙ d.place;
      late = omega (arith, d.late, k.later);
      early = early;
      least = record {
        every = λ i. omega (
          arith,
          fig-add (row_at xs k.at).cost (times (t - (row_at xs k.at).step) wait) i,
          fig-add (row_at xs j).cost (times ((row_at xs k.at).step - (row_at xs j).step) wait) i,
          fig-add (row_at xs j).cost (times (t - (row_at xs j).step) wait) i,
          lag-sum (row_at xs j).step (row_at xs k.at).step t wait i k.later early,
          k.least.every i,
          d.least.every i,
        );
      };
    }

pub unled-all : (xs : List ℕ) (n : ℕ) (ix : List ℕ) (t s v since : ℕ) (wait g : List ℕ) → Covers xs n ix t v wait → s ≤ since
    → ((i : ℕ) → i < n → Listed ix xs i → (row_at xs i).place ≡ v → s ≤ (row_at xs i).step → RowLeads v t since wait g (row_at xs i) → ⊥) → Led (rows_of xs n) v t since wait g → ⊥
unled-all xs n ix t s v since wait g c l u a =
    none_below _ xs n
    (λ j m d.
    let k = c.of j m d.place in
    let e = cover-leads j k d in
    u k.at k.inside k.listed e.place (omega (arith, e.late)) e)
    a

-- the rows of a span that is a group's
pub span-as : {P : Row → Type 0} (xs : List ℕ) (a b c d : ℕ) {r : Bool} → a ≡ c → b ≡ d → Decided (Any P (tail_of xs a (b - a))) r → Decided (Any P (tail_of xs c (d - c))) r
span-as {P} xs a b c d {r} e f x = subst (λ (n : ℕ). Decided (Any P (tail_of xs c (n - c))) r) f (subst (λ (n : ℕ). Decided (Any P (tail_of xs n (b - n))) r) e x)
