-- Laws of the first, the single and the last steps of loops of the search: nothing done yet, one item, row or cost more, and all of them done; and of
-- stores of a few numbers one after another. The check finds them by itself where a function needs them, or the library does what the loop did, so that no
-- function cites them, but for those of rows moved and numbers shifted (proofs/lists/shift).
-- Assumes nothing.
use Rattle.std.specs.Prelude.{◌≡◌, refl, Bool, true, List, ◌⊎◌, ℕ, ◌+◌, ◌*◌, ◌/◌, ◌%◌, ◌≤◌, ◌<◌, length, get_or, set}
use Rattle.std.proofs.Common.{sym, ap, ◌∙◌, subst, inl, inr, ⊎_elim, arith, length-set, get_or-set_same, get_or-set_other}
use Rattle.std.proofs.Math.Decide.{ℕ_discrete}
use Rattle.sheet.specs.Lists.{number}
use Rattle.sheet.specs.Laws.Decided.{lt-or-le}
use Rattle.intervals.specs.Sets.{Has}
use Rattle.intervals.specs.Laws.Sets.{kept-none, kept_on}
use Rattle.costs.specs.Costs.{Cost, add, AtMost}
use Rattle.arrivals.specs.Rows.{row_at, cost_at, Besides, FiguresPut, Put}
use Rattle.arrivals.specs.Laws.Rows.{row-path, besides-then, besides-wide}
use Rattle.arrivals.specs.Inner.Network.{Cheap, wait_in, link_of, link_at, into_of, dear_of, closure_of}
use Rattle.arrivals.specs.Inner.Chains.{Chain, by_place, by_cell, Chained, Passed, last_of, next_of, key_of, past_of, Outside, key-kept, chained_with}
use Rattle.arrivals.specs.Inner.Laying.{ChainedMore, NotedTo, WeighedTo, Counted}
use Rattle.arrivals.specs.Inner.Due.{LinkWatched, LinksWatched, ClosureWatched, ClosuresWatched}
use Rattle.arrivals.specs.Inner.Lists.{cost_in, LedIn, Appended, RetainedTo, Shifted, Headed, SameAt, Settleable, AllSettleable, SettledTo}
use Rattle.arrivals.specs.Inner.Keeping.{each_more, cost-aside}
use Rattle.arrivals.specs.Inner.Index.{Indexed, Regrouped, room_of, group_at, odd_even, one-group}
use Rattle.arrivals.specs.Inner.Renoting.{First, Same, StepNoted, Noting}
use Rattle.arrivals.specs.Inner.Offering.{Swept}
use Rattle.arrivals.specs.declared.lists.Part.{Part}

pub besides-none : (lo hi : ℕ) (a : List ℕ) → Besides lo hi a a
besides-none lo hi a = record { size = refl; same = λ i o. refl }

pub besides-set : (lo hi : ℕ) (a : List ℕ) (i x : ℕ) → lo ≤ i → i < hi → Besides lo hi a (set a i x)
besides-set lo hi a i x l m = record { size = length-set a i x; same = λ j o. get_or-set_other a i j x 0 (λ e. ⊎_elim (λ b. omega arith) (λ b. omega arith) o) }

-- the two numbers of a row's head, then its figures
pub put-set : (xs ys : List ℕ) (n p s : ℕ) (g : List ℕ) → n * 5 + 5 ≤ length xs
    → FiguresPut (n * 5 + 2) g (set (set xs (n * 5) p) (n * 5 + 1) s) ys → Put xs ys n (record { place = p; step = s; cost = g })
put-set xs ys n p s g room w =
    record {
      below = λ j l. w.others.same j (inl (omega arith)) ∙ head j (λ e. omega arith) (λ e. omega arith);
      above = λ j l. w.others.same j (inr (omega arith)) ∙ head j (λ e. omega arith) (λ e. omega arith);
      row = row-path
          (w.others.same (n * 5) (inl (omega arith)) ∙ get_or-set_other (set xs (n * 5) p) (n * 5 + 1) (n * 5) s 0 (λ e. omega arith)
          ∙ get_or-set_same xs (n * 5) p 0 (omega arith))
          (w.others.same (n * 5 + 1) (inl (omega arith)) ∙ get_or-set_same (set xs (n * 5) p) (n * 5 + 1) s 0 (simp length-set (omega arith)))
          w.figures;
    }
  where
    head : (j : ℕ) → (j ≡ n * 5 → ⊥) → (j ≡ n * 5 + 1 → ⊥) → get_or (set (set xs (n * 5) p) (n * 5 + 1) s) j 0 ≡ get_or xs j 0
    head j a b = get_or-set_other (set xs (n * 5) p) (n * 5 + 1) j s 0 b ∙ get_or-set_other xs (n * 5) j p 0 a

pub passed_first : {k : Chain} {net : List ℕ} {m : ℕ} (v : ℕ) {P : ℕ → Type 0} {r : ℕ} → Chained k net m → v < k.keys → r ≡ last_of k net v
    → Passed k net m v P r
passed_first v w l e = record { most = omega (arith, e, w.heads v l); none = λ i a b c p. w.head v i l (omega (arith, e)) b c }

pub chained-none : (k : Chain) (net : List ℕ) → ((i : ℕ) → k.first ≤ i → i < past_of k → get_or net i 0 ≡ 0) → Chained k net 0
chained-none k net zeros =
    record {
      head = λ v j b x y z. absurd (omega arith);
      heads = λ v b. omega (arith, zeros (k.first + v) (omega arith) (omega arith));
      next = λ i j b x y z. absurd (omega arith);
      nexts = λ j b. absurd (omega arith);
    }

-- one item more, of key v
module _ (k : Chain) (net : List ℕ) (v m : ℕ) (is : v ≡ key_of k net m) (few : m < 256) (size : past_of k ≤ length net) (inside : v < k.keys)
    (apart : Outside k k.first (past_of k)) (w : Chained k net m) where
  abbrev one : List ℕ
  one = set net (k.first + k.keys + m) (last_of k net v)

  abbrev both : List ℕ
  both = chained_with k.first k.keys net v m

  same : (j : ℕ) → (j ≡ k.first + k.keys + m → ⊥) → (j ≡ k.first + v → ⊥) → get_or both j 0 ≡ get_or net j 0
  same j n o = get_or-set_other one (k.first + v) j (m + 1) 0 o ∙ get_or-set_other net (k.first + k.keys + m) j (last_of k net v) 0 n

  pub chained-besides : Besides k.first (past_of k) net (chained_with k.first k.keys net v m)
  chained-besides =
      record {
        size = simp length-set;
        same = λ i o. ⊎_elim (λ l. same i (λ e. omega arith) (λ e. omega arith)) (λ l. same i (λ e. omega arith) (λ e. omega arith)) o;
      }

  key : (j : ℕ) → j < 256 → key_of k both j ≡ key_of k net j
  key j l = key-kept k apart chained-besides j l

  new-head : last_of k both v ≡ m + 1
  new-head = get_or-set_same one (k.first + v) (m + 1) 0 (simp length-set (omega arith))

  new-next : next_of k both m ≡ last_of k net v
  new-next =
      get_or-set_other one (k.first + v) (k.first + k.keys + m) (m + 1) 0 (λ e. omega arith)
      ∙ get_or-set_same net (k.first + k.keys + m) (last_of k net v) 0 (omega arith)

  old-next : (j : ℕ) → j < m → next_of k both j ≡ next_of k net j
  old-next j l = same (k.first + k.keys + j) (λ e. omega arith) (λ e. omega arith)

  old-head : (u : ℕ) → u < k.keys → (u ≡ v → ⊥) → last_of k both u ≡ last_of k net u
  old-head u l n = same (k.first + u) (λ e. omega arith) (λ e. n (omega arith))

  abbrev Heads : ℕ → Type 0
  Heads u = (last_of k both u ≤ m + 1) × ((j : ℕ) → last_of k both u ≤ j → j < m + 1 → key_of k both j ≡ u → ⊥)

  heads-at : (u : ℕ) → u < k.keys → Dec (u ≡ v) → Heads u
  heads-at u l (yes e) = subst Heads (sym e) (omega (arith, new-head), λ j x y z. omega (arith, new-head))
  heads-at u l (no n) = (
    omega (arith, old-head u l n, w.heads u l),
    λ j x y z. ⊎_elim
        (λ lt. w.head u j l (omega (arith, old-head u l n)) lt (sym (key j (omega arith)) ∙ z))
        (λ ge. n (sym z ∙ key j (omega arith) ∙ ap (key_of k net) (let e : j ≡ m = omega arith in e) ∙ sym is))
        (lt-or-le j m),
  )

  pub chained_more : Chained k (chained_with k.first k.keys net v m) (m + 1)
  chained_more =
      record {
        head = λ u j b x y z. (heads-at u b (ℕ_discrete u v)).1 j x y z;
        heads = λ u b. (heads-at u b (ℕ_discrete u v)).0;
        next = λ i j b x y z. ⊎_elim
            (λ lt. w.next i j lt (omega (arith, old-next j lt)) y (sym (key i (omega arith)) ∙ z ∙ key j (omega arith)))
            (λ ge. let e : j ≡ m = omega arith in
            w.head v i inside (omega (arith, new-next, subst (λ (n : ℕ). next_of k both n ≤ i) e x)) (omega arith)
            (sym (key i (omega arith)) ∙ z ∙ key j (omega arith) ∙ ap (key_of k net) e ∙ sym is))
            (lt-or-le j m);
        nexts = λ j b. ⊎_elim
            (λ lt. omega (arith, old-next j lt, w.nexts j lt))
            (λ ge. let e : m ≡ j = omega arith in subst (λ (n : ℕ). next_of k both n ≤ n) e (omega (arith, new-next, w.heads v inside)))
            (lt-or-le j m);
      }

chained-step : (k : Chain) (a b : List ℕ) (v m : ℕ) → Outside k k.first (past_of k) → v ≡ key_of k a m → m < 256 → past_of k ≤ length a → v < k.keys
    → Chained k a m → b ≡ chained_with k.first k.keys a v m → ChainedMore k m a b
chained-step k a b v m apart is few size inside w e =
    subst (ChainedMore k m a) (sym e)
    (record { chained = chained_more k a v m is few size inside apart w; others = chained-besides k a v m is few size inside apart w })

pub link-chained : (q : ℕ) (a b : List ℕ) (v m : ℕ) → q < 2 → v ≡ link_of a q m → m < 256 → 4484 ≤ length a → v < 64 → Chained (by_place q) a m
    → b ≡ chained_with (192 + q * 320) 64 a v m → ChainedMore (by_place q) m a b
link-chained q a b v m two is few size inside w e =
    chained-step (by_place q) a b v m (λ j l. (inr (omega arith), inr (omega arith))) is few (omega arith) inside w e

pub closure-chained : (a b : List ℕ) (v m : ℕ) → v ≡ key_of by_cell a m → m < 256 → 4484 ≤ length a → v < 1024 → Chained by_cell a m
    → b ≡ chained_with 2436 1024 a v m → ChainedMore by_cell m a b
closure-chained a b v m is few size inside w e = chained-step by_cell a b v m (λ j l. (inr (omega arith), inr (omega arith))) is few (omega arith) inside w e

pub note-besides : (a : List ℕ) (v : ℕ) → v < 64 → Besides 2116 2180 a (set a (2116 + v) 1)
note-besides a v l =
    record {
      size = length-set a (2116 + v) 1;
      same = λ i o. get_or-set_other a (2116 + v) i 1 0 (λ e. ⊎_elim (λ h. omega arith) (λ h. omega arith) o);
    }

pub noted_more : (a : List ℕ) (x : ℕ) → x < 256 → 4484 ≤ length a → ((y : ℕ) → y ≤ x → closure_of a 1 y < 64) → NotedTo a x
    → NotedTo (set a (2116 + closure_of a 1 x) 1) (x + 1)
noted_more a x few size inside t =
    record {
      noted = λ y l z. ⊎_elim
          (λ lt. old y lt (ℕ_discrete (closure_of a 1 y) (closure_of a 1 x)) (moved y z))
          (λ ge. let e : y ≡ x = omega arith in omega (arith, own, subst (λ (i : ℕ). into_of b (closure_of a 1 i) ≡ 0) e (moved y z)))
          (lt-or-le y x);
    }
  where
    b : List ℕ
    b = set a (2116 + closure_of a 1 x) 1

    others : Besides 2116 2180 a b
    others = note-besides a (closure_of a 1 x) (inside x (omega arith))

    own : into_of b (closure_of a 1 x) ≡ 1
    own = get_or-set_same a (2116 + closure_of a 1 x) 1 0 (omega (arith, inside x (omega arith)))

    moved : (y : ℕ) → into_of b (closure_of b 1 y) ≡ 0 → into_of b (closure_of a 1 y) ≡ 0
    moved y z = subst (λ (v : ℕ). into_of b v ≡ 0) (others.same (3716 + y * 3 + 1) (inr (omega arith))) z

    old : (y : ℕ) → y < x → Dec (closure_of a 1 y ≡ closure_of a 1 x) → into_of b (closure_of a 1 y) ≡ 0 → ⊥
    old y l (yes e) z = omega (arith, own, subst (λ (v : ℕ). into_of b v ≡ 0) e z)
    old y l (no n) z = t.noted y l (sym (get_or-set_other a (2116 + closure_of a 1 x) (2116 + closure_of a 1 y) 1 0 (λ e. n (omega arith))) ∙ z)

pub weighed-cheap : (a : List ℕ) (j : ℕ) → Cheap (wait_in a) (link_at a j) → WeighedTo a j → WeighedTo a (j + 1)
weighed-cheap a j c w = record { cheap = λ i l z. at i l (λ lt. w.cheap i lt z) }
  where
    at : (i : ℕ) → i < j + 1 → (i < j → Cheap (wait_in a) (link_at a i)) → Cheap (wait_in a) (link_at a i)
    at i l f = ⊎_elim f (λ ge. let e : j ≡ i = omega arith in subst (λ (n : ℕ). Cheap (wait_in a) (link_at a n)) e c) (lt-or-le i j)

pub cheap-of : (net : List ℕ) (j to from : ℕ) (a b : Cost) → to ≡ link_of net 1 j → from ≡ link_of net 0 j → a ≡ wait_in net to
    → b ≡ wait_in net from → AtMost a b → Cheap (wait_in net) (link_at net j)
cheap-of net j to from a b e f x y l =
    subst (λ (c : Cost). AtMost c (wait_in net (link_of net 0 j))) (x ∙ ap (wait_in net) e) (subst (AtMost a) (y ∙ ap (wait_in net) f) l)

pub counted : (m p s x : ℕ) (a : List ℕ) → 4484 ≤ length a → Counted m p s x a (set (set (set (set a 2112 m) 2113 p) 2114 s) 2115 x)
counted m p s x a size =
    record {
      count = get_or-set_other c 2115 2112 x 0 (λ e. omega arith) ∙ get_or-set_other b 2114 2112 s 0 (λ e. omega arith)
          ∙ get_or-set_other (set a 2112 m) 2113 2112 p 0 (λ e. omega arith) ∙ get_or-set_same a 2112 m 0 (omega arith);
      places = get_or-set_other c 2115 2113 x 0 (λ e. omega arith) ∙ get_or-set_other b 2114 2113 s 0 (λ e. omega arith)
          ∙ get_or-set_same (set a 2112 m) 2113 p 0 (simp length-set (omega arith));
      start = get_or-set_other c 2115 2114 x 0 (λ e. omega arith) ∙ get_or-set_same b 2114 s 0 (simp length-set (omega arith));
      closures = get_or-set_same c 2115 x 0 (simp length-set (omega arith));
      others = record {
        size = simp length-set;
        same = λ i o.
            let n : (j : ℕ) → 2112 ≤ j → j < 2116 → i ≡ j → ⊥ = λ j y z e. ⊎_elim (λ l. omega arith) (λ l. omega arith) o in
            get_or-set_other c 2115 i x 0 (n 2115 (omega arith) (omega arith)) ∙ get_or-set_other b 2114 i s 0 (n 2114 (omega arith) (omega arith))
            ∙ get_or-set_other (set a 2112 m) 2113 i p 0 (n 2113 (omega arith) (omega arith))
            ∙ get_or-set_other a 2112 i m 0 (n 2112 (omega arith) (omega arith));
      };
    }
  where
    b : List ℕ
    b = set (set a 2112 m) 2113 p

    c : List ℕ
    c = set b 2114 s

pub links-none : (net xs : List ℕ) → LinksWatched net 0 xs xs
links-none net xs = record { kept = kept-none xs; onward = λ j l. absurd (omega arith); dear = λ j l. absurd (omega arith) }

pub links-more : (net : List ℕ) (m : ℕ) (xs ys zs : List ℕ) → LinksWatched net m xs ys → LinkWatched net m ys zs → LinksWatched net (m + 1) xs zs
links-more net m xs ys zs a b =
    record { kept = kept_on a.kept b.kept; onward = λ j l. onward j l (ℕ_discrete j m); dear = λ j l. dear j l (ℕ_discrete j m) }
  where
    onward : (j : ℕ) → j < m + 1 → Dec (j ≡ m) → Has (number zs (258 + link_of net 0 j)) (link_of net 1 j)
    onward j l (yes e) = subst (λ (i : ℕ). Has (number zs (258 + link_of net 0 i)) (link_of net 1 i)) (sym e) b.onward
    onward j l (no e) = b.kept.more _ _ (a.onward j (omega arith))

    dear : (j : ℕ) → j < m + 1 → Dec (j ≡ m) → (dear_of net j ≡ 0) ⊎ Has (number zs 322) (link_of net 1 j)
    dear j l (yes e) = subst (λ (i : ℕ). (dear_of net i ≡ 0) ⊎ Has (number zs 322) (link_of net 1 i)) (sym e) b.dear
    dear j l (no e) = ⊎_elim (λ z. inl z) (λ h. inr (b.kept.more _ _ h)) (a.dear j (omega arith))

pub closures-none : (net xs : List ℕ) → ClosuresWatched net 0 xs xs
closures-none net xs = record { kept = kept-none xs; own = λ x l. absurd (omega arith) }

pub closures-more : (net : List ℕ) (m : ℕ) (xs ys zs : List ℕ) → ClosuresWatched net m xs ys → ClosureWatched net m ys zs → ClosuresWatched net (m + 1) xs zs
closures-more net m xs ys zs a b = record { kept = kept_on a.kept b.kept; own = λ x l. own x l (ℕ_discrete x m) }
  where
    own : (x : ℕ) → x < m + 1 → Dec (x ≡ m) → closure_of net 2 x < 256 → Has (number zs (closure_of net 2 x + 2)) (closure_of net 1 x)
    own x l (yes e) = subst (λ (i : ℕ). closure_of net 2 i < 256 → Has (number zs (closure_of net 2 i + 2)) (closure_of net 1 i)) (sym e) b.own
    own x l (no e) = λ c. b.kept.more _ _ (a.own x (omega arith) c)

-- the same figures, otherwise said
pub figures-as : {at : ℕ} {c d : Cost} {a b : List ℕ} → c ≡ d → FiguresPut at c a b → FiguresPut at d a b
figures-as e w = record { others = w.others; figures = w.figures ∙ e }

pub appended-none : (xs : List ℕ) (from : ℕ) (live : List ℕ) (at : ℕ) (rest : Cost) → Appended xs from 0 live live at rest
appended-none xs from live at rest = record { others = besides-none _ _ _; each = λ i l. absurd (omega arith) }

pub appended-more : (xs : List ℕ) (from i : ℕ) (live mid after : List ℕ) (at : ℕ) (rest : Cost) → Appended xs from i live mid at rest
    → FiguresPut (at + i * 3) (add (cost_at xs (from + i)) rest) mid after → Appended xs from (i + 1) live after at rest
appended-more xs from i live mid after at rest p w =
    record {
      others = besides-then
          (besides-wide at (at + (i + 1) * 3) (omega arith) (omega arith) p.others)
          (besides-wide at (at + (i + 1) * 3) (omega arith) (omega arith) w.others);
      each = each_more
          (λ j. cost_in after at j ≡ add (cost_at xs (from + j)) rest)
          i
          (λ j l. cost-aside w.others at j (inl (omega arith)) ∙ p.each j l)
          w.figures;
    }

pub appended-end : (xs : List ℕ) (from i d : ℕ) (live after : List ℕ) (at : ℕ) (rest : Cost) → i ≤ d → d ≤ i → Appended xs from i live after at rest
    → Appended xs from d live after at rest
appended-end xs from i d live after at rest l m p = let e : i ≡ d = omega arith in subst (λ (n : ℕ). Appended xs from n live after at rest) e p

-- a part leads the same cost, otherwise said
pub led-as : {live : List ℕ} {p : Part} {c d : Cost} → c ≡ d → LedIn live p c → LedIn live p d
led-as {live} {p} e l = subst (λ (x : Cost). LedIn live p x) e l

pub retained-none : (live : List ℕ) (at n m : ℕ) → RetainedTo live live at n m 0 0
retained-none live at n m =
    record { most = omega arith; others = besides-none _ _ _; came = λ j l. absurd (omega arith); each = λ j l. absurd (omega arith) }

pub retained-end : (live after : List ℕ) (at n m i k : ℕ) → i ≤ n → n ≤ i → RetainedTo live after at n m i k → RetainedTo live after at n m n k
retained-end live after at n m i k l h p = let e : i ≡ n = omega arith in subst (λ (j : ℕ). RetainedTo live after at n m j k) e p

-- the first i of the costs from number `from` on are moved down to number `to`
pub record Moved (live after : List ℕ) (from to i : ℕ) : Type 0 where
  pub others : Besides to (to + i * 3) live after
  pub each : (j : ℕ) → j < i → cost_in after to j ≡ cost_in live from j

pub moved_none : (live : List ℕ) (from to : ℕ) → Moved live live from to 0
moved_none live from to = record { others = besides-none _ _ _; each = λ j l. absurd (omega arith) }

pub moved_more : {live a b : List ℕ} {from to i : ℕ} {c : Cost} → to ≤ from → Moved live a from to i → c ≡ cost_in a from i → FiguresPut (to + i * 3) c a b
    → Moved live b from to (i + 1)
moved_more {live} {a} {b} {from} {to} {i} {c} le m e put =
    record {
      others = besides-then
          (besides-wide to (to + (i + 1) * 3) (omega arith) (omega arith) m.others)
          (besides-wide to (to + (i + 1) * 3) (omega arith) (omega arith) put.others);
      each = each_more
          (λ j. cost_in b to j ≡ cost_in live from j)
          i
          (λ j l. cost-aside put.others to j (inl (omega arith)) ∙ m.each j l)
          (put.figures ∙ e ∙ cost-aside m.others from i (inr (omega arith)));
    }

pub moved_all : {live after : List ℕ} {from to i n : ℕ} → to ≤ from → i ≤ n → n ≤ i → Moved live after from to i → Shifted live after from to n
moved_all {live} {after} {from} {to} {i} {n} le a b m =
    record { others = besides-wide to (from + n * 3) (omega arith) (omega arith) m.others; each = λ j l. m.each j (omega arith) }

pub shifted_none : (live : List ℕ) (from to n : ℕ) → from ≡ to → Shifted live live from to n
shifted_none live from to n e = record { others = besides-none _ _ _; each = λ i l. ap (λ (k : ℕ). cost_in live k i) (sym e) }

-- the three numbers of a place before the lists are stored one after another
pub headed-set : (live : List ℕ) (v p n f : ℕ) → v < 64 → 256 ≤ length live
    → Headed live (set (set (set live v p) (64 + v) n) (128 + v) f) v p n f
headed-set live v p n f low room =
    record {
      length = simp length-set;
      past = last v (λ e. omega arith)
          ∙ get_or-set_other (set live v p) (64 + v) v n 0 (λ e. omega arith)
          ∙ get_or-set_same live v p 0 (omega arith);
      size = last (64 + v) (λ e. omega arith) ∙ get_or-set_same (set live v p) (64 + v) n 0 (simp length-set (omega arith));
      fresh = get_or-set_same (set (set live v p) (64 + v) n) (128 + v) f 0 (simp length-set (omega arith));
      others = λ j x y z. last j z ∙ get_or-set_other (set live v p) (64 + v) j n 0 y ∙ get_or-set_other live v j p 0 x;
    }
  where
    last : (j : ℕ) → (j ≡ 128 + v → ⊥) → get_or (set (set (set live v p) (64 + v) n) (128 + v) f) j 0 ≡ get_or (set (set live v p) (64 + v) n) j 0
    last j z = get_or-set_other (set (set live v p) (64 + v) n) (128 + v) j f 0 z

pub same_at : (live : List ℕ) (v : ℕ) → SameAt live live v
same_at live v = record { past = refl; size = refl; fresh = refl; new = refl; list = λ j l. refl }

settleable-kept : {live a : List ℕ} {v : ℕ} → length a ≡ length live → SameAt live a v → Settleable live v → Settleable a v
settleable-kept e x ok =
    record { room = omega (arith, e, ok.room); order = omega (arith, x.size, x.new, ok.order); few = omega (arith, x.new, ok.few) }

-- no place of a set is settled yet
pub settled-none : (free live : List ℕ) (set t : ℕ) → SettledTo free live live set 0 t
settled-none free live set t = record { size = refl; done = λ v l m h. absurd (omega arith); others = λ v l n. same_at live v }

-- the next place of the set can be settled
pub settled-next : {free live after : List ℕ} {set places u t : ℕ} (w : ℕ) → u ≤ w → w < places → w < 64 → Has set w → AllSettleable live set places
    → SettledTo free live after set u t → Settleable after w
settled-next w le low l h all y = settleable-kept y.size (y.others w l (λ m g. omega arith)) (all.each w low h)

pub same-one : (xs : List ℕ) (k : ℕ) → Same xs k (k + 1)
same-one xs k =
    record {
      each = λ j a b.
          let e : k ≡ j = omega arith in
          subst (λ (i : ℕ). ((row_at xs i).place ≡ (row_at xs k).place) × ((row_at xs i).step ≡ (row_at xs k).step)) e (refl, refl);
    }

pub same_more : (xs : List ℕ) (k i : ℕ) → Same xs k i → (row_at xs i).place ≡ (row_at xs k).place → (row_at xs i).step ≡ (row_at xs k).step → Same xs k (i + 1)
same_more xs k i w p q =
    record {
      each = λ j a b. ⊎_elim
          (λ lt. w.each j a lt)
          (λ ge.
          let e : i ≡ j = omega arith in
          subst (λ (m : ℕ). ((row_at xs m).place ≡ (row_at xs k).place) × ((row_at xs m).step ≡ (row_at xs k).step)) e (p, q))
          (lt-or-le j i);
    }

pub noting-none : {xs ix : List ℕ} {k n : ℕ} → k < n → First xs k → Indexed xs k ix (row_at xs k).step → Noting xs k n ix ix k
noting-none l f w =
    record {
      from = omega arith;
      upto = omega arith;
      size = refl;
      own = λ j a b. absurd (omega arith);
      opens = record { before = λ m i b. inl (f.before i b) };
      indexed = w;
      covers = λ t v c h. h;
    }

pub noting-done : {xs ix iy : List ℕ} {k n r : ℕ} → First xs k → k < n → Noting xs k n ix iy r
    → (r < n → (row_at xs r).step ≡ (row_at xs k).step → ⊥) → StepNoted xs k n ix iy r
noting-done {xs} {ix} {iy} {k} {n} {r} f l w other =
    record {
      from = from;
      upto = w.upto;
      size = w.size;
      own = w.own;
      next = λ m. record { before = λ i b. ⊎_elim (λ lt. omega (arith, f.before i lt, later m)) (λ ge. omega (arith, w.own i ge b, later m)) (lt-or-le i k) };
      indexed = w.indexed;
      covers = w.covers;
    }
  where
    from : k < r
    from =
        ⊎_elim
        (λ lt. lt)
        (λ ge. let e : r ≡ k = omega (arith, w.from) in absurd (other (omega arith) (ap (λ (j : ℕ). (row_at xs j).step) e)))
        (lt-or-le k r)

    later : r < n → (row_at xs k).step < (row_at xs r).step
    later m = ⊎_elim (λ x. x) (λ x. absurd (other m (sym x.0))) (w.opens.before m k from)

pub regrouped : (ix : List ℕ) (at lo hi b s v : ℕ) → at ≡ group_at s v → s ≤ 255 → v < 64 → b < 512 → room_of s ≤ length ix
    → Regrouped ix (set (set ix at lo) (at + 1) (hi * 512 + b)) lo hi b s v
regrouped ix at lo hi b s v is l m bs size =
    subst (λ (i : ℕ). Regrouped ix (set (set ix i lo) (i + 1) (hi * 512 + b)) lo hi b s v) (sym is)
    (record {
      group = record {
        size = simp length-set (omega arith);
        low = skip2 (group_at s v) (λ e. odd_even (s * 64 + v) (s * 64 + v) (sym e)) ∙ get_or-set_same ix (group_at s v) lo 0 (omega arith);
        high = omega (arith, packed);
        back = omega (arith, packed);
        lows = λ r u a c n. skip2 (group_at r u) (λ e. odd_even (s * 64 + v) (r * 64 + u) (sym e)) ∙ skip1 (group_at r u) (λ e. apart r u c n (omega arith));
        highs = λ r u a c n. ap (λ (x : ℕ). x / 512) (cell r u a c n);
        backs = λ r u a c n. ap (λ (x : ℕ). x % 512) (cell r u a c n);
      };
      rest = λ j c. skip2 j (λ e. omega arith) ∙ skip1 j (λ e. omega arith);
    })
  where
    i1 : List ℕ
    i1 = set ix (group_at s v) lo

    packed : get_or (set i1 (group_at s v + 1) (hi * 512 + b)) (group_at s v + 1) 0 ≡ hi * 512 + b
    packed = get_or-set_same i1 (group_at s v + 1) (hi * 512 + b) 0 (simp length-set (omega arith))

    skip1 : (j : ℕ) → (j ≡ group_at s v → ⊥) → get_or i1 j 0 ≡ get_or ix j 0
    skip1 j n = get_or-set_other ix (group_at s v) j lo 0 n

    skip2 : (j : ℕ) → (j ≡ group_at s v + 1 → ⊥) → get_or (set i1 (group_at s v + 1) (hi * 512 + b)) j 0 ≡ get_or i1 j 0
    skip2 j n = get_or-set_other i1 (group_at s v + 1) j (hi * 512 + b) 0 n

    apart : (r u : ℕ) → u < 64 → (r ≡ s → u ≡ v → ⊥) → r * 64 + u ≡ s * 64 + v → ⊥
    apart r u c n e = let z = one-group r u s v c m e in n z.0 z.1

    cell : (r u : ℕ) → r ≤ 255 → u < 64 → (r ≡ s → u ≡ v → ⊥)
        → get_or (set i1 (group_at s v + 1) (hi * 512 + b)) (group_at r u + 1) 0 ≡ get_or ix (group_at r u + 1) 0
    cell r u a c n = skip2 (group_at r u + 1) (λ e. apart r u c n (omega arith)) ∙ skip1 (group_at r u + 1) (λ e. odd_even (r * 64 + u) (s * 64 + v) e)

pub swept-ok : {S H : List ℕ → Type 0} {v t a : ℕ} {xs ys : List ℕ} {d e : ℕ} {ok : Bool} → ok ≡ true → Swept S H v t a xs ys d ok e
    → Swept S H v t a xs ys d true e
swept-ok {S} {H} {v} {t} {a} {xs} {ys} {d} {e} {ok} q x = subst (λ (b : Bool). Swept S H v t a xs ys d b e) q x
