-- The rows of the front by comparing rows: the rows that no row keeps off are those that a sweep leaves, so there are as many of them; and a row's
-- number in the front is the count of those with a lower cost.
-- Assumes nothing.
use mathlib.Core.Path.{◌≡◌, refl, sym, ◌∙◌, ap, subst}
use mathlib.Core.Logic.{◌⊎◌, inl, inr, ⊎_elim}
use mathlib.Core.Bool.{Bool, true, false, ◌&&◌, ◌||◌, not, true≢false}
use mathlib.Core.List.{List, [], ◌∷◌, map}
use Prim.Native.Nat.{ℕ, zero, suc, ◌+◌, ◌≤◌, ◌<◌}
use native.Mathlib.Omega.{arith}
use native.Mathlib.Numerals.{add-one}
use lib.Dec.{eqb, ltb}
use lib.ListN.{length, get_or}
use borrow.Author.Tests.{eqb-true, eqb-false, eq-eqb, ltb-true, lt-ltb, not-true}
use Rattle.sheet.specs.Lists.{◌∈◌, keep, filter, Lex}
use Rattle.sheet.specs.Computed.{lexb}
use Rattle.sheet.specs.Sorting.{Ascending, sortUnique}
use Rattle.sheet.specs.Laws.Order.{and-true, true-and, Lex-irrefl, lexb-true, Lex-lexb}
use Rattle.sheet.specs.Laws.Members.{filter-mem, mem-filter, map-mem, all_true, true-all}
use Rattle.sheet.specs.Laws.Ascending.{before-all, sort_unique-mem, mem-sort_unique, sort_unique-ascending}
use Rattle.costs.specs.Costs.{Cost, AtMost, Dominates}
use Rattle.costs.specs.Computed.{at_most_b}
use Rattle.costs.specs.Laws.Figures.{at_most_b-true, at-most-at_most_b, at-most-refl, at-most-Lex, dominates-irrefl, Lex-asym, lexb-not}
use Rattle.sheet.specs.Laws.Decided.{lt-or-le}
use Rattle.arrivals.specs.Rows.{cost_at, row_at}
use Rattle.journeys.specs.Computed.{self, front_of}
use Rattle.journeys.specs.Inner.{is_goal_row, goal_rows, costs_of, Numbered}
use Rattle.journeys.specs.Inner.Chain.{Once, rank, Ordered}
use Rattle.journeys.specs.Inner.Slow.{below, none_below, kept_off, is_front_row, in_count, count_to, has_number}
use Rattle.journeys.specs.Inner.Sweep.{swept, FrontRows}
use Rattle.journeys.specs.declared.front.Offered.{Offered}
use Rattle.journeys.proofs.Chains.{once-ascending, differ-none}
use Rattle.journeys.proofs.Ordering.{rank-cost, rank-tie, covered-self}
use Rattle.journeys.proofs.Swept.{swept-left, left-swept, swept-ascending}
use Rattle.journeys.proofs.FrontRows.{front-rows, front-counted, get-member, number_at}

-- the numbers below n, each once
lt-below : (n k : ℕ) → k < n → k ∈ below n
lt-below zero k h = absurd (omega arith)
lt-below (suc n) k h = ⊎_elim (λ l. inr (lt-below n k l)) (λ l. inl (let e : k ≡ n = omega arith in e)) (lt-or-le k n)

below-lt : (n k : ℕ) → k ∈ below n → k < n
below-lt zero k m = absurd m
below-lt (suc n) k (inl e) = omega arith
below-lt (suc n) k (inr m) = omega (arith, below-lt n k m)

below-once : (n : ℕ) → Once (below n)
below-once zero = tt
below-once (suc n) = (λ m. omega (arith, below-lt n n m), below-once n)

once-filter : (p : ℕ → Bool) (l : List ℕ) → Once l → Once (filter p l)
once-filter p [] o = tt
once-filter p (x ∷ l) o = go (p x) (once-filter p l o.1)
  where
    go : (b : Bool) → Once (filter p l) → Once (keep b x (filter p l))
    go true r = (λ m. o.0 (filter-mem p x l m).0, r)
    go false r = r

-- none of them passes a test, and the count of those that do
module _ (p : ℕ → Bool) where
  pub none_more : (k : ℕ) → none_below p k ≡ true → p k ≡ false → none_below p (k + 1) ≡ true
  none_more k e q = rw (add-one k, q) e

  none_of : (n k : ℕ) → none_below p n ≡ true → k < n → p k ≡ true → ⊥
  none_of n k e h q = true≢false (sym q ∙ not-true (p k) (all_true (λ j. not (p j)) (below n) e k (lt-below n k h)))

  is_none : (n : ℕ) → ((k : ℕ) → k < n → p k ≡ true → ⊥) → none_below p n ≡ true
  is_none n f = true-all (λ j. not (p j)) (below n) (λ k m. go k (f k (below-lt n k m)) (p k) refl)
    where
      go : (k : ℕ) → (p k ≡ true → ⊥) → (b : Bool) → p k ≡ b → not (p k) ≡ true
      go k n true e = absurd (n e)
      go k n false e = ap not e

  pub not_none : (n k : ℕ) → k < n → p k ≡ true → none_below p n ≡ false
  not_none n k h e = go (none_below p n) refl
    where
      go : (b : Bool) → none_below p n ≡ b → none_below p n ≡ false
      go true q = absurd (none_of n k q h e)
      go false q = q

module _ (p : ℕ → Bool) (k m r : ℕ) (h : m ≡ length (filter p (below k))) where
  pub count_yes : p k ≡ true → r ≡ m + 1 → r ≡ length (filter p (below (k + 1)))
  count_yes e q = rw (add-one k, e) (omega arith)

  pub count_no : p k ≡ false → r ≡ m → r ≡ length (filter p (below (k + 1)))
  count_no e q = rw (add-one k, e) (omega arith)

-- rows of which each is among others are no more than these
without : ℕ → List ℕ → List ℕ
without x l = filter (λ y. not (eqb y x)) l

without-mem : (x y : ℕ) (l : List ℕ) → y ∈ l → (y ≡ x → ⊥) → y ∈ without x l
unfolding without
without-mem x y l m n = mem-filter (λ z. not (eqb z x)) y l m (go (eqb y x) refl)
  where
    go : (b : Bool) → eqb y x ≡ b → not (eqb y x) ≡ true
    go true e = absurd (n (eqb-true y x e))
    go false e = ap not e

without-less : (x : ℕ) (l : List ℕ) → (length (without x l) ≤ length l) × (x ∈ l → suc (length (without x l)) ≤ length l)
unfolding without
without-less x [] = (omega arith, λ m. absurd m)
without-less x (y ∷ l) = go (eqb y x) refl (without-less x l)
  where
    go : (b : Bool) → eqb y x ≡ b → (length (without x l) ≤ length l) × (x ∈ l → suc (length (without x l)) ≤ length l)
        → (length (keep (not b) y (without x l)) ≤ suc (length l)) × (x ∈ (y ∷ l) → suc (length (keep (not b) y (without x l))) ≤ suc (length l))
    go true e r = (omega (arith, r.0), λ m. omega (arith, r.0))
    go false e r = (omega (arith, r.0), λ m. ⊎_elim (λ q. absurd (eqb-false y x e (sym q))) (λ q. omega (arith, r.1 q)) m)

fewer : (a b : List ℕ) → Once a → ((x : ℕ) → x ∈ a → x ∈ b) → length a ≤ length b
fewer [] b o f = omega arith
fewer (x ∷ a) b o f =
    omega (arith, (without-less x b).1 (f x (inl refl)), fewer a (without x b) o.1 (λ y m. without-mem x y b (f y (inr m)) (λ e. o.0 (subst (λ (z : ℕ). z ∈ a) e m))))

-- of rows in the order of their costs, as many come before one as its position says
module _ (c : ℕ → Cost) where
  by-cost : (l : List ℕ) → Ascending self (map c l) → Ascending c l
  by-cost [] s = tt
  by-cost (x ∷ []) s = (tt, tt)
  by-cost (x ∷ y ∷ l) s = (s.0, by-cost (y ∷ l) s.1)

  none_before : (l : List ℕ) (g : Cost) → ((x : ℕ) → x ∈ l → Lex g (c x)) → length (filter (λ x. lexb (c x) g) l) ≡ 0
  none_before [] g f = refl
  none_before (x ∷ l) g f = rw (lexb-not (c x) g (Lex-asym g (c x) (f x (inl refl)))) (none_before l g (λ y m. f y (inr m)))

  position : (l : List ℕ) (i : ℕ) → Ascending c l → i < length l → length (filter (λ x. lexb (c x) (c (get_or l i 0))) l) ≡ i
  position [] i s h = absurd (omega arith)
  position (x ∷ l) zero s h = rw (lexb-not (c x) (c x) (Lex-irrefl (c x))) (none_before l (c x) (before-all c x l s.0 s.1))
  position (x ∷ l) (suc i) s h = let j : i < length l = omega arith in
      rw (Lex-lexb (c x) (c (get_or l i 0)) (before-all c x l s.0 s.1 (get_or l i 0) (get-member l i j))) (ap suc (position l i s.1 j))

all-kept : (l : List ℕ) → filter (λ x. true) l ≡ l
all-kept [] = refl
all-kept (x ∷ l) = ap (λ (k : List ℕ). x ∷ k) (all-kept l)

at_position : (l : List ℕ) (x : ℕ) → x ∈ l → (i : ℕ) × (i < length l) × (x ≡ get_or l i 0)
at_position [] x m = absurd m
at_position (y ∷ l) x (inl e) = (0, omega arith, e)
at_position (y ∷ l) x (inr m) = let r = at_position l x m in (suc r.0, omega (arith, r.1), r.2)

-- the goal's rows in order, and those that a sweep of them leaves
abbrev goal_order : ℕ → List ℕ → ℕ → List ℕ → List ℕ
goal_order v counting n xs = sortUnique (rank (cost_at xs)) (filter (λ k. is_goal_row v counting (row_at xs k)) (below n))

abbrev pub front_list : ℕ → List ℕ → ℕ → List ℕ → List ℕ
front_list v counting n xs = swept (cost_at xs) [] (goal_order v counting n xs)

module _ (v : ℕ) (counting : List ℕ) (n : ℕ) (xs : List ℕ) where
  c : ℕ → Cost
  c = cost_at xs

  goal : ℕ → Bool
  goal k = is_goal_row v counting (row_at xs k)

  every : (k : ℕ) → k < n → goal k ≡ true → k ∈ goal_order v counting n xs
  unfolding goal
  every k h e = mem-sort_unique (rank (cost_at xs)) (λ a b e. cc) k (filter goal (below n)) (mem-filter goal k (below n) (lt-below n k h) e)

  ordered : Ordered v counting n xs xs (goal_order v counting n xs)
  unfolding goal
  ordered =
      record {
        ascending = sort_unique-ascending (rank (cost_at xs)) l;
        are = λ k m. (let r = filter-mem goal k (below n) (sort_unique-mem (rank (cost_at xs)) k l m) in (below-lt n k r.0, r.1));
        all = λ k h e. covered-self k (every k h e);
        differ = differ-none xs (goal_order v counting n xs);
      }
    where
      l : List ℕ
      l = filter goal (below n)

  -- a row that keeps another off
  off-true : (k j : ℕ) → kept_off v counting xs k j ≡ true → (goal j ≡ true) × AtMost (c j) (c k) × Lex (rank c j) (rank c k)
  unfolding kept_off goal c
  off-true k j e =
      let a = and-true (goal j && at_most_b (c j) (c k)) (lexb (c j) (c k) || ltb j k) e in
      let b = and-true (goal j) (at_most_b (c j) (c k)) a.0 in
      (b.0, at_most_b-true (c j) (c k) b.1, lower (lexb (c j) (c k)) refl a.1 (at-most-Lex (c j) (c k) refl (at_most_b-true (c j) (c k) b.1)))
    where
      lower : (b : Bool) → lexb (c j) (c k) ≡ b → b || ltb j k ≡ true → (c j ≡ c k) ⊎ Lex (c j) (c k) → Lex (rank c j) (rank c k)
      lower true q h l = rank-cost xs j k (lexb-true (c j) (c k) q)
      lower false q h (inl l) = rank-tie xs j k l (ltb-true j k h)
      lower false q h (inr l) = rank-cost xs j k l

  true-off : (k j : ℕ) → goal j ≡ true → AtMost (c j) (c k) → Lex (c j) (c k) ⊎ (j < k) → kept_off v counting xs k j ≡ true
  unfolding kept_off goal c
  true-off k j e h l = rw (e, at-most-at_most_b (c j) (c k) h) (go (lexb (c j) (c k)) refl l)
    where
      go : (b : Bool) → lexb (c j) (c k) ≡ b → Lex (c j) (c k) ⊎ (j < k) → b || ltb j k ≡ true
      go true q l = refl
      go false q (inl l) = absurd (true≢false (sym (Lex-lexb (c j) (c k) l) ∙ q))
      go false q (inr l) = lt-ltb j k l

  -- the rows that none keeps off are those left
  in-front : (k : ℕ) → k ∈ front_list v counting n xs → (k < n) × (is_front_row v counting n xs k ≡ true)
  unfolding is_front_row goal c
  in-front k m =
      let r = swept-left c (goal_order v counting n xs) [] ordered.ascending k m in
      let q = ordered.are k r.member in
      (q.0, true-and (none_below (kept_off v counting xs k) n) (goal k) (is_none (kept_off v counting xs k) n (λ j h e. (let o = off-true k j e in r.first j (every j h o.0) o.2 o.1))) q.1)

  front-in : (k : ℕ) → k < n → is_front_row v counting n xs k ≡ true → k ∈ front_list v counting n xs
  unfolding is_front_row goal c
  front-in k h e =
      same
      (map-mem c (c k) (front_list v counting n xs)
      (left-swept c (λ i j. refl) (goal_order v counting n xs) [] k (every k h a.1) refl
      (λ j i d. (let q = ordered.are j i in none j q.0 q.1 d.at_most (inl (⊎_elim (λ z. absurd (dominates-irrefl (c k) (subst (λ (g : Cost). Dominates g (c k)) z d))) (λ z. z) (at-most-Lex (c j) (c k) refl d.at_most)))))))
    where
      a : (none_below (kept_off v counting xs k) n ≡ true) × (goal k ≡ true)
      a = and-true (none_below (kept_off v counting xs k) n) (goal k) e

      none : (j : ℕ) → j < n → goal j ≡ true → AtMost (c j) (c k) → Lex (c j) (c k) ⊎ (j < k) → ⊥
      none j l g m o = none_of (kept_off v counting xs k) n j a.0 l (true-off k j g m o)

      same : (i : ℕ) × (i ∈ front_list v counting n xs) × (c k ≡ c i) → k ∈ front_list v counting n xs
      same w =
          let i = w.0 in
          let r = swept-left c (goal_order v counting n xs) [] ordered.ascending i w.1 in
          let q = ordered.are i r.member in
          ⊎_elim
          (λ l. absurd (none i q.0 q.1 (subst (AtMost (c i)) (sym w.2) (at-most-refl (c i))) (inr l)))
          (λ l. ⊎_elim
          (λ u. absurd (r.first k (every k h a.1) (rank-tie xs k i w.2 u) (subst (AtMost (c k)) w.2 (at-most-refl (c k)))))
          (λ u. subst (λ (j : ℕ). j ∈ front_list v counting n xs) (let z : i ≡ k = omega arith in z) w.1)
          (lt-or-le k i))
          (lt-or-le i k)

  -- counted
  rows-ascend : Ascending c (front_list v counting n xs)
  unfolding c
  rows-ascend = by-cost (cost_at xs) (front_list v counting n xs) (swept-ascending (cost_at xs) (λ i j. refl) (goal_order v counting n xs) [] ordered.ascending)

  counted-rows : (every : Bool) (g : Cost) → count_to v counting n xs every g n ≡ length (filter (λ k. every || lexb (cost_at xs k) g) (front_list v counting n xs))
  counted-rows every g = omega (arith, fewer counted others (once-filter (in_count v counting n xs every g) (below n) (below-once n)) into, fewer others counted (once-filter test fs (once-ascending c fs rows-ascend)) back)
    where
      fs : List ℕ
      fs = front_list v counting n xs

      test : ℕ → Bool
      test k = every || lexb (cost_at xs k) g

      counted : List ℕ
      counted = filter (in_count v counting n xs every g) (below n)

      others : List ℕ
      others = filter (λ k. every || lexb (cost_at xs k) g) (front_list v counting n xs)

      into : (k : ℕ) → k ∈ counted → k ∈ others
      into k m =
          let r = filter-mem (in_count v counting n xs every g) k (below n) m in
          let q = and-true (is_front_row v counting n xs k) (test k) r.1 in
          mem-filter test k fs (front-in k (below-lt n k r.0) q.0) q.1

      back : (k : ℕ) → k ∈ others → k ∈ counted
      back k m =
          let r = filter-mem test k fs m in
          let q = in-front k r.0 in
          mem-filter (in_count v counting n xs every g) k (below n) (lt-below n k q.0) (true-and (is_front_row v counting n xs k) (test k) q.1 r.1)

  pub slow-front : FrontRows v counting n xs (front_list v counting n xs)
  slow-front = front-rows v counting n xs xs (goal_order v counting n xs) ordered

  pub slow-count : (g : Cost) → count_to v counting n xs true g n ≡ length (front_of (costs_of (goal_rows v counting n xs)))
  slow-count g = counted-rows true g ∙ ap length (all-kept (front_list v counting n xs)) ∙ front-counted slow-front

  before-row : (i : ℕ) → i < length (front_list v counting n xs) → count_to v counting n xs false (cost_at xs (get_or (front_list v counting n xs) i 0)) n ≡ i
  unfolding c
  before-row i h = counted-rows false (cost_at xs (get_or (front_list v counting n xs) i 0)) ∙ position (cost_at xs) (front_list v counting n xs) i rows-ascend h

  pub slow-on : (i k : ℕ) (o : Offered) → k < n → has_number v counting n xs i k ≡ true → o.cost ≡ cost_at xs k → o.step.0 ≡ (row_at xs k).step → Numbered (goal_rows v counting n xs) i o
  slow-on i k o h b g s =
      let f = and-true (is_front_row v counting n xs k) (eqb (count_to v counting n xs false (cost_at xs k) n) i) b in
      let p = at_position (front_list v counting n xs) k (front-in k h f.0) in
      let z : i ≡ p.0 = sym (eqb-true (count_to v counting n xs false (cost_at xs k) n) i f.1) ∙ ap (λ (j : ℕ). count_to v counting n xs false (cost_at xs j) n) p.2 ∙ before-row p.0 p.1 in
      let q : k ≡ get_or (front_list v counting n xs) i 0 = p.2 ∙ ap (λ (j : ℕ). get_or (front_list v counting n xs) j 0) (sym z) in
      number_at slow-front i o (omega (arith, p.1)) (g ∙ ap (cost_at xs) q) (s ∙ ap (λ (j : ℕ). (row_at xs j).step) q)

  pub slow-off : (i : ℕ) → none_below (has_number v counting n xs i) n ≡ true → length (front_of (costs_of (goal_rows v counting n xs))) ≤ i
  slow-off i f = ⊎_elim (λ h. absurd (none h)) (λ h. omega (arith, front-counted slow-front)) (lt-or-le i (length fs))
    where
      fs : List ℕ
      fs = front_list v counting n xs

      none : i < length (front_list v counting n xs) → ⊥
      none h =
          let k = get_or fs i 0 in
          let q = in-front k (get-member fs i h) in
          none_of (has_number v counting n xs i) n k f q.0 (true-and (is_front_row v counting n xs k) (eqb (count_to v counting n xs false (cost_at xs k) n) i) q.1 (eq-eqb (count_to v counting n xs false (cost_at xs k) n) i (before-row i h)))
