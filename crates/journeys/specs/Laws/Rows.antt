-- The rows of a table and the goal rows among them: row k of the table and the rows up to it; the goal rows are a prefix, and one row more. The first
-- goal row with a cost has the step that the front list tells.
use Rattle.std.specs.Prelude.{◌≡◌, refl, ◌≢◌, Bool, true, false, List, [], ◌∷◌, ◌++◌, map, ℕ, zero, suc, ◌+◌, ◌*◌, ◌<◌, eqb, length, get_or, take, drop}
use Rattle.std.proofs.Common.{sym, ◌∙◌, ap, subst, inl, inr, true≢false, append-nil, arith, zero-mul, add-one, eqb-true}
use Rattle.std.proofs.lemmas.Bool.{eqb-false}
use Rattle.sheet.specs.Lists.{◌∈◌, pick, number, numbers_from, rows, keep, filter, Lex}
use Rattle.sheet.specs.Sorting.{Ascending}
use Rattle.sheet.specs.Laws.Ascending.{before-all}
use Rattle.sheet.specs.Laws.Members.{mem-at, filter-mem, map-mem, mem-map, mem-left, mem-right, get_d_map}
use Rattle.sheet.specs.Laws.Rows.{rows-count, rows_at}
use Rattle.costs.specs.Costs.{Cost, figures}
use Rattle.costs.specs.Computed.{sameb}
use Rattle.costs.specs.Laws.Figures.{sameb-true, sameb-refl}
use Rattle.costs.specs.Laws.Rows.{row, row_number, row-later, mem-rows, rows-mem}
use Rattle.arrivals.specs.Arrivals.{Arrival}
use Rattle.arrivals.specs.Computed.{arrival}
use Rattle.arrivals.specs.Laws.Leading.{arrival-path}
use Rattle.arrivals.specs.Rows.{cost_at, row_at}
use Rattle.journeys.specs.Held.{row_of, table_rows}
use Rattle.journeys.specs.Inner.{rows_by, costs_of, first_step_of}

-- of an ascending list, the member with the lower number stands before
module _ {A : Type 0} (d : A) where
  pub keys-ascend : (key : A → List ℕ) (l : List A) → Ascending key l → (i j : ℕ) → i < j → j < length l → Lex (key (get_or l i d)) (key (get_or l j d))
  keys-ascend key [] a i j h k = absurd (omega arith)
  keys-ascend key (x ∷ l) a i zero h k = absurd (omega arith)
  keys-ascend key (x ∷ l) a zero (suc j) h k = before-all key x l a.0 a.1 (get_or l j d) (mem-at d l j (omega arith))
  keys-ascend key (x ∷ l) a (suc i) (suc j) h k = keys-ascend key l a.1 i j (omega arith) (omega arith)

-- row k of the table, by the table's numbers
pub row_at-is : (xs : List ℕ) (k : ℕ) → row_of (row 5 xs k) ≡ row_at xs k
row_at-is xs k = arrival-path (row_of (row 5 xs k)) (row_at xs k) first (row_number 5 xs k 1 (omega arith)) rest
  where
    at : (j i : ℕ) → j < 5 → k * 5 + j ≡ i → number (row 5 xs k) j ≡ number xs i
    at j i h e = row_number 5 xs k j h ∙ ap (number xs) e

    first : number (row 5 xs k) 0 ≡ number xs (k * 5)
    first = at 0 (k * 5) (omega arith) (omega arith)

    rest : numbers_from figures 2 (row 5 xs k) ≡ numbers_from figures (k * 5 + 2) xs
    rest =
        let a = at 2 (k * 5 + 2) (omega arith) refl in
        let b = at 3 (suc (k * 5 + 2)) (omega arith) (omega arith) in
        let d = at 4 (suc (suc (k * 5 + 2))) (omega arith) (omega arith) in
        rw (a, b, d)

-- one row more
rows_snoc : (w k : ℕ) (l : List ℕ) → rows w (suc k) l ≡ rows w k l ++ (row w l k ∷ [])
rows_snoc w zero l = rw (zero-mul w)
rows_snoc w (suc k) l = ap (λ (x : List (List ℕ)). take w l ∷ x) (rows_snoc w k (drop w l) ∙ ap (λ (x : List ℕ). rows w k (drop w l) ++ (x ∷ [])) (row-later w l k))

map_snoc : {A B : Type 0} (f : A → B) (l : List A) (x : A) → map f (l ++ (x ∷ [])) ≡ map f l ++ (f x ∷ [])
map_snoc f [] x = refl
map_snoc f (y ∷ l) x = ap (λ (k : List _). f y ∷ k) (map_snoc f l x)

filter-snoc : {A : Type 0} (p : A → Bool) (l : List A) (x : A) → filter p (l ++ (x ∷ [])) ≡ filter p l ++ keep (p x) x []
filter-snoc p [] x = refl
filter-snoc p (y ∷ l) x = go (p y) (filter-snoc p l x)
  where
    go : (b : Bool) → filter p (l ++ (x ∷ [])) ≡ filter p l ++ keep (p x) x [] → keep b y (filter p (l ++ (x ∷ []))) ≡ keep b y (filter p l) ++ keep (p x) x []
    go true e = ap (λ (k : List _). y ∷ k) e
    go false e = e

pub table-row : (n : ℕ) (xs : List ℕ) (i : ℕ) → i < n → get_or (table_rows n xs) i (arrival 0 0 []) ≡ row_at xs i
table-row n xs i h =
    get_d_map row_of (rows 5 n xs) i [] (arrival 0 0 []) (omega (arith, h, rows-count 5 n xs)) ∙ ap row_of (rows_at 5 n xs i h) ∙ row_at-is xs i

pub table_more : (k : ℕ) (xs : List ℕ) → table_rows (k + 1) xs ≡ table_rows k xs ++ (row_at xs k ∷ [])
table_more k xs =
    ap (λ (n : ℕ). table_rows n xs) (add-one k)
    ∙ ap (map row_of) (rows_snoc 5 k xs)
    ∙ map_snoc row_of (rows 5 k xs) (row 5 xs k)
    ∙ ap (λ (a : Arrival). table_rows k xs ++ (a ∷ [])) (row_at-is xs k)

-- the rows of a table that pass a test, whatever it is
module _ (test : Arrival → Bool) (xs : List ℕ) where
  pub by-more : (k : ℕ) → rows_by test (k + 1) xs ≡ rows_by test k xs ++ keep (test (row_at xs k)) (row_at xs k) []
  by-more k = ap (filter test) (table_more k xs) ∙ filter-snoc test (table_rows k xs) (row_at xs k)

  pub by-kept : (k : ℕ) → test (row_at xs k) ≡ true → rows_by test (k + 1) xs ≡ rows_by test k xs ++ (row_at xs k ∷ [])
  by-kept k e = by-more k ∙ ap (λ (b : Bool). rows_by test k xs ++ keep b (row_at xs k) []) e

  by-later : (k : ℕ) (a : Arrival) → a ∈ rows_by test k xs → a ∈ rows_by test (k + 1) xs
  by-later k a m = subst (λ (l : List Arrival). a ∈ l) (sym (by-more k)) (mem-left a (rows_by test k xs) (keep (test (row_at xs k)) (row_at xs k) []) m)

  -- each row that passes is one of them
  pub by_row : (n k : ℕ) → k < n → test (row_at xs k) ≡ true → row_at xs k ∈ rows_by test n xs
  by_row zero k h e = absurd (omega arith)
  by_row (suc n) k h e = go (eqb k n) refl (by_row n k)
    where
      go : (b : Bool) → eqb k n ≡ b → (k < n → test (row_at xs k) ≡ true → row_at xs k ∈ rows_by test n xs) → row_at xs k ∈ rows_by test (suc n) xs
      go true q f =
          let r : k ≡ n = eqb-true k n q in
          let m : row_at xs k ∈ rows_by test (k + 1) xs = subst (λ (l : List Arrival). row_at xs k ∈ l) (sym (by-kept k e)) (mem-right (row_at xs k) (rows_by test k xs) (row_at xs k ∷ []) (inl refl)) in
          let z : k + 1 ≡ suc n = omega arith in
          subst (λ (i : ℕ). row_at xs k ∈ rows_by test i xs) z m
      go false q f =
          let d : k ≢ n = eqb-false k n q in
          subst (λ (i : ℕ). row_at xs k ∈ rows_by test i xs) (add-one n) (by-later n (row_at xs k) (f (omega arith) e))

-- each arrival of the table is a row, and each row is one of them
pub table_at : (n : ℕ) (xs : List ℕ) (a : Arrival) → a ∈ table_rows n xs → (k : ℕ) × (k < n) × (a ≡ row_at xs k)
table_at n xs a m =
    let r = map-mem row_of a (rows 5 n xs) m in
    let q = rows-mem 5 n xs r.0 r.1 in
    (q.0, q.1, r.2 ∙ ap row_of q.2 ∙ row_at-is xs q.0)

pub at_table : (n : ℕ) (xs : List ℕ) (k : ℕ) → k < n → row_at xs k ∈ table_rows n xs
at_table n xs k h = subst (λ (a : Arrival). a ∈ table_rows n xs) (row_at-is xs k) (mem-map row_of (row 5 xs k) (rows 5 n xs) (mem-rows 5 n xs k h))

pub by-at : (test : Arrival → Bool) (n : ℕ) (xs : List ℕ) (a : Arrival) → a ∈ rows_by test n xs → (k : ℕ) × (k < n) × (test (row_at xs k) ≡ true) × (a ≡ row_at xs k)
by-at test n xs a m =
    let f = filter-mem test a (table_rows n xs) m in
    let q = table_at n xs a f.0 in
    (q.0, q.1, ap test (sym q.2) ∙ f.1, q.2)

pub cost-at : (test : Arrival → Bool) (n : ℕ) (xs : List ℕ) (g : Cost) → g ∈ costs_of (rows_by test n xs) → (k : ℕ) × (k < n) × (test (row_at xs k) ≡ true) × (g ≡ cost_at xs k)
cost-at test n xs g m =
    let r = map-mem (λ (a : Arrival). a.cost) g (rows_by test n xs) m in
    let q = by-at test n xs r.0 r.1 in
    (q.0, q.1, q.2, r.2 ∙ ap (λ (a : Arrival). a.cost) q.3)

pub at-cost : (test : Arrival → Bool) (n : ℕ) (xs : List ℕ) (k : ℕ) → k < n → test (row_at xs k) ≡ true → cost_at xs k ∈ costs_of (rows_by test n xs)
at-cost test n xs k h e = mem-map (λ (a : Arrival). a.cost) (row_at xs k) (rows_by test n xs) (by_row test xs n k h e)

-- the step of the first arrival with a cost, in a list that is gone through
first-left : (g : Cost) (p : List Arrival) (a : Arrival) → g ∈ costs_of p → first_step_of g (p ++ (a ∷ [])) ≡ first_step_of g p
first-left g [] a m = absurd m
first-left g (x ∷ p) a m = go (sameb x.cost g) refl m (first-left g p a)
  where
    go : (b : Bool) → sameb x.cost g ≡ b → g ∈ costs_of (x ∷ p) → (g ∈ costs_of p → first_step_of g (p ++ (a ∷ [])) ≡ first_step_of g p) → pick b x.step (first_step_of g (p ++ (a ∷ []))) ≡ pick b x.step (first_step_of g p)
    go true e m f = refl
    go false e (inr n) f = f n
    go false e (inl q) f = absurd (true≢false (sym (subst (λ (h : Cost). sameb h g ≡ true) q (sameb-refl g)) ∙ e))

first-right : (p : List Arrival) (a : Arrival) → (a.cost ∈ costs_of p → ⊥) → first_step_of a.cost (p ++ (a ∷ [])) ≡ a.step
first-right [] a n = rw (sameb-refl a.cost)
first-right (x ∷ p) a n = go (sameb x.cost a.cost) refl (first-right p a)
  where
    go : (b : Bool) → sameb x.cost a.cost ≡ b → ((a.cost ∈ costs_of p → ⊥) → first_step_of a.cost (p ++ (a ∷ [])) ≡ a.step) → pick b x.step (first_step_of a.cost (p ++ (a ∷ []))) ≡ a.step
    go true e f = absurd (n (inl (sym (sameb-true x.cost a.cost e))))
    go false e f = f (λ m. n (inr m))

-- the step of the first arrival with the cost of row k is row k's, where no row that passes before it has that cost
pub first-row : (test : Arrival → Bool) (n : ℕ) (xs : List ℕ) (k : ℕ) → k < n → test (row_at xs k) ≡ true → (cost_at xs k ∈ costs_of (rows_by test k xs) → ⊥)
    → first_step_of (cost_at xs k) (rows_by test n xs) ≡ (row_at xs k).step
first-row test zero xs k h e f = absurd (omega arith)
first-row test (suc n) xs k h e f = go (eqb k n) refl (first-row test n xs k)
  where
    g : Cost
    g = cost_at xs k

    more : (b : Bool) → first_step_of g (rows_by test n xs) ≡ (row_at xs k).step → g ∈ costs_of (rows_by test n xs) → first_step_of g (rows_by test n xs ++ keep b (row_at xs n) []) ≡ (row_at xs k).step
    more true q m = first-left g (rows_by test n xs) (row_at xs n) m ∙ q
    more false q m = ap (first_step_of g) (append-nil (rows_by test n xs)) ∙ q

    go : (b : Bool) → eqb k n ≡ b → (k < n → test (row_at xs k) ≡ true → (g ∈ costs_of (rows_by test k xs) → ⊥) → first_step_of g (rows_by test n xs) ≡ (row_at xs k).step)
        → first_step_of g (rows_by test (suc n) xs) ≡ (row_at xs k).step
    go true q r =
        let z : suc n ≡ k + 1 = omega (arith, eqb-true k n q) in
        ap (λ (i : ℕ). first_step_of g (rows_by test i xs)) z ∙ ap (first_step_of g) (by-kept test xs k e) ∙ first-right (rows_by test k xs) (row_at xs k) f
    go false q r =
        let d : k ≢ n = eqb-false k n q in
        let l : k < n = omega arith in
        ap (λ (i : ℕ). first_step_of g (rows_by test i xs)) (sym (add-one n)) ∙ ap (first_step_of g) (by-more test xs n) ∙ more (test (row_at xs n)) (r l e f) (at-cost test n xs k l e)
