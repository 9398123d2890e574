-- The arrivals table of a sheet holds its leading arrivals, and the front of the sheet is that of the goal rows of the table: the first row with a
-- front cost has its arrival step, since the rows ascend by step.
use Rattle.std.specs.Prelude.{◌≡◌, refl, Bool, true, false, ◌&&◌, ℕ, suc, ◌-◌, ◌/◌, ◌≤◌, eqb, length, replicate}
use Rattle.std.proofs.Common.{sym, ◌∙◌, subst, inl, inr, true≢false, arith, div-add-mod', take_at, drop_at, eqb-true, eq-eqb}
use Rattle.std.proofs.Math.Path.{ap}
use mathlib.Core.List.{List, [], ◌∷◌, ◌++◌, map, append_assoc}
use Rattle.std.proofs.lemmas.List.{length-map}
use Rattle.sheet.specs.Lists.{◌∈◌, pick, numbers_from, rows, flat, bind, filter, Lex}
use Rattle.sheet.specs.Sorting.{Ascending}
use Rattle.sheet.specs.Sheet.{Sheet, goal}
use Rattle.sheet.specs.Laws.Order.{and-true, true-and}
use Rattle.sheet.specs.Laws.Members.{filter-mem, mem-filter, map-mem, mem-map}
use Rattle.sheet.specs.Laws.Ascending.{before-all, filter-ascending}
use Rattle.sheet.specs.Laws.Rows.{Wide, bind-flat}
use Rattle.costs.specs.Costs.{Cost, figures}
use Rattle.costs.specs.Computed.{sameb}
use Rattle.costs.specs.Laws.Figures.{sameb-true, sameb-refl}
use Rattle.arrivals.specs.Arrivals.{Arrival, key_of, Arrives}
use Rattle.arrivals.specs.Computed.{arrival, leading}
use Rattle.arrivals.specs.Table.{arrival_row, arrival_table}
use Rattle.arrivals.specs.Laws.Leading.{arrival-path, arrives-three}
use Rattle.arrivals.proofs.Leading.{leading-is, is_leading, leading-ascending}
use Rattle.journeys.specs.Computed.{countsb, arrival_of, front_of, front}
use Rattle.journeys.specs.Front.{OnFront}
use Rattle.journeys.specs.Held.{row_of, table_rows, Holds}
use Rattle.journeys.specs.Inner.{is_goal_row, goal_rows, costs_of, first_step_of}
use Rattle.journeys.specs.Inner.Counting.{CountingOf}
use Rattle.journeys.specs.Laws.Counts.{countsb-true, counts-countsb}
use Rattle.journeys.specs.Laws.Front.{front-on}
use Rattle.journeys.specs.Laws.Goal.{counts_at_goal, goal_costs, front-by-leading, Earliest, arrival_of-earliest, arrival_of-leading}

filter_alike : (p q : Arrival → Bool) → ((a : Arrival) → p a ≡ q a) → (l : List Arrival) → filter p l ≡ filter q l
filter_alike p q e [] = refl
filter_alike p q e (a ∷ l) = rw (e a, filter_alike p q e l)

-- the front of a sheet off its table
module _ (s : Sheet) (n : ℕ) (xs : List ℕ) (counting : List ℕ) where
  -- the goal's rows are the leading arrivals at the goal that count
  goal-leading : Holds s n xs → CountingOf s counting → goal_rows (goal s) counting n xs ≡ filter (counts_at_goal s) (leading s)
  goal-leading h c =
      ap (filter (is_goal_row (goal s) counting)) h.rows_are
      ∙ filter_alike (is_goal_row (goal s) counting) (counts_at_goal s) (λ a. ap (λ (b : Bool). eqb a.place (goal s) && b) (c.of a.step)) (leading s)

  pub holds-front : Holds s n xs → CountingOf s counting → front s ≡ front_of (costs_of (goal_rows (goal s) counting n xs))
  unfolding goal_costs
  holds-front h c = front-by-leading s ∙ ap (λ (l : List Arrival). front_of (costs_of l)) (sym (goal-leading h c))

-- the first of the arrivals with a cost is one of them; and none is earlier, where they ascend
first_of : (g : Cost) (l : List Arrival) → g ∈ costs_of l → (a : Arrival) × (a ∈ l) × (a.cost ≡ g) × (first_step_of g l ≡ a.step)
first_of g [] m = absurd m
first_of g (x ∷ l) m = go (sameb x.cost g) refl m (first_of g l)
  where
    go : (b : Bool) → sameb x.cost g ≡ b → g ∈ costs_of (x ∷ l) → (g ∈ costs_of l → (a : Arrival) × (a ∈ l) × (a.cost ≡ g) × (first_step_of g l ≡ a.step))
        → (a : Arrival) × (a ∈ (x ∷ l)) × (a.cost ≡ g) × (pick b x.step (first_step_of g l) ≡ a.step)
    go true e m f = (x, inl refl, sameb-true x.cost g e, refl)
    go false e (inl q) f = absurd (true≢false (sym (subst (λ (h : Cost). sameb h g ≡ true) q (sameb-refl g)) ∙ e))
    go false e (inr m) f = let r = f m in (r.0, inr r.1, r.2, r.3)

step-ascends : (a b : Arrival) → Lex (key_of a) (key_of b) → a.step ≤ b.step
step-ascends a b (inl h) = omega arith
step-ascends a b (inr h) = omega (arith, h.0)

first-earliest : (g : Cost) (l : List Arrival) → Ascending key_of l → (a : Arrival) → a ∈ l → a.cost ≡ g → first_step_of g l ≤ a.step
first-earliest g [] s a m e = absurd m
first-earliest g (x ∷ l) s a m e = go (sameb x.cost g) refl m (first-earliest g l s.1 a)
  where
    go : (b : Bool) → sameb x.cost g ≡ b → a ∈ (x ∷ l) → (a ∈ l → a.cost ≡ g → first_step_of g l ≤ a.step) → pick b x.step (first_step_of g l) ≤ a.step
    go true q (inl p) f = omega (arith, ap (λ (y : Arrival). y.step) p)
    go true q (inr m) f = step-ascends x a (before-all key_of x l s.0 s.1 a m)
    go false q (inl p) f = absurd (true≢false (sym (subst (λ (h : Cost). sameb h g ≡ true) (sym e ∙ ap (λ (y : Arrival). y.cost) p) (sameb-refl g)) ∙ q))
    go false q (inr m) f = f m e

pub holds-step : (s : Sheet) (n : ℕ) (xs : List ℕ) (counting : List ℕ) (g : Cost) → Holds s n xs → CountingOf s counting → g ∈ front s
    → first_step_of g (goal_rows (goal s) counting n xs) ≡ arrival_of s g
holds-step s n xs counting g h c m = ap (first_step_of g) (goal-leading s n xs counting h c) ∙ same
  where
    test : Arrival → Bool
    test = counts_at_goal s

    l : List Arrival
    l = filter test (leading s)

    o : OnFront s g
    o = front-on s g m

    a : Arrival
    a = arrival (goal s) (arrival_of s g) g

    e : Earliest s g (arrival_of s g)
    e = arrival_of-earliest s g o.has

    listed : a ∈ l
    listed =
        mem-filter test a (leading s) (is_leading s a (arrival_of-leading s g o))
        (true-and (eqb (goal s) (goal s)) (countsb s (arrival_of s g)) (eq-eqb (goal s) (goal s) refl) (counts-countsb s (arrival_of s g) e.there.counts))

    no-sooner : (b : Arrival) → b ∈ l → b.cost ≡ g → arrival_of s g ≤ b.step
    no-sooner b k q =
        let f = filter-mem test b (leading s) k in
        let t = and-true (eqb b.place (goal s)) (countsb s b.step) f.1 in
        let p : b ≡ arrival (goal s) b.step g = arrival-path b (arrival (goal s) b.step g) (eqb-true b.place (goal s) t.0) refl q in
        e.none-sooner b.step (record { arrives = subst (Arrives s) p (leading-is s b f.0).arrives; counts = countsb-true s b.step t.1 })

    same : first_step_of g l ≡ arrival_of s g
    same =
        let r = first_of g l (mem-map (λ (x : Arrival). x.cost) a l listed) in
        omega (arith, first-earliest g l (filter-ascending key_of test (leading s) (leading-ascending s)) a listed refl, no-sooner r.0 r.1 r.2, r.3)

-- the arrivals table holds the leading arrivals
rows-flat-then : (w : ℕ) (l : List (List ℕ)) (z : List ℕ) → Wide w l → rows w (length l) (flat l ++ z) ≡ l
rows-flat-then w [] z h = refl
rows-flat-then w (k ∷ l) z h =
    let e = append_assoc k (flat l) z in
    let p = h k (inl refl) in
    rw (e, take_at k (flat l ++ z) w p, drop_at k (flat l ++ z) w p, rows-flat-then w l z (λ j m. h j (inr m)))

row_back : (l : List Arrival) → ((a : Arrival) → a ∈ l → length a.cost ≡ figures) → map row_of (map arrival_row l) ≡ l
row_back [] h = refl
row_back (a ∷ l) h = rw (arrival-path (row_of (arrival_row a)) a refl refl (whole a.cost (h a (inl refl))), row_back l (λ b m. h b (inr m)))
  where
    whole : (g : Cost) → length g ≡ figures → numbers_from figures 0 g ≡ g
    whole [] e = absurd (omega arith)
    whole (x ∷ []) e = absurd (omega arith)
    whole (x ∷ y ∷ []) e = absurd (omega arith)
    whole (x ∷ y ∷ z ∷ []) e = refl
    whole (x ∷ y ∷ z ∷ t ∷ g) e = absurd (omega arith)

pub table-holds : (s : Sheet) (xs : List ℕ) → length (leading s) ≤ length xs / 5 → xs ≡ arrival_table s (length xs) → Holds s (length (leading s)) xs
unfolding arrival_table
table-holds s xs h e = record { room = omega (arith, div-add-mod' (length xs) 5); rows_are = are }
  where
    l : List Arrival
    l = leading s

    three : (a : Arrival) → a ∈ l → length a.cost ≡ figures
    three a m = arrives-three s a (leading-is s a m).arrives

    wide : Wide 5 (map arrival_row l)
    wide k m = let r = map-mem arrival_row k l m in ap length r.2 ∙ ap (λ (i : ℕ). suc (suc i)) (three r.0 r.1)

    are : table_rows (length l) xs ≡ l
    are =
        let z = replicate {A = ℕ} (length xs - length (bind l arrival_row)) 0 in
        let f : xs ≡ flat (map arrival_row l) ++ z = e ∙ ap (λ (k : List ℕ). k ++ z) (bind-flat arrival_row l) in
        let c : length l ≡ length (map arrival_row l) = sym (length-map l arrival_row) in
        ap (λ (k : List ℕ). map row_of (rows 5 (length l) k)) f
        ∙ ap (λ (n : ℕ). map row_of (rows 5 n (flat (map arrival_row l) ++ z))) c
        ∙ ap (map row_of) (rows-flat-then 5 (map arrival_row l) z wide)
        ∙ row_back l three
