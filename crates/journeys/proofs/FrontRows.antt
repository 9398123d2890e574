-- From the first row to the last: the rows that a sweep of the goal's rows leaves are those of the front; a sweep begins with all of them, ends with
-- none ahead, and when the rows of its chains are released the table is as it was.
-- Assumes nothing.
use mathlib.Core.Path.{◌≡◌, refl, sym, ◌∙◌, ap, ap₂, subst}
use mathlib.Core.Logic.{◌⊎◌, inl, inr, ⊎_elim}
use mathlib.Core.Bool.{Bool}
use mathlib.Core.List.{List, [], ◌∷◌, ◌++◌, map, append-nil}
use Prim.Native.Nat.{ℕ, zero, suc, ◌+◌, ◌*◌, ◌-◌, ◌≤◌, ◌<◌}
use native.Mathlib.Omega.{arith}
use lib.Dec.{eqb}
use lib.ListN.{length, get_or, drop, length-map, length-drop}
use borrow.Author.Tests.{eqb-true}
use Rattle.sheet.specs.Lists.{◌∈◌, number, Lex}
use Rattle.sheet.specs.Laws.Order.{and-true, Lex-irrefl}
use Rattle.sheet.specs.Laws.Members.{map-mem, mem-left, mem-right, mem-append}
use Rattle.sheet.specs.Laws.Ascending.{ascending-unique}
use Rattle.costs.specs.Costs.{Cost, AtMost, Dominates}
use Rattle.costs.specs.Laws.Figures.{at-most-Lex, at-most-dominates, dominates-irrefl, undominated-same}
use Rattle.sheet.specs.Laws.Decided.{lt-or-le}
use Rattle.arrivals.specs.Rows.{cost_at, row_at}
use Rattle.journeys.specs.Computed.{self, front_of}
use Rattle.journeys.specs.Inner.{counts_at, is_goal_row, goal_rows, costs_of, first_step_of, Numbered}
use Rattle.journeys.specs.Inner.Chain.{chain, Once, start_of, InTable, Releasable, Released, rank, Ordered, OrderedAll}
use Rattle.journeys.specs.Inner.Sweep.{swept, third, stair_of, ahead_of, Sweeps, SweptTo, FrontRows, Begun, list_row}
use Rattle.journeys.specs.Laws.Front.{front_of-is, is-front_of, front_of-ascending}
use Rattle.journeys.specs.Laws.Rows.{cost-at, at-cost, first-row}
use Rattle.journeys.specs.declared.chain.Gap.{Gap}
use Rattle.journeys.specs.declared.front.Offered.{Offered}
use Rattle.journeys.specs.declared.front.Sweep.{Sweep}
use Rattle.journeys.proofs.Chains.{chain-kept, chain-none, once-ascending, differ-freed, differ-end, differ-link, in_table}
use Rattle.journeys.proofs.Ordering.{rank-cost, rank-tie}
use Rattle.journeys.proofs.Swept.{Left, swept-left, left-swept, swept-ascending}

-- the rows of the front
pub front-rows : (v : ℕ) (counting : List ℕ) (n : ℕ) (base xs ks : List ℕ) → Ordered v counting n base xs ks → FrontRows v counting n base (swept (cost_at base) [] ks)
front-rows v counting n base xs ks o =
    record {
      costs-are = ascending-unique self (map c fs) (front_of l) (swept-ascending c (λ i j. refl) ks [] o.ascending) (front_of-ascending l) (λ g m. into g (map-mem c g fs m)) (λ g m. onto g m);
      steps-are = λ k m. sym (steps k (swept-left c ks [] o.ascending k m));
    }
  where
    c : ℕ → Cost
    c = cost_at base

    fs : List ℕ
    fs = swept (cost_at base) [] ks

    l : List Cost
    l = costs_of (goal_rows v counting n base)

    lower : (j k : ℕ) → AtMost (c j) (c k) → (c j ≡ c k → j < k) → Lex (rank c j) (rank c k)
    lower j k d f = ⊎_elim (λ e. rank-tie base j k e (f e)) (rank-cost base j k) (at-most-Lex (c j) (c k) refl d)

    into : (g : Cost) → (k : ℕ) × (k ∈ fs) × (g ≡ c k) → g ∈ front_of l
    into g w =
        let k = w.0 in
        let r = swept-left c ks [] o.ascending k w.1 in
        let q = o.are k r.member in
        subst (λ (h : Cost). h ∈ front_of l) (sym w.2)
        (is-front_of l (c k)
        (record {
          member = at-cost (is_goal_row v counting) n base k q.0 q.1;
          none = λ h m d. (let a = cost-at (is_goal_row v counting) n base h m in
              let b = o.all a.0 a.1 a.2 in
              let e = at-most-dominates (c b.by) (c a.0) (c k) b.at_most (subst (λ (x : Cost). Dominates x (c k)) a.3 d) in
              r.first b.by b.member (lower b.by k e.at_most (λ q. absurd (dominates-irrefl (c k) (subst (λ (x : Cost). Dominates x (c k)) q e)))) e.at_most);
        }))

    onto : (g : Cost) → g ∈ front_of l → g ∈ map c fs
    onto g m =
        let u = front_of-is l g m in
        let a = cost-at (is_goal_row v counting) n base g u.member in
        let b = o.all a.0 a.1 a.2 in
        let none : (j : ℕ) → j ∈ ks → Dominates (c j) g → ⊥ = λ j i. (let q = o.are j i in u.none (c j) (at-cost (is_goal_row v counting) n base j q.0 q.1)) in
        let e : c b.by ≡ g = undominated-same (c b.by) g (ap (λ (x : Cost). length x) (sym a.3)) (subst (AtMost (c b.by)) (sym a.3) b.at_most) (none b.by b.member) in
        subst (λ (h : Cost). h ∈ map c fs) e (left-swept c (λ i j. refl) ks [] b.by b.member refl (λ j i d. none j i (subst (Dominates (c j)) e d)))

    steps : (k : ℕ) → Left c [] ks k → first_step_of (c k) (goal_rows v counting n base) ≡ (row_at base k).step
    steps k r =
        let q = o.are k r.member in
        first-row (is_goal_row v counting) n base k q.0 q.1
        (λ m. let a = cost-at (is_goal_row v counting) k base (c k) m in
        let b = o.all a.0 (omega (arith, a.1, q.0)) a.2 in
        let e = subst (AtMost (c b.by)) (sym a.3) b.at_most in
        r.first b.by b.member (lower b.by k e (λ z. omega (arith, a.1, b.no-later))) e)

-- a sweep begins
pub sweep-begins : (v : ℕ) (counting : List ℕ) (n : ℕ) (base xs : List ℕ) (r : Gap) → n ≤ 4294967295 → n * 5 ≤ length base → OrderedAll v counting n base xs r
    → Begun v counting n base xs (record { at = r.first; rest = r.rows; top = 0; size = 0; count = 0; row = 0 })
sweep-begins v counting n base xs r few room o =
    record {
      fs = fs;
      front = front-rows v counting n base xs ks o.ordered;
      sweeps = record {
        on = record {
          ahead = o.ordered.ascending;
          stair = tt;
          past = λ e k m. absurd m;
          rows = λ k m. (in-base k m, eqb-true (row_at base k).place v (and-true (eqb (row_at base k).place v) (counts_at counting (row_at base k).step) (o.ordered.are k m).1).0);
          differ = o.ordered.differ;
          left = refl;
          within = omega arith;
          last = λ h. absurd (omega arith);
          rooms = λ k m. in-base k (swept-left (cost_at base) ks [] o.ordered.ascending k m).member;
        };
        few = omega (arith, o.few);
        few-counted = omega (arith, o.few);
      };
      none_yet = refl;
    }
  where
    ks : List ℕ
    ks = chain xs r.rows r.first

    fs : List ℕ
    fs = swept (cost_at base) [] (chain xs r.rows r.first)

    in-base : (k : ℕ) → k ∈ chain xs r.rows r.first → InTable base k
    in-base k m = record { room = omega (arith, (o.ordered.are k m).0) }

-- the table is put back
all-gone : {v : ℕ} {xs ys : List ℕ} {g r : Gap} (w : Released v 0 xs ys g r) → w.rows.gone ≡ chain xs g.rest g.right
all-gone {v} {xs} {ys} {g} {r} w =
    let z : r.rest ≡ 0 = ⊎_elim (λ h. absurd (omega (arith, w.cheap h))) (λ h. omega arith) (lt-or-le 0 r.rest) in
    sym (w.rows.parts ∙ ap (λ (l : List ℕ). w.rows.gone ++ l) (chain-none ys r.rest r.right z) ∙ append-nil w.rows.gone)

module _ {base : List ℕ} {v : ℕ} {xs : List ℕ} {s : Sweep} {fs : List ℕ} (p : Sweeps base v xs s fs) where
  pub undo-ahead : Releasable xs (start_of s.at s.rest)
  undo-ahead =
      record {
        rooms = λ k m. in_table p.on.differ.same_length (p.on.rows k (mem-right k (stair_of xs s) (ahead_of xs s) m)).0;
        once = once-ascending (rank (cost_at base)) (ahead_of xs s) p.on.ahead;
        few = omega arith;
      }

  module _ {ys : List ℕ} {r : Gap} (w : Released v 0 xs ys (start_of s.at s.rest) r) where
    ahead-gone : w.rows.gone ≡ ahead_of xs s
    ahead-gone = all-gone w

    same-stair : stair_of ys s ≡ stair_of xs s
    same-stair =
        chain-kept xs ys s.size s.top
        (λ k m. differ-link w.rows.gone w.rows.differ k (λ n. Lex-irrefl (rank (cost_at base) k) (p.on.past k k m (subst (λ (l : List ℕ). k ∈ l) ahead-gone n))))

    pub undo-stair : Releasable ys (start_of s.top s.size)
    undo-stair =
        record {
          rooms = λ k m. in_table (w.rows.differ.same_length ∙ p.on.differ.same_length) (p.on.rows k (mem-left k (stair_of xs s) (ahead_of xs s) (subst (λ (l : List ℕ). k ∈ l) same-stair m))).0;
          once = subst Once (sym same-stair) (once-ascending (third (cost_at base)) (stair_of xs s) p.on.stair);
          few = omega arith;
        }

    pub undone : {zs : List ℕ} {q : Gap} → Released v 0 ys zs (start_of s.top s.size) q → zs ≡ base
    undone {zs} {q} u =
        differ-end
        (differ-freed (stair_of xs s) u.rows.gone []
        (differ-freed (stair_of xs s ++ ahead_of xs s) w.rows.gone (stair_of xs s) p.on.differ w.rows.differ (λ d m. w.rows.freed d m ∙ sym (here d (mem-right d (stair_of xs s) (ahead_of xs s) (subst (λ (l : List ℕ). d ∈ l) ahead-gone m)))) split)
        u.rows.differ
        (λ d m. u.rows.freed d m ∙ sym (here d (mem-left d (stair_of xs s) (ahead_of xs s) (subst (λ (l : List ℕ). d ∈ l) (all-gone u ∙ same-stair) m))))
        (λ k m. inl (subst (λ (l : List ℕ). k ∈ l) (sym (all-gone u ∙ same-stair)) m)))
      where
        here : (d : ℕ) → d ∈ (stair_of xs s ++ ahead_of xs s) → number base (d * 5) ≡ v
        here d m = (p.on.rows d m).1

        split : (k : ℕ) → k ∈ (stair_of xs s ++ ahead_of xs s) → k ∈ w.rows.gone ⊎ k ∈ stair_of xs s
        split k m = ⊎_elim inr (λ n. inl (subst (λ (l : List ℕ). k ∈ l) (sym ahead-gone) n)) (mem-append k (stair_of xs s) (ahead_of xs s) m)

-- no row is ahead
pub counted-all : {base : List ℕ} {v : ℕ} {xs : List ℕ} {s : Sweep} {fs : List ℕ} → Sweeps base v xs s fs → s.rest ≡ 0 → s.count ≡ length fs
counted-all {base} {v} {xs} {s} {fs} p z =
    let e : drop s.count fs ≡ [] = sym p.on.left ∙ ap (swept (cost_at base) (stair_of xs s)) (chain-none xs s.rest s.at z) in
    omega (arith, p.on.within, length-drop s.count fs, ap length e)

-- the count of front costs
pub front-counted : {v : ℕ} {counting : List ℕ} {n : ℕ} {base fs : List ℕ} → FrontRows v counting n base fs → length fs ≡ length (front_of (costs_of (goal_rows v counting n base)))
front-counted {v} {counting} {n} {base} {fs} f = sym (length-map fs (cost_at base)) ∙ ap (λ (l : List Cost). length l) f.costs-are

pub counted-front : {v : ℕ} {counting : List ℕ} {n : ℕ} {base xs ys : List ℕ} {s r : Sweep} (b : Begun v counting n base xs s) → SweptTo v 4294967295 xs ys s r → r.count ≡ length (front_of (costs_of (goal_rows v counting n base)))
counted-front {v} {counting} {n} {base} {xs} {ys} {s} {r} b t =
    let p = t.on.of base b.fs b.sweeps in
    counted-all p (⊎_elim (λ e. e) (λ h. omega (arith, p.few-counted)) t.end) ∙ front-counted b.front

-- the front cost with a number
pub get-member : (l : List ℕ) (i : ℕ) → i < length l → get_or l i 0 ∈ l
get-member [] i h = absurd (omega arith)
get-member (x ∷ l) zero h = inl refl
get-member (x ∷ l) (suc i) h = inr (get-member l i (omega arith))

get-map : (f : ℕ → Cost) (l : List ℕ) (i : ℕ) → i < length l → get_or (map f l) i [] ≡ f (get_or l i 0)
get-map f [] i h = absurd (omega arith)
get-map f (x ∷ l) zero h = refl
get-map f (x ∷ l) (suc i) h = get-map f l i (omega arith)

module _ {v : ℕ} {counting : List ℕ} {n : ℕ} {base fs : List ℕ} (f : FrontRows v counting n base fs) (i : ℕ) where
  cost-is : i < length fs → cost_at base (get_or fs i 0) ≡ get_or (front_of (costs_of (goal_rows v counting n base))) i []
  cost-is h = sym (get-map (cost_at base) fs i h) ∙ ap (λ (l : List Cost). get_or l i []) f.costs-are

  pub number_at : (o : Offered) → i < length fs → o.cost ≡ cost_at base (get_or fs i 0) → o.step.0 ≡ (row_at base (get_or fs i 0)).step → Numbered (goal_rows v counting n base) i o
  number_at o h e s =
      record {
        within = omega (arith, front-counted f);
        cost-is = e ∙ cost-is h;
        step-is = s ∙ f.steps-are (get_or fs i 0) (get-member fs i h) ∙ ap (λ (g : Cost). first_step_of g (goal_rows v counting n base)) (sym e);
      }

  pub at-number : (o : Offered) → i < length fs → Numbered (goal_rows v counting n base) i o → o.cost ++ (o.step.0 ∷ []) ≡ list_row base (get_or fs i 0)
  at-number o h w =
      let e : o.cost ≡ cost_at base (get_or fs i 0) = w.cost-is ∙ sym (cost-is h) in
      ap₂ (λ (g : Cost) (s : ℕ). g ++ (s ∷ [])) e (w.step-is ∙ ap (λ (g : Cost). first_step_of g (goal_rows v counting n base)) e ∙ sym (f.steps-are (get_or fs i 0) (get-member fs i h)))

module _ {v : ℕ} {counting : List ℕ} {n : ℕ} {base xs ys : List ℕ} {s r : Sweep} (i : ℕ) (b : Begun v counting n base xs s) (t : SweptTo v (i + 1) xs ys s r) where
  p : Sweeps base v ys r b.fs
  p = t.on.of base b.fs b.sweeps

  pub number-off : r.count ≤ i → length (front_of (costs_of (goal_rows v counting n base))) ≤ i
  number-off h = omega (arith, h, counted-all p (⊎_elim (λ z. z) (λ z. absurd (omega arith)) t.end), front-counted b.front)

  pub number-row : i < r.count → (r.row ∈ b.fs) × (r.row ≡ get_or b.fs i 0) × (i < length b.fs)
  number-row h =
      let z : r.count ≡ i + 1 = omega (arith, t.most-is) in
      let e : r.row ≡ get_or b.fs i 0 = p.on.last (omega arith) ∙ ap (λ (j : ℕ). get_or b.fs j 0) (let y : r.count - 1 ≡ i = omega arith in y) in
      let l : i < length b.fs = omega (arith, p.on.within) in
      (subst (λ (j : ℕ). j ∈ b.fs) (sym e) (get-member b.fs i l), e, l)

  pub number-room : i < r.count → InTable base r.row
  number-room h = p.on.rooms r.row (number-row h).0

  pub number-on : (o : Offered) → i < r.count → o.cost ≡ cost_at base r.row → o.step.0 ≡ (row_at base r.row).step → Numbered (goal_rows v counting n base) i o
  number-on o h e f =
      let w = number-row h in
      number_at b.front i o w.2 (e ∙ ap (cost_at base) w.1) (f ∙ ap (λ (j : ℕ). (row_at base j).step) w.1)
