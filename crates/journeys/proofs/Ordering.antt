-- Where a row belongs in the chain of the goal's rows before it, and that it is put there: the chain goes by costs, and by row numbers where costs are
-- equal, since a row is put after those of its cost and comes after them in the table. A row that is left out is covered by one of the chain.
-- Assumes nothing.
use mathlib.Core.Path.{◌≡◌, refl, sym, ◌∙◌, ap, subst}
use mathlib.Core.Logic.{◌⊎◌, inl, inr}
use mathlib.Core.Bool.{Bool, true, false, true≢false}
use mathlib.Core.List.{List, [], ◌∷◌, ◌++◌}
use Prim.Native.Nat.{ℕ, zero, suc, ◌+◌, ◌*◌, ◌≤◌, ◌<◌}
use native.Mathlib.Omega.{arith}
use lib.Dec.{eqb}
use lib.ListN.{length}
use borrow.Author.Tests.{eqb-true, eqb-false}
use Rattle.sheet.specs.Lists.{◌∈◌, number, Lex}
use Rattle.sheet.specs.Computed.{lexb}
use Rattle.sheet.specs.Sorting.{Before, Ascending}
use Rattle.sheet.specs.Laws.Order.{lexb-true, lexb-false}
use Rattle.costs.specs.Costs.{Cost, AtMost}
use Rattle.costs.specs.Computed.{at_most_b}
use Rattle.costs.specs.Laws.Figures.{at-most-refl, at_most_b-true}
use Rattle.arrivals.specs.Rows.{cost_at, row_at}
use Rattle.arrivals.specs.Laws.Rows.{row-path}
use Rattle.journeys.specs.Inner.{is_goal_row}
use Rattle.journeys.specs.Inner.Chain.{chain, onto, Heads, InTable, Stands, start_of, next_of, link_in, in_gap, rank, Linkable, Seekable, SoughtFrom, Sought, Covered, Ordered, Ordering, OrderedAll}
use Rattle.journeys.specs.declared.chain.Gap.{Gap}
use Rattle.journeys.specs.declared.chain.Spot.{Spot}
use Rattle.journeys.proofs.Chains.{chain_head, chain-none, left-in-table, left-mem, right-mem, onto-mem, stands-next, stands-back, parted-whole, right-ascending, onto-ascending, once-left, never_both, differ-then, differ-as, differ-costs, Fits, linked, link-differ}

-- a comparison with a row's cost
pub compared : (c a x : List ℕ) (r t : Bool) → x ≡ a → r ≡ lexb c x → r ≡ t → lexb c a ≡ t
compared c a x r t p e f = ap (lexb c) (sym p) ∙ sym e ∙ f

-- the row after a gap is one of the chain
right-in : {xs : List ℕ} {g : Gap} {ks : List ℕ} → Stands xs g ks → 0 < g.rest → g.right ∈ ks
right-in {xs} {g} s h =
    subst (λ (l : List ℕ). g.right ∈ l) s.parted.whole
    (right-mem s.before (chain xs g.rest g.right) g.right (subst (λ (l : List ℕ). g.right ∈ l) (sym (chain_head xs g.rest g.right h)) (inl refl)))

-- the rows beside a gap are rows of the table
module _ {xs : List ℕ} {g : Gap} (s : Seekable xs g) where
  pub right-room : 0 < g.rest → InTable xs g.right
  right-room h = s.rooms g.right (right-in s.stands h)

  pub left-room : (g.rest ≡ g.rows → ⊥) → InTable xs g.left
  left-room n =
      let p = s.stands.parted in
      left-in-table g s.stands.before p.count p.left_is (λ j m. s.rooms j (subst (λ (l : List ℕ). j ∈ l) p.whole (left-mem s.stands.before (chain xs g.rest g.right) j m))) n

  pub seekable-next : 0 < g.rest → Seekable xs (next_of xs g)
  seekable-next h = record { ks = s.ks; stands = stands-next xs g s.ks h s.stands; rooms = s.rooms }

  pub seekable-from : {c : Cost} (r : Gap) → SoughtFrom xs g c r → Seekable xs r
  seekable-from r f = record { ks = s.ks; stands = f.stands s.ks s.stands; rooms = s.rooms }

-- from a gap on
module _ {xs : List ℕ} {g : Gap} {c : Cost} where
  pub sought-here : g.rest ≡ g.rows → SoughtFrom xs g c g
  sought-here e = record { stands = λ ks s. s; same_rows = refl; left_below = λ n. absurd (n e) }

  pub sought-start : (r : Gap) → r ≡ start_of g.first g.rows → SoughtFrom xs g c r
  sought-start r e = rw e record { stands = λ ks. stands-back xs g ks; same_rows = refl; left_below = λ n. absurd (n refl) }

  pub sought-on : lexb c (cost_at xs g.left) ≡ false → SoughtFrom xs g c g
  sought-on e = record { stands = λ ks s. s; same_rows = refl; left_below = λ n. e }

  pub sought-next : {r : Gap} → SoughtFrom xs g c r → 0 < r.rest → lexb c (cost_at xs r.right) ≡ false → SoughtFrom xs g c (next_of xs r)
  sought-next {r} f h e = record { stands = λ ks s. stands-next xs r ks h (f.stands ks s); same_rows = f.same_rows; left_below = λ n. e }

  pub sought-then : {r q : Gap} → SoughtFrom xs g c r → SoughtFrom xs r c q → SoughtFrom xs g c q
  sought-then f h = record { stands = λ ks s. h.stands ks (f.stands ks s); same_rows = h.same_rows ∙ f.same_rows; left_below = h.left_below }

  pub sought-led : {r : Gap} → SoughtFrom xs g c r → 0 < r.rest → at_most_b (cost_at xs r.right) c ≡ true → Sought xs g c (record { led = true; gap = r })
  sought-led f h e = record { from = f; by_right = λ t. (h, e); right-above = λ t. absurd (true≢false t) }

  pub sought-above : {r : Gap} → SoughtFrom xs g c r → (0 < r.rest → lexb c (cost_at xs r.right) ≡ true) → Sought xs g c (record { led = false; gap = r })
  sought-above f e = record { from = f; by_right = λ t. absurd (true≢false (sym t)); right-above = λ t. e }

-- rows go by their costs, and those of equal cost by their numbers
lex-more : (a b x y : List ℕ) → length a ≡ length b → Lex a b → Lex (a ++ x) (b ++ y)
lex-more [] [] x y e h = absurd h
lex-more [] (q ∷ b) x y e h = absurd (omega arith)
lex-more (p ∷ a) [] x y e h = absurd h
lex-more (p ∷ a) (q ∷ b) x y e (inl h) = inl h
lex-more (p ∷ a) (q ∷ b) x y e (inr h) = inr (h.0, lex-more a b x y (omega arith) h.1)

lex-tie : (a x y : List ℕ) → Lex x y → Lex (a ++ x) (a ++ y)
lex-tie [] x y h = h
lex-tie (p ∷ a) x y h = inr (refl, lex-tie a x y h)

pub rank-cost : (xs : List ℕ) (a b : ℕ) → Lex (cost_at xs a) (cost_at xs b) → Lex (rank (cost_at xs) a) (rank (cost_at xs) b)
rank-cost xs a b h = lex-more (cost_at xs a) (cost_at xs b) (a ∷ []) (b ∷ []) refl h

pub rank-tie : (xs : List ℕ) (a b : ℕ) → cost_at xs a ≡ cost_at xs b → a < b → Lex (rank (cost_at xs) a) (rank (cost_at xs) b)
rank-tie xs a b e h = subst (λ (g : Cost). Lex (cost_at xs a ++ (a ∷ [])) (g ++ (b ∷ []))) e (lex-tie (cost_at xs a) (a ∷ []) (b ∷ []) (inl h))

-- a row of the list covers itself, and a list covers what its part does
pub covered-self : {c : ℕ → Cost} {ks : List ℕ} (k : ℕ) → k ∈ ks → Covered c ks k
covered-self {c} k m = record { by = k; member = m; no-later = omega arith; at_most = at-most-refl (c k) }

covered-as : {c : ℕ → Cost} {ks ls : List ℕ} {k : ℕ} → ((j : ℕ) → j ∈ ks → j ∈ ls) → Covered c ks k → Covered c ls k
covered-as f w = record { by = w.by; member = f w.by w.member; no-later = w.no-later; at_most = w.at_most }

-- the goal's rows before row n are covered by those chained, and row n is put in or passed over
module _ {v : ℕ} {counting : List ℕ} {n : ℕ} {base xs : List ℕ} {g : Gap} (o : Ordering v counting n base xs g) where
  small : (k : ℕ) → k ∈ o.ks → k < n
  small k m = (o.ordered.are k m).0

  here : row_at xs n ≡ row_at base n
  here =
      row-path (apart_of (n * 5) (omega arith) (omega arith)) (apart_of (n * 5 + 1) (omega arith) (omega arith)) (ap (λ (c : ℕ → Cost). c n) (differ-costs o.ks o.ordered.differ))
    where
      apart_of : (j : ℕ) → n * 5 ≤ j → j < n * 5 + 5 → number xs j ≡ number base j
      apart_of j l h = o.ordered.differ.kept j (λ k m e. omega (arith, small k m))

  passed : {r : Gap} → Stands xs r o.ks → r.rows ≡ g.rows → (is_goal_row v counting (row_at xs n) ≡ true → Covered (cost_at base) o.ks n) → Ordering v counting (n + 1) base xs r
  passed s e f =
      record {
        ks = o.ks;
        stands = s;
        ordered = record { ascending = o.ordered.ascending; are = λ k m. (omega (arith, small k m), (o.ordered.are k m).1); all = λ k h t. all k h t (eqb k n) refl; differ = o.ordered.differ };
        few = omega (arith, o.few);
      }
    where
      all : (k : ℕ) → k < n + 1 → is_goal_row v counting (row_at base k) ≡ true → (b : Bool) → eqb k n ≡ b → Covered (cost_at base) o.ks k
      all k h t true q = let z : k ≡ n = eqb-true k n q in rw z (f (ap (is_goal_row v counting) here ∙ ap (λ (i : ℕ). is_goal_row v counting (row_at base i)) (sym z) ∙ t))
      all k h t false q = let d : k ≡ n → ⊥ = eqb-false k n q in o.ordered.all k (omega arith) t

  pub ordering-skip : is_goal_row v counting (row_at xs n) ≡ false → Ordering v counting (n + 1) base xs g
  ordering-skip e = passed o.stands refl (λ t. absurd (true≢false (sym t ∙ e)))

  costs : cost_at xs ≡ cost_at base
  costs = differ-costs o.ks o.ordered.differ

  module _ (room : n * 5 + 5 ≤ length xs) where
    pub seekable-ordering : Seekable xs g
    seekable-ordering = record { ks = o.ks; stands = o.stands; rooms = λ j m. record { room = omega (arith, small j m) } }

    module _ {p : Spot} {z : Cost} (z-is : z ≡ cost_at xs n) (f : Sought xs g z p) where
      s : Stands xs p.gap o.ks
      s = f.from.stands o.ks o.stands

      pub linkable-ordering : n < 4294967295 → Linkable xs p.gap n
      linkable-ordering h = record { room = room; left-room = λ e. (left-room (seekable-from seekable-ordering p.gap f.from) e).room; few = omega (arith, f.from.same_rows, o.few) }

      pub ordering-led : p.led ≡ true → Ordering v counting (n + 1) base xs p.gap
      ordering-led e = passed s f.from.same_rows (λ t. record { by = p.gap.right; member = m; no-later = omega (arith, small p.gap.right m); at_most = below })
        where
          m : p.gap.right ∈ o.ks
          m = right-in s (f.by_right e).0

          below : AtMost (cost_at base p.gap.right) (cost_at base n)
          below =
              at_most_b-true (cost_at base p.gap.right) (cost_at base n)
              (subst (λ (c : ℕ → Cost). at_most_b (c p.gap.right) (c n) ≡ true) costs (ap (at_most_b (cost_at xs p.gap.right)) (sym z-is) ∙ (f.by_right e).1))

      pub ordering-put : p.led ≡ false → is_goal_row v counting (row_at xs n) ≡ true → (ys : List ℕ) (r : Gap) → ys ≡ link_in xs p.gap n → r ≡ in_gap p.gap n → Ordering v counting (n + 1) base ys r
      ordering-put a e ys r ey er =
          rw (ey, er)
          record {
            ks = onto s.before (n ∷ rs);
            stands = record { before = n ∷ s.before; parted = linked xs p.gap n p.gap.right s.before fits };
            ordered = record {
              ascending = onto-ascending key s.before rs (n ∷ rs) asc (first p.gap.rest refl, right-ascending key s.before rs asc) low;
              are = λ k m. are k (onto-mem s.before (n ∷ rs) k m);
              all = λ k h t. all k h t (eqb k n) refl;
              differ = differ-then (onto s.before (n ∷ rs)) (n ∷ s.before) (differ-as o.ks (onto s.before (n ∷ rs)) old o.ordered.differ) (link-differ xs p.gap n p.gap.right s.before fits) new;
            };
            few = omega (arith, f.from.same_rows, o.few);
          }
        where
          rs : List ℕ
          rs = chain xs p.gap.rest p.gap.right

          key : ℕ → List ℕ
          key = rank (cost_at base)

          asc : Ascending key (onto s.before rs)
          asc = subst (Ascending key) (sym s.parted.whole) o.ordered.ascending

          member : (k : ℕ) → k ∈ s.before ⊎ k ∈ rs → k ∈ o.ks
          member k (inl m) = subst (λ (l : List ℕ). k ∈ l) s.parted.whole (left-mem s.before rs k m)
          member k (inr m) = subst (λ (l : List ℕ). k ∈ l) s.parted.whole (right-mem s.before rs k m)

          below : (k : ℕ) → k ∈ s.before ⊎ k ∈ rs → k < n
          below k m = small k (member k m)

          fits : Fits xs p.gap n p.gap.right s.before
          fits =
              record {
                room = record { room = room };
                left-room = λ j m. record { room = omega (arith, below j (inl m)) };
                count = s.parted.count;
                back = s.parted.back;
                left_is = s.parted.left_is;
                new-left = λ m. omega (arith, below n (inl m));
                new-right = λ m. omega (arith, below n (inr m));
                once = once-left key s.before rs asc;
                both = never_both key s.before rs asc;
              }

          first : (m : ℕ) → p.gap.rest ≡ m → Before key n rs
          first zero z = subst (Before key n) (sym (chain-none xs p.gap.rest p.gap.right z)) tt
          first (suc m) z =
              let h : 0 < p.gap.rest = omega arith in
              subst (Before key n) (sym (chain_head xs p.gap.rest p.gap.right h))
              (rank-cost base n p.gap.right (lexb-true (cost_at base n) (cost_at base p.gap.right) (subst (λ (c : ℕ → Cost). lexb (c n) (c p.gap.right) ≡ true) costs (ap (λ (c : Cost). lexb c (cost_at xs p.gap.right)) (sym z-is) ∙ f.right-above a h))))

          low : (a : ℕ) → Heads a s.before → a ∈ s.before → Before key a (n ∷ rs)
          low a h m = go (lexb-false (cost_at base n) (cost_at base a) (subst (λ (c : ℕ → Cost). lexb (c n) (c a) ≡ false) costs (subst (λ (i : ℕ). lexb (cost_at xs n) (cost_at xs i) ≡ false) (same s.before h s.parted.left_is m) (ap (λ (c : Cost). lexb c (cost_at xs p.gap.left)) (sym z-is) ∙ f.from.left_below (filled s.before m s.parted.count)))))
            where
              same : (l : List ℕ) → Heads a l → Heads p.gap.left l → a ∈ l → p.gap.left ≡ a
              same [] x y w = absurd w
              same (b ∷ l) x y w = y ∙ sym x

              filled : (l : List ℕ) → a ∈ l → length l + p.gap.rest ≡ p.gap.rows → p.gap.rest ≡ p.gap.rows → ⊥
              filled [] w c z = w
              filled (b ∷ l) w c z = omega arith

              go : (cost_at base n ≡ cost_at base a) ⊎ Lex (cost_at base a) (cost_at base n) → Lex (key a) (key n)
              go (inl z) = rank-tie base a n (sym z) (below a (inl m))
              go (inr z) = rank-cost base a n z

          are : (k : ℕ) → k ∈ s.before ⊎ k ∈ (n ∷ rs) → (k < n + 1) × (is_goal_row v counting (row_at base k) ≡ true)
          are k (inl m) = (omega (arith, below k (inl m)), (o.ordered.are k (member k (inl m))).1)
          are k (inr (inl z)) = (omega arith, ap (λ (i : ℕ). is_goal_row v counting (row_at base i)) z ∙ ap (is_goal_row v counting) (sym here) ∙ e)
          are k (inr (inr m)) = (omega (arith, below k (inr m)), (o.ordered.are k (member k (inr m))).1)

          old : (k : ℕ) → k ∈ o.ks → k ∈ onto s.before (n ∷ rs)
          old k m = go (onto-mem s.before rs k (subst (λ (l : List ℕ). k ∈ l) (sym s.parted.whole) m))
            where
              go : k ∈ s.before ⊎ k ∈ rs → k ∈ onto s.before (n ∷ rs)
              go (inl w) = left-mem s.before (n ∷ rs) k w
              go (inr w) = right-mem s.before (n ∷ rs) k (inr w)

          new : (k : ℕ) → k ∈ (n ∷ s.before) → k ∈ onto s.before (n ∷ rs)
          new k (inl z) = right-mem s.before (n ∷ rs) k (inl z)
          new k (inr m) = left-mem s.before (n ∷ rs) k m

          all : (k : ℕ) → k < n + 1 → is_goal_row v counting (row_at base k) ≡ true → (b : Bool) → eqb k n ≡ b → Covered (cost_at base) (onto s.before (n ∷ rs)) k
          all k h t true z = covered-self k (right-mem s.before (n ∷ rs) k (inl (eqb-true k n z)))
          all k h t false z = let d : k ≡ n → ⊥ = eqb-false k n z in covered-as old (o.ordered.all k (omega arith) t)

-- all rows
pub ordering-all : (v : ℕ) (counting : List ℕ) (n : ℕ) (xs ys : List ℕ) (g : Gap) → Ordering v counting n xs ys g → OrderedAll v counting n xs ys g
ordering-all v counting n xs ys g o = record { ordered = subst (Ordered v counting n xs ys) (sym (parted-whole ys g o.ks o.stands.before o.stands.parted)) o.ordered; few = o.few }
