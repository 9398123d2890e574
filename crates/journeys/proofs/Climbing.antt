-- Looking in the stair: the third figure ascends along it, so that past the first row whose third figure is not below row k's no row is nowhere above
-- row k, but perhaps that one.
-- Assumes nothing.
use mathlib.Core.Path.{◌≡◌, refl, sym, ◌∙◌, ap₂, subst}
use mathlib.Core.Logic.{inl, inr, ⊎_elim}
use mathlib.Core.Bool.{Bool, true, false, true≢false}
use mathlib.Core.List.{List, [], ◌∷◌}
use Prim.Native.Nat.{ℕ, ◌*◌, ◌-◌, ◌≤◌, ◌<◌}
use native.Mathlib.Omega.{arith}
use Rattle.sheet.specs.Lists.{◌∈◌, number, Lex}
use Rattle.sheet.specs.Sorting.{Ascending}
use Rattle.sheet.specs.Laws.Ascending.{before-all}
use Rattle.costs.specs.Costs.{Cost, fig, AtMost}
use Rattle.costs.specs.Computed.{at_most_b}
use Rattle.costs.specs.Laws.Figures.{at_most_b-true, at-most-at_most_b}
use Rattle.arrivals.specs.Rows.{cost_at}
use Rattle.journeys.specs.Inner.Chain.{chain, InTable, Parted, start_of, next_of}
use Rattle.journeys.specs.Inner.Sweep.{third, Climbable, Climbed}
use Rattle.journeys.specs.declared.chain.Gap.{Gap}
use Rattle.journeys.proofs.Chains.{chain_head, chain-none, right-mem, onto-mem, parted-start, parted-next, right-ascending}
use Rattle.journeys.proofs.Swept.{led-by, not-led}

-- the rows before the gap have a lower third figure than row k, and none of them is nowhere above it
pub record Climbing (xs : List ℕ) (ks : List ℕ) (k : ℕ) (g : Gap) : Type 0 where
  pub before : List ℕ
  pub parted : Parted xs g ks before
  pub below : (e : ℕ) → e ∈ before → fig (cost_at xs e) 2 < fig (cost_at xs k) 2
  pub none : (e : ℕ) → e ∈ before → AtMost (cost_at xs e) (cost_at xs k) → ⊥

pub climbing-start : (xs : List ℕ) (top size k : ℕ) (g : Gap) → g ≡ start_of top size → Climbing xs (chain xs size top) k g
climbing-start xs top size k g e = rw e record { before = []; parted = parted-start xs top size; below = λ e m. absurd m; none = λ e m. absurd m }

-- a test of two rows' costs
pub tested : (a b x y : Cost) (r t : Bool) → x ≡ a → y ≡ b → r ≡ at_most_b x y → r ≡ t → at_most_b a b ≡ t
tested a b x y r t p q e f = ap₂ at_most_b (sym p) (sym q) ∙ sym e ∙ f

module _ {xs : List ℕ} {top size k : ℕ} {g : Gap} (p : Climbable xs top size k) (s : Climbing xs (chain xs size top) k g) where
  member : (e : ℕ) → e ∈ chain xs g.rest g.right → e ∈ chain xs size top
  member e m = subst (λ (l : List ℕ). e ∈ l) s.parted.whole (right-mem s.before (chain xs g.rest g.right) e m)

  head : 0 < g.rest → chain xs g.rest g.right ≡ g.right ∷ chain xs (g.rest - 1) (number xs (g.right * 5))
  head h = chain_head xs g.rest g.right h

  first : 0 < g.rest → g.right ∈ chain xs size top
  first h = member g.right (subst (λ (l : List ℕ). g.right ∈ l) (sym (head h)) (inl refl))

  pub climb-room : 0 < g.rest → InTable xs g.right
  climb-room h = p.rooms g.right (first h)

  pub climb-led : 0 < g.rest → at_most_b (cost_at xs g.right) (cost_at xs k) ≡ true → Climbed xs top size k (record { led = true; gap = g })
  climb-led h e = record { led-is = sym (led-by (cost_at xs) (chain xs size top) g.right k (first h) (at_most_b-true (cost_at xs g.right) (cost_at xs k) e)); between = λ t. absurd (true≢false t) }

  pub climb-next : 0 < g.rest → at_most_b (cost_at xs g.right) (cost_at xs k) ≡ false → fig (cost_at xs g.right) 2 < fig (cost_at xs k) 2 → Climbing xs (chain xs size top) k (next_of xs g)
  climb-next h u l =
      record {
        before = g.right ∷ s.before;
        parted = parted-next xs g (chain xs size top) s.before h s.parted;
        below = λ e m. ⊎_elim (λ q. subst (λ (i : ℕ). fig (cost_at xs i) 2 < fig (cost_at xs k) 2) (sym q) l) (s.below e) m;
        none = λ e m. ⊎_elim (λ q w. true≢false (sym (at-most-at_most_b (cost_at xs g.right) (cost_at xs k) (subst (λ (i : ℕ). AtMost (cost_at xs i) (cost_at xs k)) q w)) ∙ u)) (s.none e) m;
      }

  -- no row after the gap is below row k in its third figure, and none is nowhere above it
  climb-free : ((e : ℕ) → e ∈ chain xs g.rest g.right → (fig (cost_at xs k) 2 ≤ fig (cost_at xs e) 2) × (AtMost (cost_at xs e) (cost_at xs k) → ⊥)) → Climbed xs top size k (record { led = false; gap = g })
  climb-free f =
      record {
        led-is = sym (not-led (cost_at xs) (chain xs size top) k (λ e m. ⊎_elim (s.none e) (λ n. (f e n).1) (onto-mem s.before (chain xs g.rest g.right) e (subst (λ (l : List ℕ). e ∈ l) (sym s.parted.whole) m))));
        between = λ t. record { before = s.before; parted = s.parted; below = s.below; above = λ e m. (f e m).0 };
      }

  pub climb-end : g.rest ≡ 0 → Climbed xs top size k (record { led = false; gap = g })
  climb-end z = climb-free (λ e m. absurd (subst (λ (l : List ℕ). e ∈ l) (chain-none xs g.rest g.right z) m))

  pub climb-stop : 0 < g.rest → at_most_b (cost_at xs g.right) (cost_at xs k) ≡ false → fig (cost_at xs k) 2 ≤ fig (cost_at xs g.right) 2 → Climbed xs top size k (record { led = false; gap = g })
  climb-stop h q l = climb-free (λ e m. go e (subst (λ (l : List ℕ). e ∈ l) (head h) m))
    where
      asc : Ascending (third (cost_at xs)) (g.right ∷ chain xs (g.rest - 1) (number xs (g.right * 5)))
      asc =
          subst (Ascending (third (cost_at xs))) (head h)
          (right-ascending (third (cost_at xs)) s.before (chain xs g.rest g.right) (subst (Ascending (third (cost_at xs))) (sym s.parted.whole) p.ascending))

      higher : (a b : ℕ) → Lex (a ∷ []) (b ∷ []) → a < b
      higher a b (inl w) = w
      higher a b (inr w) = absurd w.1

      go : (e : ℕ) → e ∈ (g.right ∷ chain xs (g.rest - 1) (number xs (g.right * 5))) → (fig (cost_at xs k) 2 ≤ fig (cost_at xs e) 2) × (AtMost (cost_at xs e) (cost_at xs k) → ⊥)
      go e (inl z) = rw z (l, λ w. true≢false (sym (at-most-at_most_b (cost_at xs g.right) (cost_at xs k) w) ∙ q))
      go e (inr m) =
          let u = higher (fig (cost_at xs g.right) 2) (fig (cost_at xs e) 2) (before-all (third (cost_at xs)) g.right (chain xs (g.rest - 1) (number xs (g.right * 5))) asc.0 asc.1 e m) in
          (omega arith, λ w. omega (arith, w.every 2))
