-- What a sweep in the order of costs leaves: a row is left exactly where no row before it is nowhere above it. So the costs left ascend, and they are
-- those that no cost dominates; of rows of equal cost the first is left.
-- Assumes nothing.
use mathlib.Core.Path.{◌≡◌, refl, sym, ◌∙◌, ap, subst}
use mathlib.Core.Logic.{◌⊎◌, inl, inr, ⊎_elim}
use mathlib.Core.Bool.{Bool, true, false, ◌||◌, true≢false}
use mathlib.Core.List.{List, [], ◌∷◌, ◌++◌, map}
use Prim.Native.Nat.{ℕ}
use native.Mathlib.Omega.{arith}
use lib.ListN.{length}
use Rattle.sheet.specs.Lists.{◌∈◌, pick, Lex}
use Rattle.sheet.specs.Sorting.{Before, Ascending}
use Rattle.sheet.specs.Laws.Order.{Lex-irrefl}
use Rattle.sheet.specs.Laws.Ascending.{before-all}
use Rattle.costs.specs.Costs.{Cost, AtMost, Dominates}
use Rattle.costs.specs.Computed.{at_most_b}
use Rattle.costs.specs.Laws.Figures.{at_most_b-true, at-most-at_most_b, at-most-refl, at-most-trans, undominated-same, Lex-asym}
use Rattle.journeys.specs.Computed.{self}
use Rattle.journeys.specs.Inner.Chain.{rank}
use Rattle.journeys.specs.Inner.Sweep.{led_by, swept}

-- the test over the rows of a list
module _ (c : ℕ → Cost) where
  pub led-by : (es : List ℕ) (e k : ℕ) → e ∈ es → AtMost (c e) (c k) → led_by c es k ≡ true
  led-by [] e k m h = absurd m
  led-by (x ∷ es) e k (inl q) h = rw (at-most-at_most_b (c x) (c k) (subst (λ (i : ℕ). AtMost (c i) (c k)) q h))
  led-by (x ∷ es) e k (inr m) h = go (at_most_b (c x) (c k)) (led-by es e k m h)
    where
      go : (b : Bool) → led_by c es k ≡ true → b || led_by c es k ≡ true
      go true q = refl
      go false q = q

  pub unled : (es : List ℕ) (k : ℕ) → led_by c es k ≡ false → (e : ℕ) → e ∈ es → AtMost (c e) (c k) → ⊥
  unled es k q e m h = true≢false (sym (led-by es e k m h) ∙ q)

  pub led-some : (es : List ℕ) (k : ℕ) → led_by c es k ≡ true → (e : ℕ) × (e ∈ es) × AtMost (c e) (c k)
  led-some [] k q = absurd (true≢false (sym q))
  led-some (x ∷ es) k q = go (at_most_b (c x) (c k)) refl q (led-some es k)
    where
      go : (b : Bool) → at_most_b (c x) (c k) ≡ b → b || led_by c es k ≡ true → (led_by c es k ≡ true → (e : ℕ) × (e ∈ es) × AtMost (c e) (c k)) → (e : ℕ) × (e ∈ (x ∷ es)) × AtMost (c e) (c k)
      go true p q f = (x, inl refl, at_most_b-true (c x) (c k) p)
      go false p q f = let r = f q in (r.0, inr r.1, r.2)

  pub not-led : (es : List ℕ) (k : ℕ) → ((e : ℕ) → e ∈ es → AtMost (c e) (c k) → ⊥) → led_by c es k ≡ false
  not-led es k n = go (led_by c es k) refl
    where
      go : (b : Bool) → led_by c es k ≡ b → led_by c es k ≡ false
      go true q = let r = led-some es k q in absurd (n r.0 r.1 r.2)
      go false q = q

  pub led-same : (es fs : List ℕ) (k : ℕ) → ((e : ℕ) → e ∈ es → AtMost (c e) (c k) → led_by c fs k ≡ true) → ((f : ℕ) → f ∈ fs → AtMost (c f) (c k) → led_by c es k ≡ true) → led_by c es k ≡ led_by c fs k
  led-same es fs k p q = go (led_by c fs k) refl
    where
      go : (b : Bool) → led_by c fs k ≡ b → led_by c es k ≡ b
      go true e = let r = led-some fs k e in q r.0 r.1 r.2
      go false e = not-led es k (λ x m h. true≢false (sym (p x m h) ∙ e))

  -- lists that pass the same tests leave the same rows
  pub swept_same : (ks es fs : List ℕ) → ((k : ℕ) → k ∈ ks → led_by c es k ≡ led_by c fs k) → swept c es ks ≡ swept c fs ks
  swept_same [] es fs h = refl
  swept_same (k ∷ ks) es fs h =
      let e = h k (inl refl) in
      let p : swept c es ks ≡ swept c fs ks = swept_same ks es fs (λ j m. h j (inr m)) in
      let q : swept c (k ∷ es) ks ≡ swept c (k ∷ fs) ks = swept_same ks (k ∷ es) (k ∷ fs) (λ j m. ap (λ (b : Bool). at_most_b (c k) (c j) || b) (h j (inr m))) in
      rw (e, p, q)

  -- a row that is left
  pub record Left (es ks : List ℕ) (k : ℕ) : Type 0 where
    pub member : k ∈ ks
    pub alone : led_by c es k ≡ false
    pub first : (j : ℕ) → j ∈ ks → Lex (rank c j) (rank c k) → AtMost (c j) (c k) → ⊥

  pub swept-left : (ks es : List ℕ) → Ascending (rank c) ks → (k : ℕ) → k ∈ swept c es ks → Left es ks k
  swept-left [] es s k m = absurd m
  swept-left (x ∷ ks) es s k m = go (led_by c es x) refl m (swept-left ks es s.1 k) (swept-left ks (x ∷ es) s.1 k)
    where
      go : (b : Bool) → led_by c es x ≡ b → k ∈ pick b (swept c es ks) (x ∷ swept c (x ∷ es) ks) → (k ∈ swept c es ks → Left es ks k) → (k ∈ swept c (x ∷ es) ks → Left (x ∷ es) ks k) → Left es (x ∷ ks) k
      go true e n f g =
          let r = f n in
          let w = led-some es x e in
          record {
            member = inr r.member;
            alone = r.alone;
            first = λ j i l h. ⊎_elim (λ q. unled es k r.alone w.0 w.1 (at-most-trans (c w.0) (c x) (c k) w.2 (subst (λ (y : ℕ). AtMost (c y) (c k)) q h))) (λ q. r.first j q l h) i;
          }
      go false e (inl q) f g =
          record {
            member = inl q;
            alone = ap (led_by c es) q ∙ e;
            first = λ j i l h. ⊎_elim (λ p. Lex-irrefl (rank c k) (subst (λ (y : ℕ). Lex (rank c y) (rank c k)) (p ∙ sym q) l)) (λ p. Lex-asym (rank c j) (rank c k) l (subst (λ (y : ℕ). Lex (rank c y) (rank c j)) (sym q) (before-all (rank c) x ks s.0 s.1 j p))) i;
          }
      go false e (inr n) f g =
          let r = g n in
          record {
            member = inr r.member;
            alone = not-led es k (λ y w. unled (x ∷ es) k r.alone y (inr w));
            first = λ j i l h. ⊎_elim (λ q. unled (x ∷ es) k r.alone x (inl refl) (subst (λ (y : ℕ). AtMost (c y) (c k)) q h)) (λ q. r.first j q l h) i;
          }

  module _ (wide : (i j : ℕ) → length (c i) ≡ length (c j)) where
    -- a cost that none dominates is left
    pub left-swept : (ks es : List ℕ) (k : ℕ) → k ∈ ks → led_by c es k ≡ false → ((j : ℕ) → j ∈ ks → Dominates (c j) (c k) → ⊥) → c k ∈ map c (swept c es ks)
    left-swept [] es k m a n = absurd m
    left-swept (x ∷ ks) es k m a n = go (led_by c es x) refl m (λ i. left-swept ks es k i a (λ j p. n j (inr p))) (λ i p. left-swept ks (x ∷ es) k i p (λ j q. n j (inr q)))
      where
        go : (b : Bool) → led_by c es x ≡ b → k ∈ (x ∷ ks) → (k ∈ ks → c k ∈ map c (swept c es ks)) → (k ∈ ks → led_by c (x ∷ es) k ≡ false → c k ∈ map c (swept c (x ∷ es) ks))
            → c k ∈ map c (pick b (swept c es ks) (x ∷ swept c (x ∷ es) ks))
        go true e (inl q) f g = absurd (true≢false (sym e ∙ ap (led_by c es) (sym q) ∙ a))
        go true e (inr i) f g = f i
        go false e (inl q) f g = inl (ap c q)
        go false e (inr i) f g = test (at_most_b (c x) (c k)) refl
          where
            test : (b : Bool) → at_most_b (c x) (c k) ≡ b → c k ∈ map c (x ∷ swept c (x ∷ es) ks)
            test true p = inl (sym (undominated-same (c x) (c k) (wide x k) (at_most_b-true (c x) (c k) p) (n x (inl refl))))
            test false p = inr (g i (rw p a))

    -- the costs ascend
    lex-less : (a b x y : List ℕ) → length a ≡ length b → Lex (a ++ x) (b ++ y) → (a ≡ b) ⊎ Lex a b
    lex-less [] [] x y e h = inl refl
    lex-less [] (q ∷ b) x y e h = absurd (omega arith)
    lex-less (p ∷ a) [] x y e h = absurd (omega arith)
    lex-less (p ∷ a) (q ∷ b) x y e (inl h) = inr (inl h)
    lex-less (p ∷ a) (q ∷ b) x y e (inr h) = ⊎_elim (λ z. inl (let u = h.0 in cc)) (λ z. inr (inr (h.0, z))) (lex-less a b x y (omega arith) h.1)

    pub swept-ascending : (ks es : List ℕ) → Ascending (rank c) ks → Ascending self (map c (swept c es ks))
    swept-ascending [] es s = tt
    swept-ascending (x ∷ ks) es s = go (led_by c es x) (swept-ascending ks es s.1) (swept-ascending ks (x ∷ es) s.1)
      where
        above : (k : ℕ) → k ∈ swept c (x ∷ es) ks → Lex (c x) (c k)
        above k m =
            let r = swept-left ks (x ∷ es) s.1 k m in
            ⊎_elim (λ e. absurd (unled (x ∷ es) k r.alone x (inl refl) (subst (λ (g : Cost). AtMost (c x) g) e (at-most-refl (c x))))) (λ h. h)
            (lex-less (c x) (c k) (x ∷ []) (k ∷ []) (wide x k) (before-all (rank c) x ks s.0 s.1 k r.member))

        first : (l : List ℕ) → ((k : ℕ) → k ∈ l → Lex (c x) (c k)) → Before self (c x) (map c l)
        first [] f = tt
        first (k ∷ l) f = f k (inl refl)

        go : (b : Bool) → Ascending self (map c (swept c es ks)) → Ascending self (map c (swept c (x ∷ es) ks)) → Ascending self (map c (pick b (swept c es ks) (x ∷ swept c (x ∷ es) ks)))
        go true p q = p
        go false p q = (first (swept c (x ∷ es) ks) above, q)
