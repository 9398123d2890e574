-- Laws of members: of appended lists, of filters and tests, of lists made member by member; and minimal members under a decided strict order.
use Rattle.std.specs.Prelude.{◌≡◌, refl, ◌⊎◌, Bool, true, false, ◌&&◌, ◌||◌, List, [], ◌∷◌, ◌++◌, map, ℕ, zero, suc, ◌+◌, ◌<◌, length, get_or}
use Rattle.std.proofs.Common.{sym, ◌∙◌, ap, subst, inl, inr, true≢false, arith, add-zero, zero-add}
use Rattle.sheet.specs.Lists.{◌∈◌, keep, filter, all, any, bind}
use Rattle.sheet.specs.Laws.Order.{and-true, true-and}

module _ {A : Type 0} where
  pub mem-left : (a : A) (l k : List A) → a ∈ l → a ∈ (l ++ k)
  mem-left a [] k m = absurd m
  mem-left a (x ∷ l) k (inl e) = inl e
  mem-left a (x ∷ l) k (inr m) = inr (mem-left a l k m)

  pub mem-right : (a : A) (l k : List A) → a ∈ k → a ∈ (l ++ k)
  mem-right a [] k m = m
  mem-right a (x ∷ l) k m = inr (mem-right a l k m)

  pub mem-append : (a : A) (l k : List A) → a ∈ (l ++ k) → a ∈ l ⊎ a ∈ k
  mem-append a [] k m = inr m
  mem-append a (x ∷ l) k (inl e) = inl (inl e)
  mem-append a (x ∷ l) k (inr m) = under (mem-append a l k m)
    where
      under : a ∈ l ⊎ a ∈ k → a ∈ (x ∷ l) ⊎ a ∈ k
      under (inl m) = inl (inr m)
      under (inr m) = inr m

  pub mem-keep : (b : Bool) (x a : A) (l : List A) → a ∈ keep b x l → ((a ≡ x) × (b ≡ true)) ⊎ a ∈ l
  mem-keep true x a l (inl e) = inl (e, refl)
  mem-keep true x a l (inr m) = inr m
  mem-keep false x a l m = inr m

  pub keep-head : (b : Bool) (x a : A) (l : List A) → b ≡ true → a ≡ x → a ∈ keep b x l
  keep-head true x a l p e = inl e
  keep-head false x a l p e = absurd (true≢false (sym p))

  pub keep-tail : (b : Bool) (x a : A) (l : List A) → a ∈ l → a ∈ keep b x l
  keep-tail true x a l m = inr m
  keep-tail false x a l m = m

  pub filter-mem : (p : A → Bool) (a : A) (l : List A) → a ∈ filter p l → (a ∈ l) × (p a ≡ true)
  filter-mem p a [] m = absurd m
  filter-mem p a (x ∷ l) m = go (filter-mem p a l) (mem-keep (p x) x a (filter p l) m)
    where
      go : (a ∈ filter p l → (a ∈ l) × (p a ≡ true)) → ((a ≡ x) × (p x ≡ true)) ⊎ a ∈ filter p l → (a ∈ (x ∷ l)) × (p a ≡ true)
      go f (inl h) = (inl h.0, ap p h.0 ∙ h.1)
      go f (inr n) = (inr (f n).0, (f n).1)

  pub mem-filter : (p : A → Bool) (a : A) (l : List A) → a ∈ l → p a ≡ true → a ∈ filter p l
  mem-filter p a [] m h = absurd m
  mem-filter p a (x ∷ l) (inl e) h = keep-head (p x) x a (filter p l) (ap p (sym e) ∙ h) e
  mem-filter p a (x ∷ l) (inr m) h = keep-tail (p x) x a (filter p l) (mem-filter p a l m h)

  pub all_true : (p : A → Bool) (l : List A) → all p l ≡ true → (a : A) → a ∈ l → p a ≡ true
  all_true p [] h a m = absurd m
  all_true p (x ∷ l) h a (inl e) = ap p e ∙ (and-true (p x) (all p l) h).0
  all_true p (x ∷ l) h a (inr m) = all_true p l (and-true (p x) (all p l) h).1 a m

  pub true-all : (p : A → Bool) (l : List A) → ((a : A) → a ∈ l → p a ≡ true) → all p l ≡ true
  true-all p [] h = refl
  true-all p (x ∷ l) h = true-and (p x) (all p l) (h x (inl refl)) (true-all p l (λ a m. h a (inr m)))

  pub any-mem : (p : A → Bool) (l : List A) → any p l ≡ true → (a : A) × (a ∈ l) × (p a ≡ true)
  any-mem p [] h = absurd (true≢false (sym h))
  any-mem p (x ∷ l) h = go (p x) refl h (any-mem p l)
    where
      go : (b : Bool) → p x ≡ b → b || any p l ≡ true → (any p l ≡ true → (a : A) × (a ∈ l) × (p a ≡ true)) → (a : A) × (a ∈ (x ∷ l)) × (p a ≡ true)
      go true q e f = (x, inl refl, q)
      go false q e f = let r = f e in (r.0, inr r.1, r.2)

  pub mem-any : (p : A → Bool) (l : List A) (a : A) → a ∈ l → p a ≡ true → any p l ≡ true
  mem-any p [] a m h = absurd m
  mem-any p (x ∷ l) a (inl e) h = rw (sym (ap p e) ∙ h)
  mem-any p (x ∷ l) a (inr m) h = go (p x) (mem-any p l a m h)
    where
      go : (b : Bool) → any p l ≡ true → b || any p l ≡ true
      go true e = refl
      go false e = e

  -- every member passes the test of its position, counted from n on
  abbrev pub all_from : (ℕ → A → Bool) → ℕ → List A → Bool
  all_from p n [] = true
  all_from p n (x ∷ l) = let r = all_from p (suc n) l in p n x && r

  from_at : (p : ℕ → A → Bool) (d : A) (n : ℕ) (l : List A) → all_from p n l ≡ true → (i : ℕ) → i < length l → p (n + i) (get_or l i d) ≡ true
  from_at p d n [] e i h = absurd (omega arith)
  from_at p d n (x ∷ l) e zero h = rw add-zero (and-true (p n x) (all_from p (suc n) l) e).0
  from_at p d n (x ∷ l) e (suc i) h =
      ap (λ (m : ℕ). p m (get_or l i d)) (omega arith) ∙ from_at p d (suc n) l (and-true (p n x) (all_from p (suc n) l) e).1 i (omega arith)

  -- a test that every member passes at its position
  pub all-at : (p : ℕ → A → Bool) (d : A) (l : List A) → all_from p 0 l ≡ true → (i : ℕ) → i < length l → p i (get_or l i d) ≡ true
  all-at p d l e i h = ap (λ (m : ℕ). p m (get_or l i d)) (sym (zero-add i)) ∙ from_at p d 0 l e i h

-- the results of f over the members, one after another
module _ {A B : Type 0} where
  pub mem-bind : (f : A → List B) (b : B) (l : List A) (a : A) → a ∈ l → b ∈ f a → b ∈ bind l f
  mem-bind f b [] a m n = absurd m
  mem-bind f b (x ∷ l) a (inl e) n = mem-left b (f x) (bind l f) (subst (λ (y : A). b ∈ f y) e n)
  mem-bind f b (x ∷ l) a (inr m) n = mem-right b (f x) (bind l f) (mem-bind f b l a m n)

  pub bind-mem : (f : A → List B) (b : B) (l : List A) → b ∈ bind l f → (a : A) × (a ∈ l) × (b ∈ f a)
  bind-mem f b [] m = absurd m
  bind-mem f b (x ∷ l) m = go (bind-mem f b l) (mem-append b (f x) (bind l f) m)
    where
      go : (b ∈ bind l f → (a : A) × (a ∈ l) × (b ∈ f a)) → b ∈ f x ⊎ b ∈ bind l f → (a : A) × (a ∈ (x ∷ l)) × (b ∈ f a)
      go r (inl n) = (x, inl refl, n)
      go r (inr n) = ((r n).0, inr (r n).1, (r n).2)

  pub mem-map : (f : A → B) (a : A) (l : List A) → a ∈ l → f a ∈ map f l
  mem-map f a [] m = m
  mem-map f a (x ∷ l) (inl e) = inl (ap f e)
  mem-map f a (x ∷ l) (inr m) = inr (mem-map f a l m)

  pub map-mem : (f : A → B) (b : B) (l : List A) → b ∈ map f l → (a : A) × (a ∈ l) × (b ≡ f a)
  map-mem f b [] m = absurd m
  map-mem f b (x ∷ l) (inl e) = (x, inl refl, e)
  map-mem f b (x ∷ l) (inr m) = let r = map-mem f b l m in (r.0, inr r.1, r.2)

-- a strict order that is decided: each thing has a minimal member of the list at or below it
module _ {A : Type 0} (R : A → A → Type 0) (dec : (a b : A) → Dec (R a b)) (irrefl : (a : A) → R a a → ⊥) (trans : (a b c : A) → R a b → R b c → R a c) where
  pub record Least (l : List A) (x : A) : Type 0 where
    pub least : A
    pub below : (least ≡ x) ⊎ ((least ∈ l) × R least x)
    pub none_below : (y : A) → y ∈ l → R y least → ⊥

  pub least-below : (l : List A) (x : A) → Least l x
  least-below [] x = record { least = x; below = inl refl; none_below = λ y m h. m }
  least-below (a ∷ l) x = go (least-below l x)
    where
      pick : (r : Least l x) → Dec (R a r.least) → Least (a ∷ l) x
      pick r (yes h) = record { least = a; below = inr (inl refl, down r.below); none_below = clear }
        where
          down : (r.least ≡ x) ⊎ ((r.least ∈ l) × R r.least x) → R a x
          down (inl e) = subst (λ (z : A). R a z) e h
          down (inr q) = trans a r.least x h q.1

          clear : (y : A) → y ∈ (a ∷ l) → R y a → ⊥
          clear y (inl e) g = irrefl a (subst (λ (z : A). R z a) e g)
          clear y (inr m) g = r.none_below y m (trans y a r.least g h)
      pick r (no h) = record { least = r.least; below = wide r.below; none_below = clear }
        where
          wide : (r.least ≡ x) ⊎ ((r.least ∈ l) × R r.least x) → (r.least ≡ x) ⊎ ((r.least ∈ (a ∷ l)) × R r.least x)
          wide (inl e) = inl e
          wide (inr q) = inr (inr q.0, q.1)

          clear : (y : A) → y ∈ (a ∷ l) → R y r.least → ⊥
          clear y (inl e) g = h (subst (λ (z : A). R z r.least) e g)
          clear y (inr m) g = r.none_below y m g

      go : Least l x → Least (a ∷ l) x
      go r = pick r (dec a r.least)

-- the member at a position, of a list and of its images
pub mem-at : {A : Type 0} (d : A) (l : List A) (i : ℕ) → i < length l → get_or l i d ∈ l
mem-at d [] i h = absurd (omega arith)
mem-at d (x ∷ l) zero h = inl refl
mem-at d (x ∷ l) (suc i) h = inr (mem-at d l i (omega arith))

pub get_d_map : {A B : Type 0} (f : A → B) (l : List A) (i : ℕ) (a : A) (b : B) → i < length l → get_or (map f l) i b ≡ f (get_or l i a)
get_d_map f [] i a b h = absurd (omega arith)
get_d_map f (x ∷ l) zero a b h = refl
get_d_map f (x ∷ l) (suc i) a b h = get_d_map f l i a b (omega arith)

pub position-of : {A : Type 0} (d x : A) (l : List A) → x ∈ l → (i : ℕ) × (i < length l) × (get_or l i d ≡ x)
position-of d x [] m = absurd m
position-of d x (y ∷ l) (inl e) = (0, omega arith, sym e)
position-of d x (y ∷ l) (inr m) = let r = position-of d x l m in (suc r.0, omega (arith, r.1), r.2)
