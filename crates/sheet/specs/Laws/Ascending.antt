-- Laws of ascending lists: the ascending list of members, each once, has just the members; filters and appended lists ascend; and two
-- strictly ascending lists with the same members are one, which is how lists are proved equal everywhere above.
use Rattle.std.specs.Prelude.{◌≡◌, refl, ◌⊎◌, Bool, true, false, List, [], ◌∷◌, ◌++◌, ℕ, zero, suc, ◌<◌, length, get_or}
use Rattle.std.proofs.Common.{sym, ◌∙◌, ap, subst, inl, inr, true≢false, arith}
use Rattle.sheet.specs.Lists.{◌∈◌, keep, filter, Lex}
use Rattle.sheet.specs.Computed.{lexb}
use Rattle.sheet.specs.Sorting.{Before, Ascending, put, insert, sortUnique}
use Rattle.sheet.specs.Laws.Members.{mem-at}
use Rattle.sheet.specs.Laws.Order.{Lex-irrefl, Lex-trans, lexb-true, lexb-false, Lex-lexb}

-- no two things have one key
module _ {A : Type 0} (key : A → List ℕ) where
  pub before-all : (x : A) (l : List A) → Before key x l → Ascending key l → (y : A) → y ∈ l → Lex (key x) (key y)
  before-all x [] b s y m = absurd m
  before-all x (z ∷ l) b s y (inl e) = rw e b
  before-all x (z ∷ l) b s y (inr m) = Lex-trans (key x) (key z) (key y) b (before-all z l s.0 s.1 y m)

  insert-mem : (x a : A) (l : List A) → a ∈ insert key x l → (a ≡ x) ⊎ a ∈ l
  insert-mem x a [] m = m
  insert-mem x a (y ∷ l) m = go (lexb (key x) (key y)) (lexb (key y) (key x)) (insert-mem x a l) m
    where
      under : (a ≡ x) ⊎ a ∈ l → (a ≡ x) ⊎ a ∈ (y ∷ l)
      under (inl e) = inl e
      under (inr n) = inr (inr n)

      go : (b d : Bool) → (a ∈ insert key x l → (a ≡ x) ⊎ a ∈ l) → a ∈ put key b d x y l (insert key x l) → (a ≡ x) ⊎ a ∈ (y ∷ l)
      go true d f n = n
      go false true f (inl e) = inr (inl e)
      go false true f (inr n) = under (f n)
      go false false f n = inr n

  insert-old : (x a : A) (l : List A) → a ∈ l → a ∈ insert key x l
  insert-old x a [] m = absurd m
  insert-old x a (y ∷ l) m = go (lexb (key x) (key y)) (lexb (key y) (key x)) (insert-old x a l) m
    where
      go : (b d : Bool) → (a ∈ l → a ∈ insert key x l) → a ∈ (y ∷ l) → a ∈ put key b d x y l (insert key x l)
      go true d f n = inr n
      go false true f (inl e) = inl e
      go false true f (inr n) = inr (f n)
      go false false f n = n

  module _ (inj : (a b : A) → key a ≡ key b → a ≡ b) where
    insert-new : (x : A) (l : List A) → x ∈ insert key x l
    insert-new x [] = inl refl
    insert-new x (y ∷ l) = go (lexb (key x) (key y)) (lexb (key y) (key x)) refl refl (insert-new x l)
      where
        same : (key x ≡ key y) ⊎ Lex (key y) (key x) → lexb (key y) (key x) ≡ false → x ≡ y
        same (inl e) q = inj x y e
        same (inr h) q = absurd (true≢false (sym (Lex-lexb (key y) (key x) h) ∙ q))

        go : (b d : Bool) → lexb (key x) (key y) ≡ b → lexb (key y) (key x) ≡ d → x ∈ insert key x l → x ∈ put key b d x y l (insert key x l)
        go true d p q f = inl refl
        go false true p q f = inr f
        go false false p q f = inl (same (lexb-false (key x) (key y) p) q)

    pub mem-sort_unique : (a : A) (l : List A) → a ∈ l → a ∈ sortUnique key l
    mem-sort_unique a [] m = m
    mem-sort_unique a (x ∷ l) (inl e) = rw e (insert-new x (sortUnique key l))
    mem-sort_unique a (x ∷ l) (inr m) = insert-old x a (sortUnique key l) (mem-sort_unique a l m)

  pub sort_unique-mem : (a : A) (l : List A) → a ∈ sortUnique key l → a ∈ l
  sort_unique-mem a [] m = m
  sort_unique-mem a (x ∷ l) m = go (sort_unique-mem a l) (insert-mem x a (sortUnique key l) m)
    where
      go : (a ∈ sortUnique key l → a ∈ l) → (a ≡ x) ⊎ a ∈ sortUnique key l → a ∈ (x ∷ l)
      go f (inl e) = inl e
      go f (inr n) = inr (f n)

  before-insert : (z x : A) (l : List A) → Lex (key z) (key x) → Before key z l → Before key z (insert key x l)
  before-insert z x [] h b = h
  before-insert z x (y ∷ l) h b = go (lexb (key x) (key y)) (lexb (key y) (key x))
    where
      go : (c d : Bool) → Before key z (put key c d x y l (insert key x l))
      go true d = h
      go false true = b
      go false false = b

  insert-ascending : (x : A) (l : List A) → Ascending key l → Ascending key (insert key x l)
  insert-ascending x [] s = (tt, tt)
  insert-ascending x (y ∷ l) s = go (lexb (key x) (key y)) (lexb (key y) (key x)) refl refl (insert-ascending x l s.1)
    where
      go : (c d : Bool) → lexb (key x) (key y) ≡ c → lexb (key y) (key x) ≡ d → Ascending key (insert key x l) → Ascending key (put key c d x y l (insert key x l))
      go true d p q f = (lexb-true (key x) (key y) p, s)
      go false true p q f = (before-insert y x l (lexb-true (key y) (key x) q) s.0, f)
      go false false p q f = s

  pub sort_unique-ascending : (l : List A) → Ascending key (sortUnique key l)
  sort_unique-ascending [] = tt
  sort_unique-ascending (x ∷ l) = insert-ascending x (sortUnique key l) (sort_unique-ascending l)

  before-keep : (z x : A) (b : Bool) (l : List A) → Lex (key z) (key x) → Before key z l → Before key z (keep b x l)
  before-keep z x true l h k = h
  before-keep z x false l h k = k

  before-filter : (p : A → Bool) (z : A) (l : List A) → Before key z l → Ascending key l → Before key z (filter p l)
  before-filter p z [] b s = tt
  before-filter p z (x ∷ l) b s = before-keep z x (p x) (filter p l) b (before-filter p z l (further (l) s.0) s.1)
    where
      further : (l : List A) → Before key x l → Before key z l
      further [] h = tt
      further (y ∷ l) h = Lex-trans (key z) (key x) (key y) b h

  keep-ascending : (b : Bool) (x : A) (l : List A) → Before key x l → Ascending key l → Ascending key (keep b x l)
  keep-ascending true x l h s = (h, s)
  keep-ascending false x l h s = s

  pub filter-ascending : (p : A → Bool) (l : List A) → Ascending key l → Ascending key (filter p l)
  filter-ascending p [] s = tt
  filter-ascending p (x ∷ l) s = keep-ascending (p x) x (filter p l) (before-filter p x l s.0 s.1) (filter-ascending p l s.1)

  pub ascending-append : (l k : List A) → Ascending key l → Ascending key k → ((a b : A) → a ∈ l → b ∈ k → Lex (key a) (key b)) → Ascending key (l ++ k)
  ascending-append [] k s r f = r
  ascending-append (x ∷ l) k s r f = (join l s.0 (λ b m. f x b (inl refl) m), ascending-append l k s.1 r (λ a b m n. f a b (inr m) n))
    where
      first : (k : List A) → ((b : A) → b ∈ k → Lex (key x) (key b)) → Before key x k
      first [] g = tt
      first (y ∷ k) g = g y (inl refl)

      join : (l : List A) → Before key x l → ((b : A) → b ∈ k → Lex (key x) (key b)) → Before key x (l ++ k)
      join [] h g = first k g
      join (y ∷ l) h g = h

  -- in an ascending list a key stands once
  pub ascending-once : (l : List A) → Ascending key l → (a b : A) → a ∈ l → b ∈ l → key a ≡ key b → a ≡ b
  ascending-once [] s a b m n e = absurd m
  ascending-once (x ∷ l) s a b (inl p) (inl q) e = p ∙ sym q
  ascending-once (x ∷ l) s a b (inl p) (inr n) e = absurd (Lex-irrefl (key b) (subst (λ (z : List ℕ). Lex z (key b)) (ap key (sym p) ∙ e) (before-all x l s.0 s.1 b n)))
  ascending-once (x ∷ l) s a b (inr m) (inl q) e = absurd (Lex-irrefl (key a) (subst (λ (z : List ℕ). Lex z (key a)) (ap key (sym q) ∙ sym e) (before-all x l s.0 s.1 a m)))
  ascending-once (x ∷ l) s a b (inr m) (inr n) e = ascending-once l s.1 a b m n e

  -- of two members the one at the lower position stands before the other
  pub ascending-at : (d : A) (l : List A) → Ascending key l → (i j : ℕ) → i < j → j < length l → Lex (key (get_or l i d)) (key (get_or l j d))
  ascending-at d [] s i j h b = absurd (omega arith)
  ascending-at d (x ∷ l) s i zero h b = absurd (omega arith)
  ascending-at d (x ∷ l) s zero (suc j) h b = before-all x l s.0 s.1 (get_or l j d) (mem-at d l j (omega arith))
  ascending-at d (x ∷ l) s (suc i) (suc j) h b = ascending-at d l s.1 i j (omega arith) (omega arith)

  -- two strictly ascending lists with the same members are one
  head_first : (x y : A) (l k : List A) → Ascending key (y ∷ k) → x ∈ (y ∷ k) → y ∈ (x ∷ l) → Ascending key (x ∷ l) → x ≡ y
  head_first x y l k s (inl e) n r = e
  head_first x y l k s (inr m) (inl e) r = sym e
  head_first x y l k s (inr m) (inr n) r =
      absurd (Lex-irrefl (key x) (Lex-trans (key x) (key y) (key x) (before-all x l r.0 r.1 y n) (before-all y k s.0 s.1 x m)))

  not-below : (x : A) (l : List A) → Ascending key (x ∷ l) → x ∈ l → ⊥
  not-below x l s m = Lex-irrefl (key x) (before-all x l s.0 s.1 x m)

  pub ascending-unique : (l k : List A) → Ascending key l → Ascending key k → ((a : A) → a ∈ l → a ∈ k) → ((a : A) → a ∈ k → a ∈ l) → l ≡ k
  ascending-unique [] [] s r f g = refl
  ascending-unique [] (y ∷ k) s r f g = absurd (g y (inl refl))
  ascending-unique (x ∷ l) [] s r f g = absurd (f x (inl refl))
  ascending-unique (x ∷ l) (y ∷ k) s r f g =
      let e : x ≡ y = head_first x y l k r (f x (inl refl)) (g y (inl refl)) s in
      let t : l ≡ k = ascending-unique l k s.1 r.1 (λ a m. into a m e (f a (inr m))) (λ a m. onto a m e (g a (inr m))) in
      cc
    where
      into : (a : A) → a ∈ l → x ≡ y → a ∈ (y ∷ k) → a ∈ k
      into a m e (inr n) = n
      into a m e (inl d) = absurd (not-below x l s (rw (d ∙ sym e) at m))

      onto : (a : A) → a ∈ k → x ≡ y → a ∈ (x ∷ l) → a ∈ l
      onto a m e (inr n) = n
      onto a m e (inl d) = absurd (not-below y k r (rw (d ∙ e) at m))
