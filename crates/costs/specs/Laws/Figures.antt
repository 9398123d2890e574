-- Laws of costs, each shown for the figure at any position: sums and multiples, the order figure by figure and dominance, with their tests.
use Rattle.std.specs.Prelude.{◌≡◌, refl, ◌⊎◌, Bool, true, false, not, ◌&&◌, List, [], ◌∷◌, ℕ, zero, suc, ◌+◌, ◌*◌, ◌≤◌, ◌<◌, ltb, leb, eqb, length, set}
use Rattle.std.proofs.Common.{sym, ◌∙◌, ap, subst, inl, inr, true≢false, arith, mul-le-mul_left, length-set, ext_get_or, get_or-set_same, get_or-set_other, ltb-true, ltb-false, leb-true, leb-false, eqb-true, le-leb, eq-eqb}
use Rattle.std.proofs.Math.ListN.{get_or-eq_default}
use Rattle.std.proofs.lemmas.Bool.{eqb-false, not-true}
use Rattle.sheet.specs.Lists.{number, numbers_from, Lex}
use Rattle.sheet.specs.Computed.{lexb}
use Rattle.sheet.specs.Laws.Decided.{from-length, from_at}
use Rattle.sheet.specs.Laws.Order.{and-true, true-and, decided, Lex-irrefl, Lex-trans, lexb-true, lexb-false}
use Rattle.costs.specs.Costs.{Cost, figures, fig, zero_cost, add, times, AtMost, Dominates}
use Rattle.costs.specs.Priced.{Within}
use Rattle.costs.specs.Computed.{at_most_b, dominatesb, sameb}

pub fig-add : (a b : Cost) (i : ℕ) → fig (add a b) i ≡ fig a i + fig b i
fig-add [] b i = omega arith
fig-add (x ∷ a) [] i = omega arith
fig-add (x ∷ a) (y ∷ b) zero = refl
fig-add (x ∷ a) (y ∷ b) (suc i) = fig-add a b i

pub fig-times : (n : ℕ) (a : Cost) (i : ℕ) → fig (times n a) i ≡ n * fig a i
fig-times n [] i = omega arith
fig-times n (x ∷ a) zero = refl
fig-times n (x ∷ a) (suc i) = fig-times n a i

pub fig-zero : (i : ℕ) → fig zero_cost i ≡ 0
fig-zero zero = refl
fig-zero (suc zero) = refl
fig-zero (suc (suc zero)) = refl
fig-zero (suc (suc (suc i))) = refl

pub length-add : (a b : Cost) (n : ℕ) → length a ≡ n → length b ≡ n → length (add a b) ≡ n
length-add [] b n p q = q
length-add (x ∷ a) [] n p q = p
length-add (x ∷ a) (y ∷ b) zero p q = omega arith
length-add (x ∷ a) (y ∷ b) (suc n) p q = ap suc (length-add a b n (omega arith) (omega arith))

pub length-times : (n : ℕ) (a : Cost) → length (times n a) ≡ length a
length-times n [] = refl
length-times n (x ∷ a) = ap suc (length-times n a)

pub add_assoc : (a b c : Cost) → add (add a b) c ≡ add a (add b c)
add_assoc [] b c = refl
add_assoc (x ∷ a) [] c = refl
add_assoc (x ∷ a) (y ∷ b) [] = refl
add_assoc (x ∷ a) (y ∷ b) (z ∷ c) =
    let e : add (add a b) c ≡ add a (add b c) = add_assoc a b c in
    let h : x + y + z ≡ x + (y + z) = omega arith in
    cc

pub times-suc : (n : ℕ) (a : Cost) → times (suc n) a ≡ add (times n a) a
times-suc n [] = refl
times-suc n (x ∷ a) =
    let e : times (suc n) a ≡ add (times n a) a = times-suc n a in
    let h : suc n * x ≡ n * x + x = omega arith in
    cc

-- the order figure by figure
pub at-most-refl : (a : Cost) → AtMost a a
at-most-refl a = record { every = λ i. omega arith }

pub at-most-trans : (a b c : Cost) → AtMost a b → AtMost b c → AtMost a c
at-most-trans a b c p q = record { every = λ i. omega (arith, p.every i, q.every i) }

pub at-most-antisym : (a b : Cost) → length a ≡ length b → AtMost a b → AtMost b a → a ≡ b
at-most-antisym a b l p q = ext_get_or 0 a b l (λ i h. omega (arith, p.every i, q.every i))

pub same-figures : (a b : Cost) → length a ≡ length b → ((i : ℕ) → fig a i ≡ fig b i) → a ≡ b
same-figures a b l h = ext_get_or 0 a b l (λ i k. h i)

pub dominates-trans : (a b c : Cost) → Dominates a b → Dominates b c → Dominates a c
dominates-trans a b c p q =
    record { at_most = at-most-trans a b c p.at_most q.at_most; at = p.at; smaller = omega (arith, p.smaller, q.at_most.every p.at) }

pub at-most-dominates : (a b c : Cost) → AtMost a b → Dominates b c → Dominates a c
at-most-dominates a b c p q =
    record { at_most = at-most-trans a b c p q.at_most; at = q.at; smaller = omega (arith, p.every q.at, q.smaller) }

pub dominates-irrefl : (a : Cost) → Dominates a a → ⊥
dominates-irrefl a p = omega (arith, p.smaller)

-- zero, and what may be taken off both sides
pub zero_right : (g : Cost) → length g ≡ figures → add g zero_cost ≡ g
zero_right g l = same-figures (add g zero_cost) g (length-add g zero_cost figures l refl ∙ sym l) (λ i. omega (arith, fig-add g zero_cost i, fig-zero i))

pub cancel_right : (a b c : Cost) → length a ≡ length b → add a c ≡ add b c → a ≡ b
cancel_right a b c l e = same-figures a b l (λ i. omega (arith, fig-add a c i, fig-add b c i, ap (λ (x : Cost). fig x i) e))

-- the tests
at-most-head : (x y : ℕ) (a b : Cost) → x ≤ y → AtMost a b → AtMost (x ∷ a) (y ∷ b)
at-most-head x y a b h p = record { every = go }
  where
    go : (i : ℕ) → fig (x ∷ a) i ≤ fig (y ∷ b) i
    go zero = h
    go (suc i) = p.every i

at-most-short : (x : ℕ) (a : Cost) → x ≤ 0 → AtMost a [] → AtMost (x ∷ a) []
at-most-short x a h p = record { every = go }
  where
    go : (i : ℕ) → fig (x ∷ a) i ≤ fig [] i
    go zero = h
    go (suc i) = p.every i

at-most-tail : (x y : ℕ) (a b : Cost) → AtMost (x ∷ a) (y ∷ b) → AtMost a b
at-most-tail x y a b p = record { every = λ i. p.every (suc i) }

at-most-rest : (x : ℕ) (a : Cost) → AtMost (x ∷ a) [] → AtMost a []
at-most-rest x a p = record { every = λ i. p.every (suc i) }

pub at_most_b-true : (a b : Cost) → at_most_b a b ≡ true → AtMost a b
at_most_b-true [] b p = record { every = λ i. omega arith }
at_most_b-true (x ∷ a) [] p =
    let q = and-true (leb x 0) (at_most_b a []) p in
    at-most-short x a (leb-true x 0 q.0) (at_most_b-true a [] q.1)
at_most_b-true (x ∷ a) (y ∷ b) p =
    let q = and-true (leb x y) (at_most_b a b) p in
    at-most-head x y a b (leb-true x y q.0) (at_most_b-true a b q.1)

pub at-most-at_most_b : (a b : Cost) → AtMost a b → at_most_b a b ≡ true
at-most-at_most_b [] b p = refl
at-most-at_most_b (x ∷ a) [] p = true-and _ _ (le-leb x 0 (p.every 0)) (at-most-at_most_b a [] (at-most-rest x a p))
at-most-at_most_b (x ∷ a) (y ∷ b) p = true-and _ _ (le-leb x y (p.every 0)) (at-most-at_most_b a b (at-most-tail x y a b p))

-- where the test fails, a figure of a is greater
pub record Greater (a b : Cost) : Type 0 where
  pub at : ℕ
  pub greater : fig b at < fig a at

greater-tail : (x y : ℕ) (a b : Cost) → Greater a b → Greater (x ∷ a) (y ∷ b)
greater-tail x y a b g = record { at = suc g.at; greater = g.greater }

pub at_most_b-false : (a b : Cost) → at_most_b a b ≡ false → Greater a b
at_most_b-false [] b p = absurd (true≢false p)
at_most_b-false (x ∷ a) [] p = go (leb x 0) refl p (at_most_b-false a [])
  where
    go : (t : Bool) → leb x 0 ≡ t → t && at_most_b a [] ≡ false → (at_most_b a [] ≡ false → Greater a []) → Greater (x ∷ a) []
    go true e q f = let r = f q in record { at = suc r.at; greater = omega (arith, r.greater) }
    go false e q f = record { at = 0; greater = leb-false x 0 e }
at_most_b-false (x ∷ a) (y ∷ b) p = go (leb x y) refl p (at_most_b-false a b)
  where
    go : (t : Bool) → leb x y ≡ t → t && at_most_b a b ≡ false → (at_most_b a b ≡ false → Greater a b) → Greater (x ∷ a) (y ∷ b)
    go true e q f = greater-tail x y a b (f q)
    go false e q f = record { at = 0; greater = leb-false x y e }

pub dominatesb-true : (a b : Cost) → dominatesb a b ≡ true → Dominates a b
dominatesb-true a b p =
    let q = and-true (at_most_b a b) (not (at_most_b b a)) p in
    let g = at_most_b-false b a (not-true (at_most_b b a) q.1) in
    record { at_most = at_most_b-true a b q.0; at = g.at; smaller = g.greater }

pub dominates-dominatesb : (a b : Cost) → Dominates a b → dominatesb a b ≡ true
dominates-dominatesb a b p = true-and (at_most_b a b) (not (at_most_b b a)) (at-most-at_most_b a b p.at_most) (go (at_most_b b a) refl)
  where
    go : (t : Bool) → at_most_b b a ≡ t → not t ≡ true
    go true e = absurd (omega (arith, p.smaller, (at_most_b-true b a e).every p.at))
    go false e = refl

pub dominates? : (a b : Cost) → Dec (Dominates a b)
dominates? a b = decided (dominatesb a b) (dominatesb-true a b) (dominates-dominatesb a b)

pub sameb-true : (a b : List ℕ) → sameb a b ≡ true → a ≡ b
sameb-true [] [] p = refl
sameb-true [] (y ∷ b) p = absurd (true≢false (sym p))
sameb-true (x ∷ a) [] p = absurd (true≢false (sym p))
sameb-true (x ∷ a) (y ∷ b) p =
    let e : x ≡ y = eqb-true x y (and-true (eqb x y) (sameb a b) p).0 in
    let r : a ≡ b = sameb-true a b (and-true (eqb x y) (sameb a b) p).1 in
    cc

pub sameb-refl : (a : List ℕ) → sameb a a ≡ true
sameb-refl [] = refl
sameb-refl (x ∷ a) = true-and _ _ (eq-eqb x x refl) (sameb-refl a)

pub same? : (a b : List ℕ) → Dec (a ≡ b)
same? a b = decided (sameb a b) (sameb-true a b) (λ e. subst (λ (c : List ℕ). sameb a c ≡ true) e (sameb-refl a))

-- what is not dominated is at or below nothing but itself
pub undominated-same : (a b : Cost) → length a ≡ length b → AtMost a b → (Dominates a b → ⊥) → a ≡ b
undominated-same a b l p n = at-most-antisym a b l p (go (at_most_b b a) refl)
  where
    go : (t : Bool) → at_most_b b a ≡ t → AtMost b a
    go true e = at_most_b-true b a e
    go false e = let g = at_most_b-false b a e in absurd (n (record { at_most = p; at = g.at; smaller = g.greater }))

-- bounds on every figure
pub within_more : (m n : ℕ) (a : Cost) → m ≤ n → Within m a → Within n a
within_more m n a l h = record { every = λ i. omega (arith, h.every i) }

pub within-add : (m n : ℕ) (a b : Cost) → Within m a → Within n b → Within (m + n) (add a b)
within-add m n a b p q = record { every = λ i. omega (arith, fig-add a b i, p.every i, q.every i) }

pub within-times : (n m : ℕ) (a : Cost) → Within m a → Within (n * m) (times n a)
within-times n m a h = record { every = λ i. omega (arith, fig-times n a i, mul-le-mul_left n (h.every i)) }

-- the ascending order of costs, beside the order figure by figure
pub Lex-asym : (a b : List ℕ) → Lex a b → Lex b a → ⊥
Lex-asym a b p q = Lex-irrefl a (Lex-trans a b a p q)

pub Lex-compared : (a b : List ℕ) → (a ≡ b) ⊎ (Lex a b ⊎ Lex b a)
Lex-compared a b = go (lexb a b) refl
  where
    later : (a ≡ b) ⊎ Lex b a → (a ≡ b) ⊎ (Lex a b ⊎ Lex b a)
    later (inl e) = inl e
    later (inr h) = inr (inr h)

    go : (t : Bool) → lexb a b ≡ t → (a ≡ b) ⊎ (Lex a b ⊎ Lex b a)
    go true e = inr (inl (lexb-true a b e))
    go false e = later (lexb-false a b e)

pub at-most-not-Lex : (a b : Cost) → length a ≡ length b → AtMost a b → Lex b a → ⊥
at-most-not-Lex [] [] l p h = h
at-most-not-Lex [] (y ∷ b) l p h = h
at-most-not-Lex (x ∷ a) [] l p h = omega arith
at-most-not-Lex (x ∷ a) (y ∷ b) l p (inl h) = omega (arith, p.every 0)
at-most-not-Lex (x ∷ a) (y ∷ b) l p (inr h) = at-most-not-Lex a b (omega arith) (at-most-tail x y a b p) h.1

pub at-most-Lex : (a b : Cost) → length a ≡ length b → AtMost a b → (a ≡ b) ⊎ Lex a b
at-most-Lex a b l p = go (Lex-compared a b)
  where
    go : (a ≡ b) ⊎ (Lex a b ⊎ Lex b a) → (a ≡ b) ⊎ Lex a b
    go (inl e) = inl e
    go (inr (inl h)) = inr h
    go (inr (inr h)) = absurd (at-most-not-Lex a b l p h)

pub lexb-not : (a b : List ℕ) → (Lex a b → ⊥) → lexb a b ≡ false
lexb-not a b n = go (lexb a b) refl
  where
    go : (t : Bool) → lexb a b ≡ t → lexb a b ≡ false
    go true e = absurd (n (lexb-true a b e))
    go false e = e

pub at_most_b-not : (a b : Cost) → Greater a b → at_most_b a b ≡ false
at_most_b-not a b g = go (at_most_b a b) refl
  where
    go : (t : Bool) → at_most_b a b ≡ t → at_most_b a b ≡ false
    go true e = absurd (omega (arith, g.greater, (at_most_b-true a b e).every g.at))
    go false e = e

-- What a loop over the n figures of arrays has shown, as the definitions say it. A loop that stores f's figures has stored the first i of them:
pub record Stored (n : ℕ) (f : ℕ → ℕ) (i : ℕ) (r : List ℕ) : Type 0 where
  pub sized : length r ≡ n
  pub so_far : (k : ℕ) → k < i → fig r k ≡ f k

pub stored-none : (n : ℕ) (f : ℕ → ℕ) (r : List ℕ) → length r ≡ n → Stored n f 0 r
stored-none n f r l = record { sized = l; so_far = λ k h. absurd (omega arith) }

pub stored_more : (n : ℕ) (f : ℕ → ℕ) (i : ℕ) (r : List ℕ) → i < n → Stored n f i r → Stored n f (i + 1) (set r i (f i))
stored_more n f i r l h = record { sized = length-set r i (f i) ∙ h.sized; so_far = λ k b. go k b (eqb k i) refl }
  where
    go : (k : ℕ) → k < i + 1 → (t : Bool) → eqb k i ≡ t → fig (set r i (f i)) k ≡ f k
    go k b true e =
        let q : k ≡ i = eqb-true k i e in
        rw q (get_or-set_same r i (f i) 0 (omega (arith, h.sized)))
    go k b false e =
        let q : k ≡ i → ⊥ = eqb-false k i e in
        get_or-set_other r i k (f i) 0 q ∙ h.so_far k (omega arith)

pub stored-all : (n : ℕ) (f : ℕ → ℕ) (i : ℕ) (r : List ℕ) → n ≤ i → Stored n f i r → Stored n f n r
stored-all n f i r l h = record { sized = h.sized; so_far = λ k b. h.so_far k (omega arith) }

pub is-from : (n i : ℕ) (r l : List ℕ) → Stored n (λ k. number l (i + k)) n r → r ≡ numbers_from n i l
is-from n i r l h = ext_get_or 0 r (numbers_from n i l) (h.sized ∙ sym (from-length n i l)) (λ k q. h.so_far k (omega (arith, h.sized)) ∙ sym (from_at n i l k (omega (arith, h.sized))))

-- and a loop that compares, that each figure is at most b's, or that all are the same up to one
pub is-at-most : (n : ℕ) (a b : Cost) → length a ≡ n → ((k : ℕ) → k < n → fig a k ≤ fig b k) → AtMost a b
is-at-most n a b p h = record { every = λ i. go i (ltb i n) refl }
  where
    go : (i : ℕ) (t : Bool) → ltb i n ≡ t → fig a i ≤ fig b i
    go i true e = h i (ltb-true i n e)
    go i false e = let z : length a ≤ i = omega (arith, ltb-false i n e) in omega (arith, get_or-eq_default a 0 z)

pub is_same : (n : ℕ) (a b : Cost) → length a ≡ n → length b ≡ n → ((k : ℕ) → k < n → fig a k ≡ fig b k) → a ≡ b
is_same n a b p q h = ext_get_or 0 a b (p ∙ sym q) (λ k l. h k (omega arith))

pub is-Lex : (a b : Cost) (i : ℕ) → i < length a → i < length b → ((k : ℕ) → k < i → fig a k ≡ fig b k) → fig a i < fig b i → Lex a b
is-Lex [] b i p q h l = absurd (omega arith)
is-Lex (x ∷ a) [] i p q h l = absurd (omega arith)
is-Lex (x ∷ a) (y ∷ b) zero p q h l = inl l
is-Lex (x ∷ a) (y ∷ b) (suc i) p q h l = inr (h 0 (omega arith), is-Lex a b i (omega arith) (omega arith) (λ k m. h (suc k) (omega arith)) l)
