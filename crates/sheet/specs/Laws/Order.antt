-- Laws of tests, and of the lexicographic order of lists of numbers, which is strict and total.
use Rattle.std.specs.Prelude.{◌≡◌, refl, ◌⊎◌, ◌≢◌, Bool, true, false, ◌&&◌, List, [], ◌∷◌, ℕ, ltb, eqb}
use Rattle.std.proofs.Common.{sym, subst, inl, inr, true≢false, arith, ltb-true, ltb-false, eqb-true}
use Rattle.std.proofs.lemmas.Bool.{eqb-false}
use Rattle.sheet.specs.Lists.{Lex}
use Rattle.sheet.specs.Computed.{after, lexb}

-- tests
pub split : (b : Bool) → (b ≡ true) ⊎ (b ≡ false)
split true = inl refl
split false = inr refl

pub bool_same : (a b : Bool) → (a ≡ true → b ≡ true) → (b ≡ true → a ≡ true) → a ≡ b
bool_same true b f g = sym (f refl)
bool_same false true f g = g refl
bool_same false false f g = refl

pub and-true : (a b : Bool) → a && b ≡ true → (a ≡ true) × (b ≡ true)
and-true true b p = (refl, p)
and-true false b p = absurd (true≢false (sym p))

pub true-and : (a b : Bool) → a ≡ true → b ≡ true → a && b ≡ true
true-and a b p q = cc

-- a test that says when a statement holds
pub decided : {P : Type 0} (b : Bool) → (b ≡ true → P) → (P → b ≡ true) → Dec P
decided true f g = yes (f refl)
decided false f g = no (λ p. true≢false (sym (g p)))

-- lexicographic order: strict, total
pub Lex-irrefl : (a : List ℕ) → Lex a a → ⊥
Lex-irrefl [] h = h
Lex-irrefl (x ∷ a) (inl h) = omega arith
Lex-irrefl (x ∷ a) (inr h) = Lex-irrefl a h.1

pub Lex-trans : (a b c : List ℕ) → Lex a b → Lex b c → Lex a c
Lex-trans [] [] c p q = absurd p
Lex-trans [] (y ∷ b) [] p q = q
Lex-trans [] (y ∷ b) (z ∷ c) p q = tt
Lex-trans (x ∷ a) [] c p q = absurd p
Lex-trans (x ∷ a) (y ∷ b) [] p q = q
Lex-trans (x ∷ a) (y ∷ b) (z ∷ c) (inl p) (inl q) = inl (omega arith)
Lex-trans (x ∷ a) (y ∷ b) (z ∷ c) (inl p) (inr q) = inl (omega arith)
Lex-trans (x ∷ a) (y ∷ b) (z ∷ c) (inr p) (inl q) = inl (omega arith)
Lex-trans (x ∷ a) (y ∷ b) (z ∷ c) (inr p) (inr q) = inr (omega arith, Lex-trans a b c p.1 q.1)

pub lexb-true : (a b : List ℕ) → lexb a b ≡ true → Lex a b
lexb-true [] [] p = absurd (true≢false (sym p))
lexb-true [] (y ∷ b) p = tt
lexb-true (x ∷ a) [] p = absurd (true≢false (sym p))
lexb-true (x ∷ a) (y ∷ b) p = go (ltb x y) (eqb x y) refl refl (lexb-true a b) p
  where
    go : (l e : Bool) → ltb x y ≡ l → eqb x y ≡ e → (lexb a b ≡ true → Lex a b) → after l e (lexb a b) ≡ true → Lex (x ∷ a) (y ∷ b)
    go true e q r f h = inl (ltb-true x y q)
    go false true q r f h = inr (eqb-true x y r, f h)
    go false false q r f h = absurd (true≢false (sym h))

pub lexb-false : (a b : List ℕ) → lexb a b ≡ false → (a ≡ b) ⊎ Lex b a
lexb-false [] [] p = inl refl
lexb-false [] (y ∷ b) p = absurd (true≢false p)
lexb-false (x ∷ a) [] p = inr tt
lexb-false (x ∷ a) (y ∷ b) p = go (ltb x y) (eqb x y) refl refl (lexb-false a b) p
  where
    ends : x ≡ y → (a ≡ b) ⊎ Lex b a → (◌≡◌ {A = List ℕ} (x ∷ a) (y ∷ b)) ⊎ Lex (y ∷ b) (x ∷ a)
    ends e (inl f) = inl (cc)
    ends e (inr l) = inr (inr (sym e, l))

    go : (l e : Bool) → ltb x y ≡ l → eqb x y ≡ e → (lexb a b ≡ false → (a ≡ b) ⊎ Lex b a) → after l e (lexb a b) ≡ false → (◌≡◌ {A = List ℕ} (x ∷ a) (y ∷ b)) ⊎ Lex (y ∷ b) (x ∷ a)
    go true e q r f h = absurd (true≢false h)
    go false true q r f h = ends (eqb-true x y r) (f h)
    go false false q r f h =
        let n : x ≢ y = eqb-false x y r in
        inr (inl (omega (arith, ltb-false x y q)))

pub Lex-lexb : (a b : List ℕ) → Lex a b → lexb a b ≡ true
Lex-lexb a b h = go (lexb a b) refl
  where
    wrong : (a ≡ b) ⊎ Lex b a → ⊥
    wrong (inl e) = Lex-irrefl b (subst (λ (c : List ℕ). Lex c b) e h)
    wrong (inr g) = Lex-irrefl a (Lex-trans a b a h g)

    go : (t : Bool) → lexb a b ≡ t → lexb a b ≡ true
    go true e = e
    go false e = absurd (wrong (lexb-false a b e))
