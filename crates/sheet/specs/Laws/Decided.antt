-- Claims that a flag decides, claims about some or each member of a list, and numbers that stand in a row: what the proofs of tests and loops use.
use Rattle.std.specs.Prelude.{◌≡◌, refl, Bool, true, false, List, [], ◌∷◌, ◌++◌, ◌⊎◌, ℕ, zero, suc, ◌+◌, ◌≤◌, ◌<◌, length, get_or, set}
use Rattle.std.proofs.Common.{sym, ap, ◌∙◌, subst, true≢false, inl, inr, ⊎_elim, arith, not-suc-le-zero, get_or-set_same, get_or-set_other}
use Rattle.std.proofs.Math.Decide.{dec_lt}
use Rattle.sheet.specs.Lists.{number, numbers_from, Lex}
use Rattle.sheet.specs.Computed.{lexb}
use Rattle.sheet.specs.Laws.Order.{lexb-true, Lex-lexb}

-- a flag that decides a claim: true where the claim holds, false where it does not
pub data Decided (P : Type 0) : Bool → Type 0 where
  holds : P → Decided P true
  fails : (P → ⊥) → Decided P false

pub yes_of : {P : Type 0} {b : Bool} → Decided P b → b ≡ true → P
yes_of (holds p) e = p
yes_of (fails n) e = absurd (true≢false (sym e))

pub no_of : {P : Type 0} {b : Bool} → Decided P b → b ≡ false → P → ⊥
no_of (holds p) e q = true≢false e
no_of (fails n) e q = n q

pub is-yes : {P : Type 0} {b : Bool} → Decided P b → P → b ≡ true
is-yes (holds p) q = refl
is-yes (fails n) q = absurd (n q)

pub decided-as : {P Q : Type 0} {b : Bool} → (P → Q) → (Q → P) → Decided P b → Decided Q b
decided-as f g (holds p) = holds (f p)
decided-as f g (fails n) = fails (λ q. n (g q))

pub decided-by : {P : Type 0} (b : Bool) → (b ≡ true → P) → (P → b ≡ true) → Decided P b
decided-by true f g = holds (f refl)
decided-by false f g = fails (λ p. true≢false (sym (g p)))

pub lex-decided : (a b : List ℕ) (r : Bool) → r ≡ lexb a b → Decided (Lex a b) r
lex-decided a b r e = decided-by r (λ t. lexb-true a b (sym e ∙ t)) (λ l. e ∙ Lex-lexb a b l)

pub false-not-true : {b : Bool} → b ≡ false → b ≡ true → ⊥
false-not-true e f = true≢false (sym f ∙ e)

pub lt-or-le : (m n : ℕ) → (m < n) ⊎ (n ≤ m)
lt-or-le m n = go (dec_lt m n)
  where
    go : Dec (m < n) → (m < n) ⊎ (n ≤ m)
    go (yes l) = inl l
    go (no l) = inr (omega arith)

-- some member of a list, and each member
pub data Any {A : Type 0} (P : A → Type 0) : List A → Type 0 where
  here : {x : A} {l : List A} → P x → Any P (x ∷ l)
  there : {x : A} {l : List A} → Any P l → Any P (x ∷ l)

pub data All {A : Type 0} (P : A → Type 0) : List A → Type 0 where
  none : All P []
  more : {x : A} {l : List A} → P x → All P l → All P (x ∷ l)

abbrev pub In : {A : Type 0} → A → List A → Type 0
In x l = Any (λ y. y ≡ x) l

module _ {A : Type 0} where
  pub any-cons : {P : A → Type 0} {x : A} {l : List A} → Any P (x ∷ l) → P x ⊎ Any P l
  any-cons (here p) = inl p
  any-cons (there a) = inr a

  pub any-nil : {P : A → Type 0} → Any P [] → ⊥
  any-nil {P} a = go a refl
    where
      go : {l : List A} → Any P l → l ≡ [] → ⊥
      go (here p) e = let z : ◌≡◌ {A = ℕ} 0 1 = cc in omega arith
      go (there p) e = let z : ◌≡◌ {A = ℕ} 0 1 = cc in omega arith

  pub all_head : {P : A → Type 0} {x : A} {l : List A} → All P (x ∷ l) → P x
  all_head (more p a) = p

  pub all_tail : {P : A → Type 0} {x : A} {l : List A} → All P (x ∷ l) → All P l
  all_tail (more p a) = a

  pub all_map : {P Q : A → Type 0} {l : List A} → ((x : A) → P x → Q x) → All P l → All Q l
  all_map f none = none
  all_map f (more p a) = more (f _ p) (all_map f a)

  pub all_both : {P Q S : A → Type 0} {l : List A} → ((x : A) → P x → Q x → S x) → All P l → All Q l → All S l
  all_both f none b = none
  all_both f (more p a) b = more (f _ p (all_head b)) (all_both f a (all_tail b))

  pub all_join : {P : A → Type 0} {k l : List A} → All P k → All P l → All P (k ++ l)
  all_join none b = b
  all_join (more p a) b = more p (all_join a b)

  pub any-map : {P Q : A → Type 0} {l : List A} → ((x : A) → P x → Q x) → Any P l → Any Q l
  any-map f (here p) = here (f _ p)
  any-map f (there a) = there (any-map f a)

  pub any-all : {P Q : A → Type 0} {C : Type 0} {l : List A} → ((x : A) → P x → Q x → C) → Any P l → All Q l → C
  any-all f (here p) b = f _ p (all_head b)
  any-all f (there a) b = any-all f a (all_tail b)

  pub any_out : {P : A → Type 0} {C : Type 0} {l : List A} → ((x : A) → P x → C) → Any P l → C
  any_out f (here p) = f _ p
  any_out f (there a) = any_out f a

  pub any-find : {P : A → Type 0} {l : List A} → Any P l → (x : A) × In x l × P x
  any-find (here p) = (_, here refl, p)
  any-find (there a) = let f = any-find a in (f.0, there f.1, f.2)

  pub any-dec : {P : A → Type 0} → ((x : A) → P x ⊎ (P x → ⊥)) → (l : List A) → Any P l ⊎ (Any P l → ⊥)
  any-dec d [] = inr (λ a. any-nil a)
  any-dec d (x ∷ l) =
      ⊎_elim (λ p. inl (here p)) (λ n. ⊎_elim (λ a. inl (there a)) (λ m. inr (λ a. ⊎_elim n m (any-cons a))) (any-dec d l)) (d x)

  pub any-right : {P : A → Type 0} (k : List A) {l : List A} → Any P l → Any P (k ++ l)
  any-right [] a = a
  any-right (x ∷ k) a = there (any-right k a)

  pub any_left : {P : A → Type 0} {k : List A} (l : List A) → Any P k → Any P (k ++ l)
  any_left l (here p) = here p
  any_left l (there a) = there (any_left l a)

  pub any-split : {P : A → Type 0} (k : List A) {l : List A} → Any P (k ++ l) → Any P k ⊎ Any P l
  any-split [] a = inr a
  any-split (x ∷ k) a = ⊎_elim (λ p. inl (here p)) (λ b. ⊎_elim (λ c. inl (there c)) (λ c. inr c) (any-split k b)) (any-cons a)

  pub none_of : {P : A → Type 0} (l : List A) → (Any P l → ⊥) → All (λ x. P x → ⊥) l
  none_of [] n = none
  none_of (x ∷ l) n = more (λ p. n (here p)) (none_of l (λ a. n (there a)))

  pub in_all : {P : A → Type 0} {x : A} {l : List A} → In x l → All P l → P x
  in_all {P} i a = any-all (λ y e p. subst P e p) i a

-- numbers that stand in a row
pub from-length : (n i : ℕ) (l : List ℕ) → length (numbers_from n i l) ≡ n
from-length zero i l = refl
from-length (suc n) i l = ap suc (from-length n (suc i) l)

pub from_at : (n i : ℕ) (l : List ℕ) (j : ℕ) → j < n → number (numbers_from n i l) j ≡ number l (i + j)
from_at zero i l j h = absurd (not-suc-le-zero h)
from_at (suc n) i l zero h = ap (number l) (omega arith)
from_at (suc n) i l (suc j) h = from_at n (suc i) l j (omega arith) ∙ ap (number l) (omega arith)

pub from-same : (n i k : ℕ) (l m : List ℕ) → ((j : ℕ) → j < n → number l (i + j) ≡ number m (k + j)) → numbers_from n i l ≡ numbers_from n k m
from-same zero i k l m h = refl
from-same (suc n) i k l m h =
    let e : number l i ≡ number m k = ap (number l) (omega arith) ∙ h 0 (omega arith) ∙ ap (number m) (omega arith) in
    let r : numbers_from n (suc i) l ≡ numbers_from n (suc k) m = from-same n (suc i) (suc k) l m (λ j p. ap (number l) (omega arith) ∙ h (suc j) (omega arith) ∙ ap (number m) (omega arith)) in
    cc

pub from-of : (n i : ℕ) (l g : List ℕ) → length g ≡ n → ((j : ℕ) → j < n → number l (i + j) ≡ number g j) → numbers_from n i l ≡ g
from-of zero i l [] e h = refl
from-of zero i l (x ∷ g) e h = absurd (omega arith)
from-of (suc n) i l [] e h = absurd (omega arith)
from-of (suc n) i l (x ∷ g) e h =
    let a : number l i ≡ x = ap (number l) (omega arith) ∙ h 0 (omega arith) in
    let r : numbers_from n (suc i) l ≡ g = from-of n (suc i) l g (omega arith) (λ j p. ap (number l) (omega arith) ∙ h (suc j) (omega arith)) in
    cc

-- a list that is filled with f from base on: one store more
pub fill-from : (f : ℕ → ℕ) (base : ℕ) (l : List ℕ) (i : ℕ) → base + i < length l → ((q : ℕ) → q < i → get_or l (base + q) 0 ≡ f q) → (q : ℕ) → q < i + 1 → get_or (set l (base + i) (f i)) (base + q) 0 ≡ f q
fill-from f base l i n all q m =
    ⊎_elim
    (λ lt. get_or-set_other l (base + i) (base + q) (f i) 0 (λ e. omega arith) ∙ all q lt)
    (λ ge. let e : q ≡ i = omega arith in subst (λ (j : ℕ). get_or (set l (base + i) (f i)) (base + j) 0 ≡ f j) (sym e) (get_or-set_same l (base + i) (f i) 0 n))
    (lt-or-le q i)
