-- Numbers within their limits: test 4 as a statement about each number, and what it gives for a number of any line. On at most 64 places
-- no number is above the highest that its limit allows, and no limit of any kind allows a number of more than five digits.
use Rattle.std.specs.Prelude.{◌≡◌, refl, Bool, true, false, List, [], ◌∷◌, ℕ, zero, suc, ◌≤◌, ◌<◌, ltb, leb, length, get_or, drop}
use Rattle.std.proofs.Common.{sym, inl, inr, true≢false, arith, ltb-true, ltb-false, leb-true, leb-false, le-ltb}
use Rattle.std.proofs.lemmas.Bool.{lt-leb}
use Rattle.sheet.specs.Lists.{number, ◌∈◌, all, bind}
use Rattle.sheet.specs.Kinds.{Limit, between, place, Kind, kinds}
use Rattle.sheet.specs.Sheet.{beyond, outside}
use Rattle.sheet.specs.Laws.Order.{and-true}
use Rattle.sheet.specs.Laws.Passed.{or-false, false-or}
use Rattle.sheet.specs.Laws.Members.{all_true, mem-bind}

-- a number within its limit, on a sheet of p places
abbrev pub In : ℕ → Limit → ℕ → Type 0
In p (between a b) n = (a ≤ n) × (n ≤ b)
In p place n = n < p

-- each number within its limit
abbrev pub Within : ℕ → List Limit → List ℕ → Type 0
Within p [] ns = Unit {0}
Within p (x ∷ xs) [] = Unit {0}
Within p (x ∷ xs) (n ∷ ns) = In p x n × Within p xs ns

inside-limit : (p : ℕ) (x : Limit) (n : ℕ) → beyond p x n ≡ false → In p x n
inside-limit p (between a b) n e = let r = or-false (ltb n a) (ltb b n) e in (ltb-false n a r.0, ltb-false b n r.1)
inside-limit p place n e = leb-false p n e

limit-inside : (p : ℕ) (x : Limit) (n : ℕ) → In p x n → beyond p x n ≡ false
limit-inside p (between a b) n h = false-or (ltb n a) (ltb b n) (le-ltb n a h.0) (le-ltb b n h.1)
limit-inside p place n h = lt-leb p n h

pub inside-within : (p : ℕ) (xs : List Limit) (ns : List ℕ) → outside p xs ns ≡ false → Within p xs ns
inside-within p [] ns e = tt
inside-within p (x ∷ xs) [] e = tt
inside-within p (x ∷ xs) (n ∷ ns) e =
    let r = or-false (beyond p x n) (outside p xs ns) e in
    (inside-limit p x n r.0, inside-within p xs ns r.1)

pub within-inside : (p : ℕ) (xs : List Limit) (ns : List ℕ) → Within p xs ns → outside p xs ns ≡ false
within-inside p [] ns h = refl
within-inside p (x ∷ xs) [] h = refl
within-inside p (x ∷ xs) (n ∷ ns) h = false-or (beyond p x n) (outside p xs ns) (limit-inside p x n h.0) (within-inside p xs ns h.1)

-- number by number
pub within-at : (p : ℕ) (xs : List Limit) (ns : List ℕ) → length ns ≡ length xs → Within p xs ns → (i : ℕ) → i < length xs → In p (get_or xs i place) (number ns i)
within-at p [] ns e w i h = absurd (omega arith)
within-at p (x ∷ xs) [] e w i h = absurd (omega arith)
within-at p (x ∷ xs) (n ∷ ns) e w zero h = w.0
within-at p (x ∷ xs) (n ∷ ns) e w (suc i) h = within-at p xs ns (omega arith) w.1 i (omega arith)

pub at-within : (p : ℕ) (xs : List Limit) (ns : List ℕ) → ((i : ℕ) → i < length xs → In p (get_or xs i place) (number ns i)) → Within p xs ns
at-within p [] ns f = tt
at-within p (x ∷ xs) [] f = tt
at-within p (x ∷ xs) (n ∷ ns) f = (f 0 (omega arith), at-within p xs ns (λ i h. f (suc i) (omega arith)))

-- no number from position j on is above m, where no limit there allows one
abbrev at_most : ℕ → Limit → Bool
at_most m (between a b) = leb b m
at_most m place = false

pub most-from : (m p j : ℕ) (xs : List Limit) (ns : List ℕ) → length ns ≡ length xs → Within p xs ns → all (at_most m) (drop j xs) ≡ true → (i : ℕ) → j ≤ i → number ns i ≤ m
most-from m p j xs [] e w t i h = omega arith
most-from m p j [] (n ∷ ns) e w t i h = absurd (omega arith)
most-from m p zero (between a b ∷ xs) (n ∷ ns) e w t zero h = omega (arith, leb-true b m (and-true (leb b m) (all (at_most m) xs) t).0)
most-from m p zero (place ∷ xs) (n ∷ ns) e w t zero h = absurd (true≢false (sym t))
most-from m p zero (x ∷ xs) (n ∷ ns) e w t (suc i) h = most-from m p zero xs ns (omega arith) w.1 (and-true (at_most m x) (all (at_most m) xs) t).1 i (omega arith)
most-from m p (suc j) (x ∷ xs) (n ∷ ns) e w t zero h = absurd (omega arith)
most-from m p (suc j) (x ∷ xs) (n ∷ ns) e w t (suc i) h = most-from m p j xs ns (omega arith) w.1 t i (omega arith)

-- the highest number within a limit, where there are at most 64 places
abbrev pub highest : Limit → ℕ
highest (between a b) = b
highest place = 63

pub at-most-highest : (p : ℕ) → p ≤ 64 → (x : Limit) (n : ℕ) → In p x n → n ≤ highest x
at-most-highest p h (between a b) n i = i.1
at-most-highest p h place n i = omega arith

-- no limit of any kind allows a number of six digits
pub five-digits : (k : Kind) → k ∈ kinds → (x : Limit) → x ∈ k.limits → highest x < 100000
five-digits k m x i =
    ltb-true (highest x) 100000
    (all_true (λ x. ltb (highest x) 100000) (bind kinds (λ k. k.limits)) refl x (mem-bind (λ k. k.limits) x kinds k m i))

pub within-below : (top p : ℕ) → p ≤ 64 → (xs : List Limit) (ns : List ℕ) → length ns ≡ length xs → Within p xs ns
    → ((x : Limit) → x ∈ xs → highest x < top) → (n : ℕ) → n ∈ ns → n < top
within-below top p h [] (m ∷ ns) e w f n i = absurd (omega arith)
within-below top p h xs [] e w f n i = absurd i
within-below top p h (x ∷ xs) (m ∷ ns) e w f n (inl d) = omega (arith, at-most-highest p h x m w.0, f x (inl refl))
within-below top p h (x ∷ xs) (m ∷ ns) e w f n (inr i) = within-below top p h xs ns (omega arith) w.1 (λ y j. f y (inr j)) n i
