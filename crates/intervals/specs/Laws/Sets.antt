-- Sets of places: what a union and a set with a place more hold, and the lowest digit that is set.
use Rattle.std.specs.Prelude.{◌≡◌, refl, List, ◌⊎◌, ℕ, zero, suc, ◌+◌, ◌*◌, ◌-◌, ◌/◌, ◌%◌, ◌^◌, ◌≤◌, ◌<◌, length}
use Rattle.std.proofs.Common.{sym, ◌∙◌, ap, subst, inl, inr, ⊎_elim, pow-suc, arith, length-set, shr-shr, pow_pos, pow-add, get_or-set_same, get_or-set_other}
use Rattle.std.proofs.Math.Decide.{ℕ_discrete}
use Rattle.std.specs.Int.Bits.{bit_or, or_step}
use Rattle.std.proofs.lemmas.Nat.{or_shr, shl-shr}
use Rattle.std.specs.Int.Count.{count_trailing_zeros, under}
use Rattle.std.proofs.Math.Pow.{ones_split, high, ones_lt, pow-lt}
use Rattle.sheet.specs.Lists.{number}
use Rattle.sheet.specs.Laws.Decided.{lt-or-le}
use Rattle.intervals.specs.Sets.{Has, with_place, Kept, NextIn}

pub kept-none : (xs : List ℕ) → Kept xs xs
kept-none xs = record { size = refl; more = λ i v h. h }

pub kept_on : {xs ys zs : List ℕ} → Kept xs ys → Kept ys zs → Kept xs zs
kept_on a b = record { size = b.size ∙ a.size; more = λ i v h. b.more i v (a.more i v h) }

-- a digit of a union
odd-or : (a b : ℕ) → (a % 2 ≡ 1) ⊎ (b % 2 ≡ 1) → bit_or a b % 2 ≡ 1
odd-or a b h = ⊎_elim (λ e. omega (arith, or_step a b)) (λ e. omega (arith, or_step a b)) h

pub has_left : (a b v : ℕ) → Has a v → Has (bit_or a b) v
has_left a b v h = record { digit = ap (λ (x : ℕ). x % 2) (or_shr a b v) ∙ odd-or (a / 2 ^ v) (b / 2 ^ v) (inl h.digit) }

pub has_right : (a b v : ℕ) → Has b v → Has (bit_or a b) v
has_right a b v h = record { digit = ap (λ (x : ℕ). x % 2) (or_shr a b v) ∙ odd-or (a / 2 ^ v) (b / 2 ^ v) (inr h.digit) }

or-odd : (a b : ℕ) → bit_or a b % 2 ≡ 1 → (a % 2 ≡ 1) ⊎ (b % 2 ≡ 1)
or-odd a b h = go (ℕ_discrete (a % 2) 1)
  where
    go : Dec (a % 2 ≡ 1) → (a % 2 ≡ 1) ⊎ (b % 2 ≡ 1)
    go (yes e) = inl e
    go (no e) = inr (omega (arith, or_step a b))

pub has-or : (a b v : ℕ) → Has (bit_or a b) v → Has a v ⊎ Has b v
has-or a b v h =
    ⊎_elim (λ e. inl (record { digit = e })) (λ e. inr (record { digit = e })) (or-odd (a / 2 ^ v) (b / 2 ^ v) (sym (ap (λ (x : ℕ). x % 2) (or_shr a b v)) ∙ h.digit))

-- the set of one place holds that place alone
pub has-own : (v : ℕ) → Has (2 ^ v) v
has-own v = record { digit = ap (λ (x : ℕ). x / 2 ^ v % 2) one ∙ ap (λ (x : ℕ). x % 2) (shl-shr 1 v) }
  where
    one : 2 ^ v ≡ 1 * 2 ^ v
    one = omega arith

pub has_one : (v w : ℕ) → Has (2 ^ v) w → w ≡ v
has_one v w h = ⊎_elim (λ l. absurd (before l)) (λ l. ⊎_elim (λ m. absurd (after m)) (λ m. omega arith) (lt-or-le v w)) (lt-or-le w v)
  where
    before : w < v → ⊥
    before l =
        let e : v ≡ suc (v - w - 1) + w = omega arith in
        let whole : 2 ^ v ≡ 2 ^ suc (v - w - 1) * 2 ^ w = ap (λ (x : ℕ). 2 ^ x) e ∙ pow-add 2 (suc (v - w - 1)) w in
        let part : 2 ^ v / 2 ^ w ≡ 2 ^ suc (v - w - 1) = ap (λ (x : ℕ). x / 2 ^ w) whole ∙ shl-shr (2 ^ suc (v - w - 1)) w in
        omega (arith, h.digit, ap (λ (x : ℕ). x % 2) part, pow-suc 2 (v - w - 1))

    after : v < w → ⊥
    after l =
        let whole : 2 ^ v ≡ 0 * 2 ^ w + 2 ^ v = omega arith in
        let part : 2 ^ v / 2 ^ w ≡ 0 = ap (λ (x : ℕ). x / 2 ^ w) whole ∙ high 0 w (pow-lt l) in
        omega (arith, h.digit, ap (λ (x : ℕ). x % 2) part)

-- the set of all places
pub has_all : (v : ℕ) → v < 64 → Has 18446744073709551615 v
has_all v l = record { digit = ap (λ (x : ℕ). x / 2 ^ v % 2) whole ∙ ap (λ (x : ℕ). x % 2) (high (2 ^ suc (63 - v) - 1) v (ones_lt v)) ∙ omega (arith, pow-suc 2 (63 - v), pow_pos (63 - v)) }
  where
    whole : 18446744073709551615 ≡ (2 ^ suc (63 - v) - 1) * 2 ^ v + (2 ^ v - 1)
    whole = let e : 64 ≡ suc (63 - v) + v = omega arith in ap (λ (x : ℕ). 2 ^ x - 1) e ∙ ones_split (suc (63 - v)) v

-- a set with a place more: it is there, and what was there stays
pub record Added (i v : ℕ) (before after : List ℕ) : Type 0 where
  pub kept : Kept before after
  pub own : Has (number after i) v

with-place : (xs : List ℕ) (i v : ℕ) → i < length xs → Added i v xs (with_place xs i v)
unfolding with_place
with-place xs i v inside =
    record {
      kept = record { size = length-set xs i (bit_or (number xs i) (2 ^ v)); more = λ j w h. more j w h (ℕ_discrete j i) };
      own = subst (λ (m : ℕ). Has m v) (sym new) (has_right (number xs i) (2 ^ v) v (has-own v));
    }
  where
    new : number (with_place xs i v) i ≡ bit_or (number xs i) (2 ^ v)
    new = get_or-set_same xs i (bit_or (number xs i) (2 ^ v)) 0 inside

    more : (j w : ℕ) → Has (number xs j) w → Dec (j ≡ i) → Has (number (with_place xs i v) j) w
    more j w h (yes e) =
        subst (λ (m : ℕ). Has m w) (sym (ap (number (with_place xs i v)) e ∙ new)) (has_left (number xs i) (2 ^ v) w (subst (λ (k : ℕ). Has (number xs k) w) e h))
    more j w h (no e) = subst (λ (m : ℕ). Has m w) (sym (get_or-set_other xs i j (bit_or (number xs i) (2 ^ v)) 0 e)) h

pub added : {i j v w : ℕ} {xs ys : List ℕ} → ys ≡ with_place xs i v → i ≡ j → v ≡ w → i < length xs → Added j w xs ys
added {i} {j} {v} {w} {xs} {ys} is e f inside =
    subst (λ (k : ℕ). Added j k xs ys) f (subst (λ (k : ℕ). Added k v xs ys) e (subst (Added i v xs) (sym is) (with-place xs i v inside)))

-- the digits below the lowest that is set
pub trailing-none : (k n i : ℕ) → i < count_trailing_zeros k n → n / 2 ^ i % 2 ≡ 0
unfolding count_trailing_zeros
trailing-none zero n i l = absurd (omega arith)
trailing-none (suc k) n i l = go (trailing-none k (n / 2)) (n % 2) refl i l
  where
    go : ((i : ℕ) → i < count_trailing_zeros k (n / 2) → n / 2 / 2 ^ i % 2 ≡ 0) → (d : ℕ) → n % 2 ≡ d → (i : ℕ) → i < under d (count_trailing_zeros k (n / 2)) → n / 2 ^ i % 2 ≡ 0
    go rest zero e zero l = omega arith
    go rest zero e (suc i) l = let z : suc i ≡ 1 + i = omega arith in ap (λ (x : ℕ). n / 2 ^ x % 2) z ∙ ap (λ (x : ℕ). x % 2) (sym (shr-shr n 1 i)) ∙ rest i (omega arith)
    go rest (suc d) e i l = absurd (omega arith)

-- and that digit
trailing-own : (k n : ℕ) → count_trailing_zeros k n < k → n / 2 ^ count_trailing_zeros k n % 2 ≡ 1
unfolding count_trailing_zeros
trailing-own zero n l = absurd (omega arith)
trailing-own (suc k) n l = go (trailing-own k (n / 2)) (n % 2) refl l
  where
    go : (count_trailing_zeros k (n / 2) < k → n / 2 / 2 ^ count_trailing_zeros k (n / 2) % 2 ≡ 1) → (d : ℕ) → n % 2 ≡ d → under d (count_trailing_zeros k (n / 2)) < suc k → n / 2 ^ under d (count_trailing_zeros k (n / 2)) % 2 ≡ 1
    go rest zero e l =
        let z : suc (count_trailing_zeros k (n / 2)) ≡ 1 + count_trailing_zeros k (n / 2) = omega arith in
        ap (λ (x : ℕ). n / 2 ^ x % 2) z ∙ ap (λ (x : ℕ). x % 2) (sym (shr-shr n 1 (count_trailing_zeros k (n / 2)))) ∙ rest (omega arith)
    go rest (suc d) e l = omega arith

pub next-in : (m v : ℕ) → NextIn m v (v + count_trailing_zeros 64 (m / 2 ^ v))
next-in m v = record { on = omega arith; none = λ w l b h. none w l b h; own = ⊎_elim (λ l. inl (own l)) (λ l. inr (omega arith)) (lt-or-le (count_trailing_zeros 64 (m / 2 ^ v)) 64) }
  where
    own : count_trailing_zeros 64 (m / 2 ^ v) < 64 → Has m (v + count_trailing_zeros 64 (m / 2 ^ v))
    own l = record { digit = ap (λ (x : ℕ). x % 2) (sym (shr-shr m v (count_trailing_zeros 64 (m / 2 ^ v)))) ∙ trailing-own 64 (m / 2 ^ v) l }

    none : (w : ℕ) → v ≤ w → w < v + count_trailing_zeros 64 (m / 2 ^ v) → Has m w → ⊥
    none w l b h =
        let e : v + (w - v) ≡ w = omega arith in
        omega (arith, h.digit, trailing-none 64 (m / 2 ^ v) (w - v) (omega arith), ap (λ (x : ℕ). x % 2) (shr-shr m v (w - v)), ap (λ (x : ℕ). m / 2 ^ x % 2) e)
