-- How long the text of numbers and of a line is: a comma and its digits for each number, a letter and a line feed for the line; and how long at most.
use Rattle.std.specs.Prelude.{◌≡◌, refl, List, [], ◌∷◌, ℕ, zero, suc, ◌+◌, ◌*◌, ◌/◌, ◌≤◌, ◌<◌, length, get_or}
use Rattle.std.proofs.Common.{◌∙◌, ap, ⊎_elim, arith, suc-mul, length-append}
use Rattle.sheet.specs.Lists.{number, bind}
use Rattle.sheet.specs.Decimal.{digits_of}
use Rattle.sheet.specs.Text.{number_text, printed, most_printed, refusal_line}
use Rattle.sheet.specs.Laws.Decimal.{below_or_not, digits-small, digits_more}
use Rattle.sheet.specs.Laws.Puts.{Puts}

-- at most as many digits as are asked for
pub digits-most : (k n : ℕ) → length (digits_of k n) ≤ k
unfolding digits_of
digits-most zero n = omega arith
digits-most (suc k) n =
    ⊎_elim
    (λ l. omega (arith, ap length (digits-small k n l)))
    (λ g. omega (arith, simp length-append at (ap length (digits_more k n g)), digits-most k (n / 10)))
    (below_or_not n 10)

pub number-length : (most n : ℕ) → length (number_text most n) ≡ suc (length (digits_of most n))
unfolding number_text
number-length most n = refl

pub printed-length : (most c : ℕ) (ns : List ℕ) → length (printed most c ns) ≡ length (bind ns (number_text most)) + 2
unfolding printed
printed-length most c ns = ap suc (length-append (bind ns (number_text most)) (10 ∷ [])) ∙ omega arith

-- each member at most m long, all of them at most so many times m
pub bind-long : {A : Type 0} (f : A → List ℕ) (m : ℕ) (d : A) (l : List A) → ((i : ℕ) → i < length l → length (f (get_or l i d)) ≤ m) → length (bind l f) ≤ length l * m
bind-long f m d [] h = omega arith
bind-long f m d (x ∷ l) h =
    omega (arith, length-append (f x) (bind l f), h 0 (omega arith), bind-long f m d l (λ i k. h (suc i) (omega arith)), suc-mul (length l) m)

pub printed-long : (most c m : ℕ) (ns : List ℕ) → ((i : ℕ) → i < length ns → length (number_text most (number ns i)) ≤ m) → length (printed most c ns) ≤ length ns * m + 2
printed-long most c m ns h = omega (arith, printed-length most c ns, bind-long (number_text most) m 0 ns h)

number-most : (most n : ℕ) → length (number_text most n) ≤ suc most
number-most most n = omega (arith, number-length most n, digits-most most n)

pub printed-most : (most c : ℕ) (ns : List ℕ) → length (printed most c ns) ≤ length ns * suc most + 2
printed-most most c ns = printed-long most c (suc most) ns (λ i k. number-most most (number ns i))

-- the line of a refusal
pub refusal-long : (k n : ℕ) → length (refusal_line k n) ≤ 24
unfolding refusal_line
refusal-long k n = printed-most most_printed 82 (k ∷ n ∷ [])

pub refusal-puts : (k n : ℕ) {out out' : List ℕ} {r : ℕ} → Puts (printed most_printed 82 (k ∷ n ∷ [])) out 0 out' r → Puts (refusal_line k n) out 0 out' r
unfolding refusal_line
refusal-puts k n p = p
