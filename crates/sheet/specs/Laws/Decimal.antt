-- Decimal numbers, written and read: what is written reads as itself, what was read is written as it stood, and no number has more digits
-- than its size asks for. Both trips go digit by digit from the front: a digit at the end multiplies what is read by ten.
use Rattle.std.specs.Prelude.{◌≡◌, ◌⊎◌, Bool, true, false, ◌&&◌, List, [], ◌∷◌, ◌++◌, ℕ, zero, suc, ◌+◌, ◌*◌, ◌-◌, ◌/◌, ◌%◌, ◌≤◌, ◌<◌, ◌^◌, ltb, eqb, length}
use Rattle.std.proofs.Math.Path.{refl}
use Rattle.std.proofs.Common.{◌∙◌, ap, ap₂, inl, inr, ⊎_elim, true≢false, append_assoc, append-nil, arith, pow-suc, mul-le-mul_right, mul_assoc, mul_comm, zero-add, length-append, lt-ltb, le-ltb, le-leb, eq-eqb, ne_eqb, ltb-true, ltb-false, leb-true, eqb-true}
use Rattle.std.proofs.Math.Option.{Option, some, none}
use Rattle.std.proofs.Math.Nat.{pow-zero, pow-le-pow_right}
use Rattle.std.proofs.Math.Dec.{leb}
use Rattle.std.proofs.Math.ListN.{get_or-append}
use Rattle.std.proofs.lemmas.Bool.{eqb-false}
use Rattle.sheet.specs.Lists.{pick, number}
use Rattle.sheet.specs.Bytes.{kind_of, digit, comma, line_feed, letter, other}
use Rattle.sheet.specs.Decimal.{digits_from, number_of, digits_of}
use Rattle.sheet.specs.Laws.Order.{and-true}

-- the kinds of bytes
pub kind-comma : kind_of 44 ≡ comma
unfolding kind_of
kind-comma = refl

pub kind-feed : kind_of 10 ≡ line_feed
unfolding kind_of
kind-feed = refl

pub digit-kind : (b : ℕ) → 48 ≤ b → b ≤ 57 → kind_of b ≡ digit
unfolding kind_of
digit-kind b l h = simp (le-leb 48 b l, le-leb b 57 h)

-- the byte of a kind, by the tests that decide the kind
module _ (b : ℕ) where
  byte_of : (t x y z : Bool) → leb 48 b && leb b 57 ≡ t → eqb b 44 ≡ x → eqb b 10 ≡ y → (k : ℕ) → pick t digit (pick x comma (pick y line_feed (pick z letter other))) ≡ k
      → (k ≡ digit → (48 ≤ b) × (b ≤ 57)) × (k ≡ comma → b ≡ 44) × (k ≡ line_feed → b ≡ 10)
  byte_of true x y z p q r k e = let h = and-true (leb 48 b) (leb b 57) p in omega (arith, leb-true 48 b h.0, leb-true b 57 h.1)
  byte_of false true y z p q r k e = omega (arith, eqb-true b 44 q)
  byte_of false false true z p q r k e = omega (arith, eqb-true b 10 r)
  byte_of false false false true p q r k e = omega arith
  byte_of false false false false p q r k e = omega arith

  byte-kind : (kind_of b ≡ digit → (48 ≤ b) × (b ≤ 57)) × (kind_of b ≡ comma → b ≡ 44) × (kind_of b ≡ line_feed → b ≡ 10)
  unfolding kind_of
  byte-kind = byte_of (leb 48 b && leb b 57) (eqb b 44) (eqb b 10) (leb 65 b && leb b 90) refl refl refl (kind_of b) refl

  pub digit-byte : kind_of b ≡ digit → (48 ≤ b) × (b ≤ 57)
  digit-byte = byte-kind.0

  pub comma-byte : kind_of b ≡ comma → b ≡ 44
  comma-byte = byte-kind.1

  pub feed-byte : kind_of b ≡ line_feed → b ≡ 10
  feed-byte = byte-kind.2

pub below_or_not : (n m : ℕ) → (n < m) ⊎ (m ≤ n)
below_or_not n m = go (ltb n m) refl
  where
    go : (t : Bool) → ltb n m ≡ t → (n < m) ⊎ (m ≤ n)
    go true e = inl (ltb-true n m e)
    go false e = inr (ltb-false n m e)

-- a value that is there under a test
some-under : {A : Type 0} (t : Bool) (a : Option A) (w : A) → pick t a none ≡ some w → (t ≡ true) × (a ≡ some w)
some-under true a w e = (refl, e)
some-under false a w e = let z : ◌≡◌ {A = ℕ} 0 1 = cc in absurd (omega arith)

some-past : {A : Type 0} (t : Bool) (a : Option A) (w : A) → pick t none a ≡ some w → (t ≡ false) × (a ≡ some w)
some-past false a w e = (refl, e)
some-past true a w e = let z : ◌≡◌ {A = ℕ} 0 1 = cc in absurd (omega arith)

-- the digits of a number below ten, and of one that is not
pub digits-small : (k n : ℕ) → n < 10 → digits_of (suc k) n ≡ (48 + n) ∷ []
unfolding digits_of
digits-small k n h = simp (lt-ltb n 10 h)

pub digits_more : (k n : ℕ) → 10 ≤ n → digits_of (suc k) n ≡ digits_of k (n / 10) ++ ((48 + n % 10) ∷ [])
unfolding digits_of
digits_more k n h = simp (le-ltb n 10 h)

digits-some : (k n : ℕ) → (1 ≤ length (digits_of (suc k) n)) × (length (digits_of (suc k) n) ≤ suc k)
unfolding digits_of
digits-some zero n =
    ⊎_elim
    (λ l. omega (arith, ap length (digits-small 0 n l)))
    (λ g. omega (arith, simp length-append at (ap length (digits_more 0 n g))))
    (below_or_not n 10)
digits-some (suc k) n =
    let r = digits-some k (n / 10) in
    ⊎_elim
    (λ l. omega (arith, ap length (digits-small (suc k) n l)))
    (λ g. omega (arith, simp length-append at (ap length (digits_more (suc k) n g))))
    (below_or_not n 10)

-- as many digits as the size asks for, whatever the most may be
pub digits-at-most : (k j n : ℕ) → n < 10 ^ suc j → length (digits_of k n) ≤ suc j
unfolding digits_of
digits-at-most zero j n h = omega arith
digits-at-most (suc k) zero n h =
    let b : n < 10 = omega (arith, pow-suc 10 0, pow-zero 10) in
    omega (arith, ap length (digits-small k n b))
digits-at-most (suc k) (suc j) n h =
    ⊎_elim
    (λ l. omega (arith, ap length (digits-small k n l)))
    (λ g. omega (arith, simp length-append at (ap length (digits_more k n g)), digits-at-most k j (n / 10) (omega (arith, pow-suc 10 (suc j)))))
    (below_or_not n 10)

-- one digit more at the end
read-snoc : (v : ℕ) (ds : List ℕ) (w d : ℕ) → d < 10 → digits_from v ds ≡ some w → digits_from v (ds ++ ((48 + d) ∷ [])) ≡ some (w * 10 + d)
unfolding digits_from
read-snoc v [] w d h e = simp (digit-kind (48 + d) (omega arith) (omega arith)) (ap some (let z : v ≡ w = cc in omega arith))
read-snoc v (b ∷ ds) w d h e =
    let p = some-under (eqb (kind_of b) digit) (digits_from (v * 10 + (b - 48)) ds) w e in
    simp p.0 (read-snoc (v * 10 + (b - 48)) ds w d h p.1)

-- the digits of a number read as the number
reads-small : (k n : ℕ) → n < 10 → digits_from 0 (digits_of (suc k) n) ≡ some n
unfolding digits_from
reads-small k n h = rw (digits-small k n h) (read-snoc 0 [] 0 n h refl ∙ ap some (omega arith))

reads_more : (k n : ℕ) → 10 ≤ n → digits_from 0 (digits_of k (n / 10)) ≡ some (n / 10) → digits_from 0 (digits_of (suc k) n) ≡ some n
reads_more k n g r =
    rw (digits_more k n g) (read-snoc 0 (digits_of k (n / 10)) (n / 10) (n % 10) (omega arith) r ∙ ap some (omega arith))

digits-read : (k n : ℕ) → n < 10 ^ suc k → digits_from 0 (digits_of (suc k) n) ≡ some n
digits-read zero n h = reads-small zero n h
digits-read (suc k) n h =
    ⊎_elim
    (λ l. reads-small (suc k) n l)
    (λ g. reads_more (suc k) n g (digits-read k (n / 10) (omega (arith, pow-suc 10 (suc k)))))
    (below_or_not n 10)

-- the first digit of a number that is not 0 is not 0
first_more : (k n : ℕ) → 10 ≤ n → 1 ≤ length (digits_of k (n / 10)) → 49 ≤ number (digits_of k (n / 10)) 0 → 49 ≤ number (digits_of (suc k) n) 0
first_more k n g l r = rw (digits_more k n g, get_or-append (digits_of k (n / 10)) _ 0 0 l) r

first-digit : (k n : ℕ) → 1 ≤ n → n < 10 ^ suc k → 49 ≤ number (digits_of (suc k) n) 0
first-digit zero n p h = rw (digits-small 0 n h) (omega arith)
first-digit (suc k) n p h =
    ⊎_elim
    (λ l. rw (digits-small (suc k) n l) (omega arith))
    (λ g. first_more (suc k) n g (digits-some k (n / 10)).0 (first-digit k (n / 10) (omega arith) (omega (arith, pow-suc 10 (suc k)))))
    (below_or_not n 10)

-- a field that stands for the number n
pub record NumberIs (most n : ℕ) (f : List ℕ) : Type 0 where
  pub some-digit : 1 ≤ length f
  pub few : length f ≤ most
  pub no_zero : 1 < length f → number f 0 ≡ 48 → ⊥
  pub value : digits_from 0 f ≡ some n

pub number_is : (most n : ℕ) (f : List ℕ) → number_of most f ≡ some n → NumberIs most n f
unfolding number_of
number_is most n f e =
    let d = digits_from 0 f in
    let t = ltb 1 (length f) && eqb (number f 0) 48 in
    let p = some-past (eqb (length f) 0) (pick (ltb most (length f)) none (pick t none d)) n e in
    let q = some-past (ltb most (length f)) (pick t none d) n p.1 in
    let r = some-past t d n q.1 in
    let z = eqb-false (length f) 0 p.0 in
    record {
      some-digit = omega (arith, z);
      few = ltb-false most (length f) q.0;
      no_zero = λ h i. true≢false (simp (lt-ltb 1 (length f) h, eq-eqb (number f 0) 48 i) at r.0);
      value = r.1;
    }

not-both : (a b : Bool) → (a ≡ true → b ≡ true → ⊥) → a && b ≡ false
not-both true true h = absurd (h refl refl)
not-both true false h = refl
not-both false b h = refl

pub is_number : (most n : ℕ) (f : List ℕ) → NumberIs most n f → number_of most f ≡ some n
unfolding number_of
is_number most n f r =
    let z = not-both (ltb 1 (length f)) (eqb (number f 0) 48) (λ p q. r.no_zero (ltb-true 1 (length f) p) (eqb-true (number f 0) 48 q)) in
    simp (ne_eqb (length f) 0 (omega (arith, r.some-digit)), le-ltb most (length f) r.few, z) r.value

-- what is written reads as itself
pub write_read : (most n : ℕ) → 1 ≤ most → n < 10 ^ most → number_of most (digits_of most n) ≡ some n
write_read zero n p h = absurd (omega arith)
write_read (suc k) n p h =
    is_number (suc k) n (digits_of (suc k) n)
    (record { some-digit = (digits-some k n).0; few = (digits-some k n).1; no_zero = no_zero (below_or_not n 10); value = digits-read k n h })
  where
    no_zero : (n < 10) ⊎ (10 ≤ n) → 1 < length (digits_of (suc k) n) → number (digits_of (suc k) n) 0 ≡ 48 → ⊥
    no_zero (inl l) i z = omega (arith, i, ap length (digits-small k n l))
    no_zero (inr g) i z = omega (arith, z, first-digit k n (omega arith) h)

-- a digit more behind a number that is not 0
digit-behind : (j v b : ℕ) → 1 ≤ v → 48 ≤ b → b ≤ 57 → digits_of (suc j) (v * 10 + (b - 48)) ≡ digits_of j v ++ (b ∷ [])
digit-behind j v b p l h =
    digits_more j (v * 10 + (b - 48)) (omega arith)
    ∙ ap₂ (λ (m d : ℕ). digits_of j m ++ (d ∷ [])) (omega arith) (omega arith)

-- what is read on from v is written behind the digits of v
digits-behind : (bs : List ℕ) (v n j : ℕ) → 1 ≤ v → digits_from v bs ≡ some n → digits_of (length bs + j) n ≡ digits_of j v ++ bs
unfolding digits_from
digits-behind [] v n j p e =
    let z : v ≡ n = cc in
    rw (zero-add, append-nil, z)
digits-behind (b ∷ bs) v n j p e =
    let q = some-under (eqb (kind_of b) digit) (digits_from (v * 10 + (b - 48)) bs) n e in
    let r = digit-byte b (eqb-true (kind_of b) digit q.0) in
    ap (λ (m : ℕ). digits_of m n) (omega arith)
    ∙ digits-behind bs (v * 10 + (b - 48)) n (suc j) (omega arith) q.1
    ∙ ap (λ (l : List ℕ). l ++ bs) (digit-behind j v b p r.0 r.1)
    ∙ append_assoc (digits_of j v) (b ∷ []) bs

one-back : (k b n : ℕ) → digits_from 0 (b ∷ []) ≡ some n → digits_of (suc k) n ≡ b ∷ []
unfolding digits_from
one-back k b n e =
    let q = some-under (eqb (kind_of b) digit) (some (0 * 10 + (b - 48))) n e in
    let r = digit-byte b (eqb-true (kind_of b) digit q.0) in
    let z : 0 * 10 + (b - 48) ≡ n = let w = q.1 in cc in
    digits-small k n (omega arith) ∙ ap (λ (d : ℕ). d ∷ []) (omega arith)

many-back : (k b n : ℕ) (bs : List ℕ) → length bs ≤ k → (b ≡ 48 → ⊥) → digits_from 0 (b ∷ bs) ≡ some n → digits_of (suc k) n ≡ b ∷ bs
unfolding digits_from
many-back k b n bs l z e =
    let q = some-under (eqb (kind_of b) digit) (digits_from (0 * 10 + (b - 48)) bs) n e in
    let r = digit-byte b (eqb-true (kind_of b) digit q.0) in
    ap (λ (m : ℕ). digits_of m n) (omega arith)
    ∙ digits-behind bs (0 * 10 + (b - 48)) n (suc (k - length bs)) (omega arith) q.1
    ∙ ap (λ (l : List ℕ). l ++ bs) (digits-small (k - length bs) (0 * 10 + (b - 48)) (omega arith) ∙ ap (λ (d : ℕ). d ∷ []) (omega arith))

-- what was read is written as it stood
pub read-write : (most n : ℕ) (f : List ℕ) → number_of most f ≡ some n → digits_of most n ≡ f
read-write most n f e = go most f (number_is most n f e)
  where
    go : (m : ℕ) (g : List ℕ) → NumberIs m n g → digits_of m n ≡ g
    go m [] r = absurd (omega (arith, r.some-digit))
    go zero (b ∷ bs) r = absurd (omega (arith, r.few))
    go (suc k) (b ∷ []) r = one-back k b n r.value
    go (suc k) (b ∷ c ∷ cs) r = many-back k b n (c ∷ cs) (omega (arith, r.few)) (r.no_zero (omega arith)) r.value

-- what is read on from v is below v + 1, shifted by the digits read
digits-below : (bs : List ℕ) (v n : ℕ) → digits_from v bs ≡ some n → n < suc v * 10 ^ length bs
unfolding digits_from
digits-below [] v n e =
    let z : v ≡ n = cc in
    rw pow-zero (omega arith)
digits-below (b ∷ bs) v n e =
    let q = some-under (eqb (kind_of b) digit) (digits_from (v * 10 + (b - 48)) bs) n e in
    let r = digit-byte b (eqb-true (kind_of b) digit q.0) in
    let s : suc (v * 10 + (b - 48)) * 10 ^ length bs ≤ (suc v * 10) * 10 ^ length bs = mul-le-mul_right (10 ^ length bs) (omega arith) in
    let t : (suc v * 10) * 10 ^ length bs ≡ suc v * 10 ^ suc (length bs) = rw (mul_assoc, pow-suc, mul_comm 10) in
    omega (arith, digits-below bs (v * 10 + (b - 48)) n q.1)

-- what was read has at most so many digits
pub read_below : (most n : ℕ) (f : List ℕ) → number_of most f ≡ some n → n < 10 ^ most
read_below most n f e =
    let r = number_is most n f e in
    let s : 10 ^ length f ≤ 10 ^ most = pow-le-pow_right (omega arith) r.few in
    omega (arith, digits-below f 0 n r.value)
