-- Laws of runs of stores: one run right after another, one store more of a run, a run at the front, and a run into a group that is padded with zeros.
use Rattle.std.specs.Prelude.{◌≡◌, refl, List, [], ◌∷◌, ◌++◌, ℕ, zero, suc, ◌+◌, ◌-◌, ◌≤◌, ◌<◌, length, set, get_or, take, drop, replicate}
use Rattle.std.proofs.Common.{sym, ◌∙◌, ap, arith, add-zero, add-suc, suc-add, add-one, length-append, take-suc, take-suc-set, length-take-le, take_at, get_or-append-add}
use Rattle.std.proofs.Math.Nat.{sub-zero, zero-sub}
use Rattle.std.proofs.lemmas.List.{length-replicate}
use Rattle.std.proofs.lemmas.List.Edits.{sets, sets-eq}
use Rattle.std.proofs.Math.Seq.{drop-append-add}
use Rattle.sheet.specs.Lists.{filled}

-- a run of stores, and another right after it
pub sets-append : (a b l : List ℕ) (i : ℕ) → sets l i (a ++ b) ≡ sets (sets l i a) (i + length a) b
sets-append [] b l i = rw add-zero
sets-append (x ∷ a) b l i =
    sets-append a b (set l i x) (suc i) ∙ ap (λ (k : ℕ). sets (sets (set l i x) (suc i) a) k b) (suc-add i (length a) ∙ sym (add-suc i (length a)))

-- one store more of a run
pub sets_more : (g v : List ℕ) (at i : ℕ) → i < length v → set (sets g at (take i v)) (at + i) (get_or v i 0) ≡ sets g at (take (i + 1) v)
sets_more g v at i h =
    let n : i ≤ length v = omega arith in
    let e : length (take i v) ≡ i = length-take-le i v n in
    rw (add-one, take-suc v i 0 h, sets-append, e)

-- the numbers that were stored at the front
pub take-sets : (w : ℕ) (l v : List ℕ) → length v ≡ w → w ≤ length l → take w (sets l 0 v) ≡ v
take-sets w l v e h = ap (take w) (sets-eq v l 0 (omega arith)) ∙ take_at v (drop (0 + length v) l) w e

drop-zeros : (w k : ℕ) → drop {A = ℕ} w (replicate k 0) ≡ replicate (k - w) 0
drop-zeros zero k = rw sub-zero
drop-zeros (suc w) zero = rw zero-sub
drop-zeros (suc w) (suc k) = drop-zeros w k ∙ (let e : k - w ≡ suc k - suc w = omega arith in ap (λ (m : ℕ). replicate m 0) e)

-- a group padded with zeros, and numbers stored right after it
pub sets-filled : (n : ℕ) (l k : List ℕ) (at : ℕ) → at ≡ length l → at + length k ≤ n → sets (filled n l) at k ≡ filled n (l ++ k)
sets-filled n l k at e h =
    let z : n - length l - length k ≡ n - length (l ++ k) = omega (arith, length-append l k) in
    let f : at + length k ≤ length (filled n l) = omega (arith, length-append l (replicate {A = ℕ} (n - length l) 0), length-replicate {A = ℕ} (n - length l) 0) in
    sets-eq k (filled n l) at f
    ∙ rw (e, take_at l (replicate {A = ℕ} (n - length l) 0) (length l) refl, drop-append-add l (replicate {A = ℕ} (n - length l) 0) (length k), drop-zeros (length k) (n - length l), z)

pub length-filled : (n : ℕ) (l : List ℕ) → length l ≤ n → length (filled n l) ≡ n
length-filled n l h = length-append l (replicate {A = ℕ} (n - length l) 0) ∙ (let e = length-replicate {A = ℕ} (n - length l) 0 in omega arith)

-- one number more of a first part that is to be that of m
pub prefix-more : (l m : List ℕ) (i : ℕ) → i < length l → i < length m → take i l ≡ take i m → take (i + 1) (set l i (get_or m i 0)) ≡ take (i + 1) m
prefix-more l m i p q e = rw (add-one, take-suc-set l i (get_or m i 0) p, take-suc m i 0 q, e)

-- past its numbers a filled group is 0
zeros-at : (k i : ℕ) → get_or (replicate {A = ℕ} k 0) i 0 ≡ 0
zeros-at zero i = refl
zeros-at (suc k) zero = refl
zeros-at (suc k) (suc i) = zeros-at k i

pub filled-past : (n : ℕ) (l : List ℕ) (i : ℕ) → length l ≤ i → get_or (filled n l) i 0 ≡ 0
filled-past n l i h =
    let e : i ≡ length l + (i - length l) = omega arith in
    ap (λ (k : ℕ). get_or (filled n l) k 0) e ∙ get_or-append-add l (replicate {A = ℕ} (n - length l) 0) (i - length l) 0 ∙ zeros-at (n - length l) (i - length l)
