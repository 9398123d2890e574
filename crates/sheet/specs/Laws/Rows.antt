-- Tables of rows of one width and their numbers one after another: each is got back from the other.
use Rattle.std.specs.Prelude.{◌≡◌, refl, List, [], ◌∷◌, ◌++◌, map, ℕ, zero, suc, ◌+◌, ◌*◌, ◌-◌, ◌/◌, ◌%◌, ◌≤◌, ◌<◌, length, get_or, take, drop}
use Rattle.std.proofs.Common.{sym, ◌∙◌, ap, ap₂, inl, inr, append_assoc, append-nil, arith, suc-mul, zero-mul, add_comm, div-add-mod', length-append, length-drop, get_or-append-add, take_all, take_at, drop_at, take-add, drop-drop, length-take-le}
use Rattle.std.proofs.Math.Nat.{div-eq_of_eq-mul_left, mul-mod_left}
use Rattle.std.proofs.Math.ListN.{get_or-append}
use Rattle.std.proofs.Math.Seq.{drop-append-add}
use Rattle.sheet.specs.Lists.{◌∈◌, number, rows, bind, flat, filled}

-- every row is of the width w
abbrev pub Wide : ℕ → List (List ℕ) → Type 0
Wide w l = (k : List ℕ) → k ∈ l → length k ≡ w

pub rows-count : (w n : ℕ) (l : List ℕ) → length (rows w n l) ≡ n
rows-count w zero l = refl
rows-count w (suc n) l = ap suc (rows-count w n (drop w l))

pub flat-length : (w : ℕ) (l : List (List ℕ)) → Wide w l → length (flat l) ≡ length l * w
flat-length w [] h = sym (zero-mul w)
flat-length w (k ∷ l) h =
    length-append k (flat l)
    ∙ ap₂ (λ (m n : ℕ). m + n) (h k (inl refl)) (flat-length w l (λ j m. h j (inr m)))
    ∙ add_comm w (length l * w)
    ∙ sym (suc-mul (length l) w)

-- row i
pub rows_at : (w n : ℕ) (l : List ℕ) (i : ℕ) → i < n → get_or (rows w n l) i [] ≡ take w (drop (i * w) l)
rows_at w zero l i h = absurd (omega arith)
rows_at w (suc n) l zero h = rw zero-mul
rows_at w (suc n) l (suc i) h =
    let e : w + i * w ≡ suc i * w = omega (arith, suc-mul i w) in
    rows_at w n (drop w l) i (omega arith) ∙ ap (take w) (drop-drop (i * w) w l ∙ ap (λ (m : ℕ). drop m l) e)

-- row i of a table, where its numbers stand one after another ahead of others
pub row-of-flat : (w : ℕ) (g : List (List ℕ)) (rest : List ℕ) → Wide w g → (i : ℕ) → i < length g → take w (drop (i * w) (flat g ++ rest)) ≡ get_or g i []
row-of-flat w [] rest h i l = absurd (omega arith)
row-of-flat w (n ∷ g) rest h zero l = rw (zero-mul w, append_assoc n (flat g) rest, take_at n (flat g ++ rest) w (h n (inl refl)))
row-of-flat w (n ∷ g) rest h (suc i) l =
    let z : suc i * w ≡ length n + i * w = omega (arith, h n (inl refl), suc-mul i w) in
    rw (z, append_assoc n (flat g) rest, drop-append-add n (flat g ++ rest) (i * w)) (row-of-flat w g rest (λ k m. h k (inr m)) i (omega arith))

-- the rows of the numbers are the rows
pub rows-of-flat : (w : ℕ) (l : List (List ℕ)) → Wide w l → rows w (length l) (flat l) ≡ l
rows-of-flat w [] h = refl
rows-of-flat w (k ∷ l) h = rw (take_at k (flat l) w (h k (inl refl)), drop_at k (flat l) w (h k (inl refl)), rows-of-flat w l (λ j m. h j (inr m)))

pub rows-flat : (w : ℕ) (l : List (List ℕ)) → 1 ≤ w → Wide w l → rows w (length (flat l) / w) (flat l) ≡ l
rows-flat w l p h = rw (div-eq_of_eq-mul_left p (flat-length w l h)) (rows-of-flat w l h)

pub flat-whole : (w : ℕ) (l : List (List ℕ)) → Wide w l → length (flat l) % w ≡ 0
flat-whole w l h = rw (flat-length w l h) (mul-mod_left (length l) w)

-- the numbers of the rows are the numbers that make whole rows
pub flat-of-rows : (w n : ℕ) (l : List ℕ) → flat (rows w n l) ≡ take (n * w) l
flat-of-rows w zero l = rw zero-mul
flat-of-rows w (suc n) l =
    ap (λ (k : List ℕ). take w l ++ k) (flat-of-rows w n (drop w l))
    ∙ sym (take-add w (n * w) l)
    ∙ ap (λ (m : ℕ). take m l) (add_comm w (n * w) ∙ sym (suc-mul n w))

pub flat_rows : (w : ℕ) (l : List ℕ) → length l % w ≡ 0 → flat (rows w (length l / w) l) ≡ l
flat_rows w l h = flat-of-rows w (length l / w) l ∙ take_all (length l / w * w) l (omega (arith, div-add-mod' (length l) w))

-- whole rows are wide
pub rows-wide-of : (w n : ℕ) (l : List ℕ) → n * w ≤ length l → Wide w (rows w n l)
rows-wide-of w zero l h k m = absurd m
rows-wide-of w (suc n) l h k (inl e) = let b : w ≤ length l = omega (arith, suc-mul n w) in ap length e ∙ length-take-le w l b
rows-wide-of w (suc n) l h k (inr m) = rows-wide-of w n (drop w l) (omega (arith, suc-mul n w, length-drop w l)) k m

pub rows-wide : (w : ℕ) (l : List ℕ) → Wide w (rows w (length l / w) l)
rows-wide w l = rows-wide-of w (length l / w) l (omega (arith, div-add-mod' (length l) w))

-- the numbers of the rows, in front of zeros
pub take-filled : (w n : ℕ) (l : List (List ℕ)) → Wide w l → take (length l * w) (filled n (flat l)) ≡ flat l
take-filled w n l h = take_at (flat l) _ (length l * w) (flat-length w l h)

pub filled-full : (n : ℕ) (l : List ℕ) → length l ≡ n → filled n l ≡ l
filled-full n l h =
    let z : n - length l ≡ 0 = omega arith in
    rw z (append-nil l)

-- number j of row i
pub flat-at : (w : ℕ) (l : List (List ℕ)) → Wide w l → (i j : ℕ) → i < length l → j < w → number (flat l) (i * w + j) ≡ number (get_or l i []) j
flat-at w [] h i j p q = absurd (omega arith)
flat-at w (k ∷ l) h zero j p q =
    let e : 0 * w + j ≡ j = omega arith in
    rw e (get_or-append k (flat l) 0 j (omega (arith, h k (inl refl))))
flat-at w (k ∷ l) h (suc i) j p q =
    let e : suc i * w + j ≡ length k + (i * w + j) = omega (arith, suc-mul i w, h k (inl refl)) in
    rw e (get_or-append-add k (flat l) (i * w + j) 0 ∙ flat-at w l (λ m n. h m (inr n)) i j (omega arith) q)

-- rows made member by member
pub bind-flat : {A : Type 0} (row : A → List ℕ) (l : List A) → bind l row ≡ flat (map row l)
bind-flat row [] = refl
bind-flat row (x ∷ l) = ap (λ (k : List ℕ). row x ++ k) (bind-flat row l)
