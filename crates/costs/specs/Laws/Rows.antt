-- The rows of a table by their numbers: row k is the w numbers from k * w on. Each member is such a row.
use Rattle.std.specs.Prelude.{◌≡◌, List, [], ℕ, zero, suc, ◌+◌, ◌*◌, ◌/◌, ◌<◌, length, get_or, take, drop}
use Rattle.std.specs.Simd.{first_chunks}
use Rattle.std.proofs.Common.{sym, ◌∙◌, ap, inl, inr, arith, suc-mul, zero-mul, get_or-take, get_or-drop, drop-drop}
use Rattle.sheet.specs.Lists.{◌∈◌, number, rows}

abbrev pub row : ℕ → List ℕ → ℕ → List ℕ
row w l k = take w (drop (k * w) l)

pub row_number : (w : ℕ) (l : List ℕ) (k j : ℕ) → j < w → number (row w l k) j ≡ number l (k * w + j)
row_number w l k j h = get_or-take w (drop (k * w) l) j 0 h ∙ get_or-drop (k * w) l j 0

-- the rows after the first
pub row-later : (w : ℕ) (l : List ℕ) (k : ℕ) → row w (drop w l) k ≡ row w l (suc k)
row-later w l k =
    let e : w + k * w ≡ suc k * w = omega (arith, suc-mul k w) in
    ap (take w) (drop-drop (k * w) w l ∙ ap (λ (n : ℕ). drop n l) e)

row_first : (w : ℕ) (l : List ℕ) → row w l 0 ≡ take w l
row_first w l = rw (zero-mul w)

pub mem-rows : (w n : ℕ) (l : List ℕ) (k : ℕ) → k < n → row w l k ∈ rows w n l
mem-rows w zero l k h = absurd (omega arith)
mem-rows w (suc n) l zero h = inl (row_first w l)
mem-rows w (suc n) l (suc k) h = inr (rw row-later at (mem-rows w n (drop w l) k (omega arith)))

pub rows-mem : (w n : ℕ) (l x : List ℕ) → x ∈ rows w n l → (k : ℕ) × (k < n) × (x ≡ row w l k)
rows-mem w zero l x m = absurd m
rows-mem w (suc n) l x (inl e) = (0, omega arith, e ∙ sym (row_first w l))
rows-mem w (suc n) l x (inr m) = let r = rows-mem w n (drop w l) x m in (suc r.0, omega (arith, r.1), r.2 ∙ row-later w l r.0)

-- a table as its rows (`as_chunks`)
pub chunk-row : (w n : ℕ) (l : List ℕ) (k : ℕ) → k < n → get_or (first_chunks w n l) k [] ≡ row w l k
chunk-row w zero l k h = absurd (omega arith)
chunk-row w (suc n) l zero h = sym (row_first w l)
chunk-row w (suc n) l (suc k) h = chunk-row w n (drop w l) k (omega arith) ∙ row-later w l k

pub chunk_number : (w : ℕ) (l : List ℕ) (t : List (List ℕ)) → t ≡ first_chunks w (length l / w) l → (k j : ℕ) → k < length l / w → j < w
    → number (get_or t k []) j ≡ number l (k * w + j)
chunk_number w l t e k j h b = ap (λ (s : List (List ℕ)). number (get_or s k []) j) e ∙ ap (λ (x : List ℕ). number x j) (chunk-row w (length l / w) l k h) ∙ row_number w l k j b
