-- Laws of the text of a group of lines and of a sheet: of line i of a group, what a group's text is long, and the sheet's text as the texts of its
-- groups, one for each kind.
-- Assumes nothing.
use mathlib.Core.Path.{◌≡◌, refl, sym, ◌∙◌, ap, ap₂}
use mathlib.Core.List.{List, [], ◌∷◌, ◌++◌, map}
use Prim.Native.Nat.{ℕ, zero, suc, ◌+◌, ◌*◌, ◌/◌, ◌-◌, ◌≤◌, ◌<◌}
use native.Mathlib.Omega.{arith}
use native.Mathlib.Nat.{suc-mul, zero-mul, mul-le-mul, mul-le-mul_right}
use lib.ListN.{length, take, drop, get_or, length-append, length-map, length-drop, get_or-map}
use lib.Seq.{sets, take-add, drop-drop, length-take-le}
use Rattle.sheet.specs.Lists.{number, rows, bind, flat}
use Rattle.sheet.specs.Decimal.{digits_of, most_digits}
use Rattle.sheet.specs.Kinds.{Kind, width, kind_s, kinds}
use Rattle.sheet.specs.Lines.{Line, line}
use Rattle.sheet.specs.Sheet.{Sheet, groups_of, lines_from}
use Rattle.sheet.specs.Text.{number_text, printed, line_text, sheet_text}
use Rattle.sheet.specs.Store.{kind_count, kind_at, base_of, StoreOf}
use Rattle.sheet.specs.Inner.{group_text, GroupFits}
use Rattle.sheet.specs.Laws.Stores.{take-sets}
use Rattle.sheet.specs.Laws.Binds.{bind-append, bind-more}
use Rattle.sheet.specs.Laws.Rows.{rows-count, rows_at, rows-of-flat, flat-of-rows, rows-wide-of}
use Rattle.sheet.specs.Laws.Printed.{number-length, printed-length}
use Rattle.sheet.specs.Laws.Kinds.{width_small, most-small}
use Rattle.sheet.specs.Laws.Store.{store-count, store-part, store-few, store-wide}

-- the text of numbers, each with its comma
abbrev pub numbers_text : List ℕ → List ℕ
numbers_text ns = bind ns (number_text most_digits)

pub number-more-length : (ns : List ℕ) (i : ℕ) → i < length ns
    → length (numbers_text (take (i + 1) ns)) ≡ length (numbers_text (take i ns)) + (1 + length (digits_of most_digits (number ns i)))
number-more-length ns i h = omega (arith, simp length-append at (ap length (bind-more (number_text most_digits) 0 ns i h)), number-length most_digits (number ns i))

-- row i lies inside, and so many numbers from f on are a part
pub row_inside : (b w n i m : ℕ) → i < n → b + n * w ≤ m → b + i * w + w ≤ m
row_inside b w n i m h l = omega (arith, suc-mul i w, mul-le-mul_right w h)

-- the row halfway between low and high lies inside
pub inside : (base width count n low high : ℕ) → low < high → high ≤ count → base + count * width ≤ n → base + (low + (high - low) / 2) * width + width ≤ n
inside base width count n low high l m i =
    let h : low + (high - low) / 2 < count = omega (arith, l, m) in
    row_inside base width count (low + (high - low) / 2) n h i

pub part_length : (f w : ℕ) (l : List ℕ) → f + w ≤ length l → length (take (f + w - f) (drop f l)) ≡ w
part_length f w l h =
    let d : f + w - f ≡ w = omega arith in
    rw d (length-take-le w (drop f l) (omega (arith, length-drop f l)))

-- the lines of a group
module _ (k n : ℕ) (all : List ℕ) where
  abbrev pub group_of : List Line
  group_of = map (line (kind_at k)) (rows (width (kind_at k)) n (drop (base_of k) all))

  pub group-count : length group_of ≡ n
  group-count = length-map (rows (width (kind_at k)) n (drop (base_of k) all)) (line (kind_at k)) ∙ rows-count (width (kind_at k)) n (drop (base_of k) all)

  -- line i, whose numbers were written to the front of the array l
  pub line_at : (i w b c : ℕ) (l : List ℕ) → i < n → b + n * w ≤ length all → w ≡ width (kind_at k) → b ≡ base_of k → c ≡ (kind_at k).letter → w ≤ length l
      → printed most_digits c (take w (sets l 0 (take (b + i * w + w - (b + i * w)) (drop (b + i * w) all)))) ≡ line_text most_digits (get_or group_of i (line (kind_at k) []))
  unfolding line_text
  line_at i w b c l h f e q r m =
      let d : b + i * w + w - (b + i * w) ≡ w = omega arith in
      ap₂ (printed most_digits) r
      (take-sets w l _ (part_length (b + i * w) w all (row_inside b w n i (length all) h f)) m
      ∙ ap (λ (j : ℕ). take j (drop (b + i * w) all)) d
      ∙ ap (take w) (sym (drop-drop (i * w) b all))
      ∙ ap₂ (λ (j a : ℕ). take j (drop (i * j) (drop a all))) e q
      ∙ sym (rows_at (width (kind_at k)) n (drop (base_of k) all) i h))
      ∙ sym (ap (line_text most_digits) (get_or-map (line (kind_at k)) (rows (width (kind_at k)) n (drop (base_of k) all)) i []))

-- what a group's text is long: a letter and a line feed for each line, and the text of its numbers
lines-length : (k : Kind) (n : ℕ) (g : List ℕ) → length (bind (map (line k) (rows (width k) n g)) (line_text most_digits)) ≡ 2 * n + length (numbers_text (take (n * width k) g))
unfolding line_text
lines-length k zero g = rw zero-mul
lines-length k (suc n) g =
    let w = width k in
    let a = length-append (printed most_digits k.letter (take w g)) (bind (map (line k) (rows w n (drop w g))) (line_text most_digits)) in
    let b = printed-length most_digits k.letter (take w g) in
    let r = lines-length k n (drop w g) in
    let e : suc n * w ≡ w + n * w = omega (arith, suc-mul n w) in
    let s : numbers_text (take (suc n * w) g) ≡ numbers_text (take w g) ++ numbers_text (take (n * w) (drop w g)) =
    ap (λ (m : ℕ). numbers_text (take m g)) e ∙ ap numbers_text (take-add w (n * w) g) ∙ bind-append (number_text most_digits) (take w g) (take (n * w) (drop w g)) in
    omega (arith, simp length-append at (ap length s))

pub group-length : (k n : ℕ) (all : List ℕ) → length (group_text k n all) ≡ 2 * n + length (numbers_text (take (n * width (kind_at k)) (drop (base_of k) all)))
unfolding group_text
group-length k n all = lines-length (kind_at k) n (drop (base_of k) all)

-- a group of at most 256 lines has at most 2,048 numbers
pub few-numbers : (k n : ℕ) → k < kind_count → n ≤ 256 → n * width (kind_at k) ≤ 2048
few-numbers k n h l = mul-le-mul l (width_small k h)

-- the texts of groups, one for each kind
abbrev pub texts : List Kind → List (List (List ℕ)) → List (List ℕ)
texts [] gs = []
texts (k ∷ ks) [] = []
texts (k ∷ ks) (g ∷ gs) = bind (map (line k) g) (line_text most_digits) ∷ texts ks gs

texts-lines : (ks : List Kind) (gs : List (List (List ℕ))) → bind (lines_from ks gs) (line_text most_digits) ≡ flat (texts ks gs)
texts-lines [] gs = refl
texts-lines (k ∷ ks) [] = refl
texts-lines (k ∷ ks) (g ∷ gs) =
    bind-append (line_text most_digits) (map (line k) g) (lines_from ks gs) ∙ ap (λ (l : List ℕ). bind (map (line k) g) (line_text most_digits) ++ l) (texts-lines ks gs)

texts-count : (ks : List Kind) (gs : List (List (List ℕ))) → length gs ≡ length ks → length (texts ks gs) ≡ length ks
texts-count [] gs e = refl
texts-count (k ∷ ks) [] e = absurd (omega arith)
texts-count (k ∷ ks) (g ∷ gs) e = ap suc (texts-count ks gs (omega arith))

texts-at : (ks : List Kind) (gs : List (List (List ℕ))) → length gs ≡ length ks → (k : ℕ) → k < length ks
    → get_or (texts ks gs) k [] ≡ bind (map (line (get_or ks k kind_s)) (get_or gs k [])) (line_text most_digits)
texts-at [] gs e k h = absurd (omega arith)
texts-at (j ∷ ks) [] e k h = absurd (omega arith)
texts-at (j ∷ ks) (g ∷ gs) e zero h = refl
texts-at (j ∷ ks) (g ∷ gs) e (suc k) h = texts-at ks gs (omega arith) k (omega arith)

unfoldable pub sheet_texts : Sheet → List (List ℕ)
sheet_texts s = texts kinds (groups_of s)

pub sheet-texts : (s : Sheet) → sheet_text s ≡ flat (sheet_texts s)
unfolding sheet_text sheet_texts
sheet-texts s = texts-lines kinds (groups_of s)

pub sheet-texts-count : (s : Sheet) → length (sheet_texts s) ≡ kind_count
unfolding sheet_texts
sheet-texts-count s = texts-count kinds (groups_of s) refl

module _ {s : Sheet} {lines all : List ℕ} (S : StoreOf s lines all) where
  -- the lines of a kind stand from its base on
  module _ (k : ℕ) (h : k < kind_count) where
    pub store-fits : GroupFits k (number lines k) all
    store-fits = let f = store-few S k h in record { few = omega (arith, f.0, most-small k h); inside = f.1 }

    same_rows : rows (width (kind_at k)) (number lines k) (drop (base_of k) all) ≡ get_or (groups_of s) k []
    same_rows =
        let w = width (kind_at k) in
        let n = number lines k in
        let g = drop (base_of k) all in
        let back : rows w (length (rows w n g)) (flat (rows w n g)) ≡ rows w n g =
        rows-of-flat w (rows w n g) (rows-wide-of w n g (omega (arith, store-fits.inside, length-drop (base_of k) all))) in
        sym back
        ∙ ap (λ (m : ℕ). rows w m (flat (rows w n g))) (rows-count w n g ∙ store-count S k h)
        ∙ ap (rows w (length (get_or (groups_of s) k []))) (flat-of-rows w n g ∙ store-part S k h)
        ∙ rows-of-flat w (get_or (groups_of s) k []) (store-wide S k h)

    pub store-text : group_text k (number lines k) all ≡ get_or (sheet_texts s) k []
    unfolding group_text sheet_texts
    store-text =
        ap (λ (l : List (List ℕ)). bind (map (line (kind_at k)) l) (line_text most_digits)) same_rows ∙ sym (texts-at kinds (groups_of s) refl k h)
