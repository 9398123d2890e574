-- The text of lines that pass is no longer than a sheet may be. A line's text is at most as long as its kind's description allows: a number
-- has at most as many digits as the highest within its limit. The most lines of each kind, each as long as that, are 14,536 bytes (`text-room`),
-- where a W line has no more digits of its place than the place it is the turn of.
-- The laws that rest on what `waiting` says stand in proofs/TextBound.antt: `text-longest` and `text-bound`.
use Rattle.std.specs.Prelude.{◌≡◌, refl, Bool, true, false, List, [], ◌∷◌, ◌++◌, map, ℕ, zero, suc, ◌+◌, ◌*◌, ◌/◌, ◌%◌, ◌≤◌, ltb, length}
use Rattle.std.proofs.Common.{ap, inl, arith, mul-le-mul_right, length-append, ltb-true, ltb-false}
use Rattle.sheet.specs.Lists.{pick, bind}
use Rattle.sheet.specs.Decimal.{digits_of, most_digits}
use Rattle.sheet.specs.Kinds.{Limit, cost, Kind, width, kind_s, kind_w, kind_c, kind_x, kind_o}
use Rattle.sheet.specs.Lines.{Line, line}
use Rattle.sheet.specs.Sheet.{Sheet, places, place_of, lines_from, sheet_lines}
use Rattle.sheet.specs.Text.{number_text, line_text}
use Rattle.sheet.specs.Valid.{Turned}
use Rattle.sheet.specs.Laws.Printed.{number-length, printed-length}
use Rattle.sheet.specs.Laws.Limits.{Within, highest, at-most-highest}
use Rattle.sheet.specs.Laws.Binds.{bind-append}
use Rattle.sheet.specs.Laws.Runs.{Run, run-tail, AllRuns}
use Rattle.sheet.specs.Laws.Valid.{Runs, runs-places}

-- a larger number has no fewer digits
digits-grow : (k m n : ℕ) → m ≤ n → length (digits_of k m) ≤ length (digits_of k n)
unfolding digits_of
digits-grow zero m n h = omega arith
digits-grow (suc k) m n h = go (ltb m 10) (ltb n 10) refl refl (digits-grow k (m / 10) (n / 10) tenths)
  where
    tenths : m / 10 ≤ n / 10
    tenths = omega arith

    longer : (l : List ℕ) (a : ℕ) → length (l ++ (a ∷ [])) ≡ length l + 1
    longer l a = length-append l (a ∷ [])

    go : (a b : Bool) → ltb m 10 ≡ a → ltb n 10 ≡ b → length (digits_of k (m / 10)) ≤ length (digits_of k (n / 10))
        → length (pick a ((48 + m) ∷ []) (digits_of k (m / 10) ++ ((48 + m % 10) ∷ []))) ≤ length (pick b ((48 + n) ∷ []) (digits_of k (n / 10) ++ ((48 + n % 10) ∷ [])))
    go true true p q f = omega arith
    go true false p q f = omega (arith, longer (digits_of k (n / 10)) (48 + n % 10))
    go false true p q f = absurd (omega (arith, ltb-false m 10 p, ltb-true n 10 q))
    go false false p q f = omega (arith, longer (digits_of k (m / 10)) (48 + m % 10), longer (digits_of k (n / 10)) (48 + n % 10))

-- the most bytes of numbers within these limits, each with its comma, and of a line of the kind
unfoldable numbers_room : List Limit → ℕ
unfolding digits_of
numbers_room [] = 0
numbers_room (x ∷ xs) = suc (length (digits_of most_digits (highest x))) + numbers_room xs

unfoldable line_room : Kind → ℕ
unfolding numbers_room
line_room k = 2 + numbers_room k.limits

numbers-text : (p : ℕ) → p ≤ 64 → (xs : List Limit) (ns : List ℕ) → length ns ≡ length xs → Within p xs ns → length (bind ns (number_text most_digits)) ≤ numbers_room xs
unfolding numbers_room
numbers-text p h xs [] e w = omega arith
numbers-text p h [] (n ∷ ns) e w = absurd (omega arith)
numbers-text p h (x ∷ xs) (n ∷ ns) e w =
    let a = length-append (number_text most_digits n) (bind ns (number_text most_digits)) in
    let b = digits-grow most_digits n (highest x) (at-most-highest p h x n w.0) in
    let c = numbers-text p h xs ns (omega arith) w.1 in
    omega (arith, number-length most_digits n)

line-text : (p : ℕ) → p ≤ 64 → (l : Line) → length l.numbers ≡ length l.kind.limits → Within p l.kind.limits l.numbers
    → length (line_text most_digits l) ≤ line_room l.kind
unfolding line_room line_text
line-text p h l e w = omega (arith, printed-length most_digits l.kind.letter l.numbers, numbers-text p h l.kind.limits l.numbers e w)

run-text : (s : Sheet) → places s ≤ 64 → (k : Kind) (ns : List (List ℕ)) → Run s k ns → length (bind (map (line k) ns) (line_text most_digits)) ≤ length ns * line_room k
run-text s h k [] r = omega arith
run-text s h k (n ∷ ns) r =
    let a = length-append (line_text most_digits (line k n)) (bind (map (line k) ns) (line_text most_digits)) in
    let b = line-text (places s) h (line k n) (r.count n (inl refl)) (r.within n (inl refl)) in
    let c = run-text s h k ns (run-tail s k n ns r) in
    omega arith

-- the most bytes of the lines of these kinds
unfoldable text_room : List Kind → ℕ
unfolding line_room
text_room [] = 0
text_room (k ∷ ks) = k.most * line_room k + text_room ks

runs-text : (s : Sheet) → places s ≤ 64 → (ks : List Kind) (gs : List (List (List ℕ))) → AllRuns s ks gs → length (bind (lines_from ks gs) (line_text most_digits)) ≤ text_room ks
unfolding text_room
runs-text s h [] gs r = omega arith
runs-text s h (k ∷ ks) [] r = omega arith
runs-text s h (k ∷ ks) (g ∷ gs) r =
    let a = ap length (bind-append (line_text most_digits) (map (line k) g) (lines_from ks gs)) in
    let b = length-append (bind (map (line k) g) (line_text most_digits)) (bind (lines_from ks gs) (line_text most_digits)) in
    omega (arith, a, b, run-text s h k g r.0, runs-text s h ks gs r.1, mul-le-mul_right (line_room k) r.0.few)

-- the most bytes of n lines of waits, from the turn of place i on
unfoldable turn_room : ℕ → ℕ → ℕ
unfolding digits_of numbers_room
turn_room i zero = 0
turn_room i (suc n) = 3 + length (digits_of most_digits i) + numbers_room (cost ∷ cost ∷ cost ∷ []) + turn_room (suc i) n

turn-grow : (i m n : ℕ) → m ≤ n → turn_room i m ≤ turn_room i n
unfolding turn_room
turn-grow i zero n h = omega arith
turn-grow i (suc m) zero h = absurd (omega arith)
turn-grow i (suc m) (suc n) h = omega (arith, turn-grow (suc i) m n (omega arith))

wait-text : (s : Sheet) → places s ≤ 64 → (i : ℕ) (w : List ℕ) → place_of w ≡ i → length w ≡ width kind_w → Within (places s) kind_w.limits w
    → length (line_text most_digits (line kind_w w)) ≤ 3 + length (digits_of most_digits i) + numbers_room (cost ∷ cost ∷ cost ∷ [])
unfolding line_text
wait-text s h i [] t e w = absurd (omega arith)
wait-text s h i (x ∷ ns) t e w =
    omega (
      arith,
      printed-length most_digits kind_w.letter (x ∷ ns),
      length-append (number_text most_digits x) (bind ns (number_text most_digits)),
      number-length most_digits x,
      ap (λ (n : ℕ). length (digits_of most_digits n)) t,
      numbers-text (places s) h (cost ∷ cost ∷ cost ∷ []) ns (omega arith) w.1,
    )

waits-text : (s : Sheet) → places s ≤ 64 → (i : ℕ) (ws : List (List ℕ)) → Turned i ws → Run s kind_w ws
    → length (bind (map (line kind_w) ws) (line_text most_digits)) ≤ turn_room i (length ws)
unfolding turn_room
waits-text s h i [] t r = omega arith
waits-text s h i (w ∷ ws) t r =
    let a = length-append (line_text most_digits (line kind_w w)) (bind (map (line kind_w) ws) (line_text most_digits)) in
    let b = wait-text s h i w t.0 (r.count w (inl refl)) (r.within w (inl refl)) in
    let c = waits-text s h (suc i) ws t.1 (run-tail s kind_w w ws r) in
    omega arith

-- the lines of a sheet whose W lines stand in turn
sheet-text : (s : Sheet) → Runs s → Turned 0 s.waits → length (bind (sheet_lines s) (line_text most_digits)) ≤ line_room kind_s + (turn_room 0 64 + text_room (kind_c ∷ kind_x ∷ kind_o ∷ []))
sheet-text s r t =
    let later = lines_from (kind_c ∷ kind_x ∷ kind_o ∷ []) (s.corridors ∷ s.closures ∷ s.occupancies ∷ []) in
    let h = runs-places s r in
    let head = run-text s h kind_s (s.head ∷ []) r.0 in
    let waits = waits-text s h 0 s.waits t r.1.0 in
    let rest = runs-text s h (kind_c ∷ kind_x ∷ kind_o ∷ []) (s.corridors ∷ s.closures ∷ s.occupancies ∷ []) r.1.1 in
    omega (
      arith,
      ap length (bind-append (line_text most_digits) (map (line kind_s) (s.head ∷ [])) (map (line kind_w) s.waits ++ later)),
      length-append (bind (map (line kind_s) (s.head ∷ [])) (line_text most_digits)) (bind (map (line kind_w) s.waits ++ later) (line_text most_digits)),
      ap length (bind-append (line_text most_digits) (map (line kind_w) s.waits) later),
      length-append (bind (map (line kind_w) s.waits) (line_text most_digits)) (bind later (line_text most_digits)),
      turn-grow 0 (length s.waits) 64 r.1.0.few,
    )

-- no text of lines that pass has more bytes
abbrev pub longest : ℕ
longest = 14536

text-room : line_room kind_s + (turn_room 0 64 + text_room (kind_c ∷ kind_x ∷ kind_o ∷ [])) ≡ longest
unfolding text_room turn_room
text-room = refl

pub sheet-longest : (s : Sheet) → Runs s → Turned 0 s.waits → length (bind (sheet_lines s) (line_text most_digits)) ≤ longest
sheet-longest s r t = omega (arith, sheet-text s r t, text-room)
