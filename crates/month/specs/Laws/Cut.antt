-- How many bytes decide a month's page (document 02, E3): the page of a text as long as 4,097 of the longest lines does not change with what follows it.
-- A line that is taken has at most 28 bytes and its line feed, so each line taken leaves bytes enough for those that may come after it; the line after
-- 4,096 taken ones is refused, whatever it is; and 29 bytes without a line feed begin no line, so test 2 refuses them, whatever follows.
-- One byte fewer does not decide: 4,096 of the longest lines and one without its line feed are refused by 2, and by 14 once the line feed follows.
use Rattle.std.specs.Prelude.{◌≡◌, ◌≢◌, Bool, true, false, List, [], ◌∷◌, ◌++◌, ℕ, zero, suc, ◌+◌, ◌*◌, ◌≤◌, ◌<◌, eqb, length, take, drop}
use Rattle.std.proofs.Math.Path.{refl}
use Rattle.std.proofs.Common.{sym, ◌∙◌, ap, ⊎_elim, append-nil, append_assoc, arith, length-append, take-append-drop, take_all, length-take-le, le-leb, eqb-true}
use Rattle.std.proofs.Math.Option.{Option, some, none}
use Rattle.std.proofs.lemmas.Bool.{lt-leb}
use Rattle.sheet.specs.Lists.{pick, filled}
use Rattle.sheet.specs.Bytes.{kind_of, line_feed, split}
use Rattle.sheet.specs.Decimal.{digits_from, number_of}
use Rattle.sheet.specs.Kinds.{width}
use Rattle.sheet.specs.Lines.{Line, line, numbers_of, of_fields, line_of, lines_of, text_lines}
use Rattle.sheet.specs.Text.{line_text, refusal_line}
use Rattle.sheet.specs.Laws.Ascii.{bytes}
use Rattle.sheet.specs.Laws.Decimal.{below_or_not}
use Rattle.sheet.specs.Laws.LineEnding.{text-front}
use Rattle.sheet.specs.Laws.LineText.{without, text-then, line-unread}
use Rattle.sheet.specs.Laws.Printed.{printed-most}
use Rattle.costs.specs.Costs.{Cost}
use Rattle.month.specs.Month.{kind_m, figure_digits, Month, Outcome, refused, told, tests, fault, judge, month_of, figure_lines, page, page_room, held}
use Rattle.month.specs.Laws.Served.{fault-passed}

-- how many bytes decide a month's page: 4,097 lines of at most 29 bytes
abbrev pub deciding : ℕ
deciding = 4097 * 29

abbrev line_in : List ℕ → Option Line
line_in p = line_of figure_digits (kind_m ∷ []) p

abbrev lines_in : List ℕ → List (Option Line)
lines_in b = text_lines figure_digits (kind_m ∷ []) b

-- what reads as a line has at most 28 bytes: a letter, and three times a comma and eight digits
line-short : (p : List ℕ) (l : Line) → line_in p ≡ some l → length p ≤ 28
unfolding line_text
line-short p l e =
    let r = line-unread figure_digits (kind_m ∷ []) p l e in
    let t = printed-most figure_digits l.kind.letter l.numbers in
    let count : l.kind ≡ kind_m → length l.numbers ≡ 3 = λ i. r.shaped.count ∙ ap width i in
    ⊎_elim {C = length p ≤ 28}
    (λ i. omega (arith, count i, ap length r.text, length-append p (10 ∷ []), t))
    (λ z. absurd z)
    r.shaped.known

long-none : (p : List ℕ) → 29 ≤ length p → line_in p ≡ none
long-none p h = go (line_in p) refl
  where
    go : (o : Option Line) → line_in p ≡ o → o ≡ none
    go none e = refl
    go (some l) e = absurd (omega (arith, line-short p l e))

-- bytes enough for k lines are judged the same, whatever follows
abbrev Settled : ℕ → Type 0
Settled k =
    (before : Month) (b : List ℕ) → length before + k ≡ 4097 → 1 ≤ k → k * 29 ≤ length b
    → (r s : List ℕ) → judge before (lines_in (b ++ r)) ≡ judge before (lines_in (b ++ s))

-- so the lines after one that ends inside, k being left
module _ (k : ℕ) (f : Settled k) (before : Month) (n : length before + suc k ≡ 4097) where
  module _ (p t : List ℕ) (h : suc k * 29 ≤ length p + suc (length t)) (r s : List ℕ) where
    settled-after : (l : Line) → line_in p ≡ some l → judge before (some l ∷ lines_in (t ++ r)) ≡ judge before (some l ∷ lines_in (t ++ s))
    unfolding judge
    settled-after l e = go (eqb (fault before l.numbers) 0) refl
      where
        next : Month
        next = before ++ (l.numbers ∷ [])

        no : Outcome
        no = refused (fault before l.numbers) (suc (length before))

        go : (z : Bool) → eqb (fault before l.numbers) 0 ≡ z → pick z (judge next (lines_in (t ++ r))) no ≡ pick z (judge next (lines_in (t ++ s))) no
        go false w = refl
        go true w =
            let a = (fault-passed before l.numbers (eqb-true (fault before l.numbers) 0 w)).1 in
            f next t (omega (arith, length-append before (l.numbers ∷ []))) (omega arith) (omega (arith, line-short p l e)) r s

    settled-line : (o : Option Line) → line_in p ≡ o → judge before (o ∷ lines_in (t ++ r)) ≡ judge before (o ∷ lines_in (t ++ s))
    unfolding judge
    settled-line none e = refl
    settled-line (some l) e = settled-after l e

settled : (k : ℕ) → Settled k
unfolding judge
settled zero before b n p h r s = absurd (omega arith)
settled (suc k) before b n p h r s =
    ⊎_elim
    (λ g. rw (g.2.lines r, g.2.lines s) (settled-line k (settled k) before n g.0 g.1 (omega (arith, g.2.longer)) r s (line_in g.0) refl))
    (λ g. rw ((g.lines r).1, (g.lines s).1))
    (text-front figure_digits (kind_m ∷ []) b (omega arith) (λ q. long-none (b ++ q) (omega (arith, length-append b q))))

pub month-cut : (b rest : List ℕ) → deciding ≤ length b → month_of (b ++ rest) ≡ month_of b
unfolding month_of
month-cut b rest h = settled 4097 [] b (omega arith) (omega arith) h rest [] ∙ ap month_of (append-nil b)

pub page-cut : (b rest : List ℕ) → deciding ≤ length b → page (b ++ rest) ≡ page b
unfolding page
page-cut b rest h = rw (month-cut b rest h)

-- to read n bytes is enough
pub page-read : (n : ℕ) (b : List ℕ) → deciding ≤ n → page (take n b) ≡ page b
page-read n b h =
    ⊎_elim
    (λ l. ap page (take_all n b (omega arith)))
    (λ l. sym (page-cut (take n b) (drop n b) (omega (arith, length-take-le n b l))) ∙ ap page (take-append-drop n b))
    (below_or_not (length b) n)

-- n bytes in a buffer that holds the bytes that decide: where it is full, whatever follows them in the input changes nothing
pub whole-input : (buffer rest : List ℕ) (n : ℕ) → n ≤ length buffer → deciding ≤ length buffer → (n < length buffer → rest ≡ []) → held (take n buffer ++ rest) ≡ held (take n buffer)
unfolding held
whole-input buffer rest n l d f = ⊎_elim short full (below_or_not n (length buffer))
  where
    same : page (take n buffer ++ rest) ≡ page (take n buffer) → held (take n buffer ++ rest) ≡ held (take n buffer)
    same e = λ i. record { bytes = filled page_room (e i); count = length (e i) }

    short : n < length buffer → held (take n buffer ++ rest) ≡ held (take n buffer)
    short g = ap (λ (r : List ℕ). held (take n buffer ++ r)) (f g) ∙ ap held (append-nil (take n buffer))

    full : length buffer ≤ n → held (take n buffer ++ rest) ≡ held (take n buffer)
    full g = same (page-cut (take n buffer) rest (omega (arith, length-take-le n buffer l)))

-- the longest line, without its line feed
abbrev pub longest : List ℕ
longest = bytes "M,15300000,15300000,15300000"

-- n such lines
unfoldable pub longest_lines : ℕ → List ℕ
longest_lines zero = []
longest_lines (suc n) = longest ++ (10 ∷ longest_lines n)

-- one byte fewer than decide
abbrev pub almost : List ℕ
almost = longest_lines 4096 ++ longest

lines-length : (n : ℕ) → length (longest_lines n) ≡ n * 29
unfolding longest_lines
lines-length zero = refl
lines-length (suc n) = omega (arith, lines-length n)

pub almost-length : length almost + 1 ≡ deciding
almost-length = omega (arith, length-append (longest_lines 4096) longest, lines-length 4096)

abbrev dearest : Cost
dearest = 15300000 ∷ 15300000 ∷ 15300000 ∷ []

longest-read : line_in longest ≡ some (line kind_m dearest)
unfolding line_of of_fields numbers_of number_of digits_from split kind_of
longest-read = refl

longest-cut : lines_in longest ≡ none ∷ []
unfolding text_lines lines_of split kind_of
longest-cut = refl

longest-then : (b : List ℕ) → lines_in (longest ++ (10 ∷ b)) ≡ some (line kind_m dearest) ∷ lines_in b
unfolding kind_of
longest-then b = text-then figure_digits (kind_m ∷ []) longest b (without line_feed longest refl) ∙ ap (λ (o : Option Line). o ∷ lines_in b) longest-read

-- n of the longest lines are taken
lines-taken : (n : ℕ) (before : Month) → length before + n ≤ 4096 → (b : List ℕ)
    → (after : Month) × (length after ≡ length before + n) × (judge before (lines_in (longest_lines n ++ b)) ≡ judge after (lines_in b))
unfolding longest_lines judge fault tests
lines-taken zero before h b = (before, omega arith, refl)
lines-taken (suc n) before h b =
    let m = length-append before (dearest ∷ []) in
    let r = lines-taken n (before ++ (dearest ∷ [])) (omega (arith, m)) b in
    (r.0, omega (arith, m, r.1), ap (judge before) (longest-then (longest_lines n ++ b)) ∙ rw (lt-leb 4096 (length before) (omega arith)) r.2)

pub almost-page : page almost ≡ refusal_line 2 4097
unfolding page month_of judge
almost-page =
    let r = lines-taken 4096 [] (omega arith) longest in
    let e : suc (length r.0) ≡ 4097 = omega (arith, r.1) in
    ap (told refusal_line figure_lines) (r.2 ∙ ap (judge r.0) longest-cut ∙ ap (refused 2) e)

longest-more : (before : Month) → length before ≡ 4096 → judge before (lines_in (longest ++ (10 ∷ []))) ≡ refused 14 4097
unfolding judge fault tests text_lines lines_of split
longest-more before e = ap (judge before) (longest-then []) ∙ rw (le-leb 4096 (length before) (omega arith)) (ap (λ (n : ℕ). refused 14 (suc n)) e)

pub almost-ended : page (almost ++ (10 ∷ [])) ≡ refusal_line 14 4097
unfolding page month_of
almost-ended =
    let r = lines-taken 4096 [] (omega arith) (longest ++ (10 ∷ [])) in
    ap page (append_assoc (longest_lines 4096) longest (10 ∷ [])) ∙ ap (told refusal_line figure_lines) (r.2 ∙ longest-more r.0 (omega (arith, r.1)))

pub not-fewer : page (almost ++ (10 ∷ [])) ≢ page almost
unfolding refusal_line
not-fewer e = omega (arith, ap length (sym almost-ended ∙ e ∙ almost-page))
