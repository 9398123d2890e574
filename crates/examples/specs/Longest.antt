-- A sheet as long as any (sheet `RoundTrip.valid-text`): 64 waits, 256 corridors, 256 closures and 256 occupancies, each number with the most digits
-- that its limit and its turn allow. It is valid, it has `longest` bytes, it is read from them, and the writer writes it. Its runs of lines are computed, each
-- by tests that take the lines one by one.
use Rattle.std.specs.Prelude.{◌≡◌, refl, Bool, true, false, not, ◌&&◌, ◌||◌, List, [], ◌∷◌, ℕ, zero, suc, ◌+◌, ◌/◌, ◌%◌, ◌≤◌, leb, eqb, length, take}
use Rattle.std.proofs.Common.{sym, ◌∙◌, ap, arith, leb-true, eqb-true}
use Rattle.std.proofs.lemmas.Bool.{not-true}
use Rattle.sheet.specs.Lists.{◌∈◌, all}
use Rattle.sheet.specs.Computed.{lexb}
use Rattle.sheet.specs.Sorting.{Ascending}
use Rattle.sheet.specs.Kinds.{Kind, width, kind_s, kind_w, kind_c, kind_x, kind_o}
use Rattle.sheet.specs.Lines.{line}
use Rattle.sheet.specs.Sheet.{Sheet, places, steps, outside, unpaired, unknown, late, loaded, read_of}
use Rattle.sheet.specs.Text.{sheet_text}
use Rattle.sheet.specs.Valid.{Turned, Valid}
use Rattle.sheet.specs.Calls.{read_answer, read_call, Groups, groups_read, WriteEnd, write_groups}
use Rattle.sheet.specs.declared.SheetRead.{SheetRead}
use Rattle.sheet.specs.declared.SheetWritten.{SheetWritten}
use Rattle.sheet.specs.Laws.Order.{and-true, lexb-true}
use Rattle.sheet.specs.Laws.Members.{all_true}
use Rattle.sheet.specs.Laws.Passed.{or-false}
use Rattle.sheet.specs.Laws.Limits.{inside-within}
use Rattle.sheet.specs.Laws.Runs.{Run}
use Rattle.sheet.specs.Laws.Valid.{EachWait, runs-valid}
use Rattle.sheet.specs.Laws.TextBound.{longest}
use Rattle.sheet.specs.Laws.RoundTrip.{numbers_of_sheet, written_all}
use Rattle.sheet.proofs.RoundTrip.{read-write-calls, valid-read}

-- f of n numbers, from i on
abbrev pub counted : (ℕ → List ℕ) → ℕ → ℕ → List (List ℕ)
counted f i zero = []
counted f i (suc n) = f i ∷ counted f (suc i) n

abbrev pub wait : ℕ → List ℕ
wait i = i ∷ 60000 ∷ 60000 ∷ 60000 ∷ []

abbrev pub corridor : ℕ → List ℕ
corridor i = (10 + i / 48) ∷ (16 + i % 48) ∷ 60000 ∷ 60000 ∷ 60000 ∷ []

abbrev pub closure : ℕ → List ℕ
closure i = 10 ∷ (16 + i / 128) ∷ (128 + i % 128) ∷ []

abbrev pub occupancy : ℕ → List ℕ
occupancy i = (10 + i / 100) ∷ (100 + i % 100) ∷ 255 ∷ []

unfoldable pub longest_sheet : Sheet
longest_sheet =
    record {
      head = 64 ∷ 255 ∷ 10 ∷ 10 ∷ 99 ∷ [];
      waits = counted wait 0 64;
      corridors = counted corridor 0 256;
      closures = counted closure 0 256;
      occupancies = counted occupancy 0 256;
    }

-- the tests of one line that do not look at the lines of its kind before it
abbrev faulty : Sheet → Kind → List ℕ → Bool
faulty s k n =
    outside (places s) k.limits n || unpaired k.pair n || unknown s.corridors (line k n) || late (steps s) (line k n)

abbrev fits : Sheet → Kind → List ℕ → Bool
fits s k n = eqb (length n) (width k) && not (faulty s k n)

record Fit (s : Sheet) (k : Kind) (n : List ℕ) : Type 0 where
  count : length n ≡ width k
  inside : outside (places s) k.limits n ≡ false
  paired : unpaired k.pair n ≡ false
  known : unknown s.corridors (line k n) ≡ false
  timely : late (steps s) (line k n) ≡ false

fits-true : (s : Sheet) (k : Kind) (n : List ℕ) → fits s k n ≡ true → Fit s k n
fits-true s k n e =
    let o = outside (places s) k.limits n in
    let u = unpaired k.pair n in
    let x = unknown s.corridors (line k n) in
    let t = late (steps s) (line k n) in
    let f = and-true (eqb (length n) (width k)) (not (faulty s k n)) e in
    let c = or-false (o || u || x) t (not-true (faulty s k n) f.1) in
    let b = or-false (o || u) x c.0 in
    let a = or-false o u b.0 in
    record { count = eqb-true (length n) (width k) f.0; inside = a.0; paired = a.1; known = b.1; timely = c.1 }

-- each line stands before the next, by so many first numbers
abbrev ascends : ℕ → List (List ℕ) → Bool
ascends key [] = true
ascends key (m ∷ []) = true
ascends key (m ∷ n ∷ ns) = let r = ascends key (n ∷ ns) in lexb (take key m) (take key n) && r

ascends-true : (key : ℕ) (ns : List (List ℕ)) → ascends key ns ≡ true → Ascending (take key) ns
ascends-true key [] e = tt
ascends-true key (m ∷ []) e = (tt, tt)
ascends-true key (m ∷ n ∷ ns) e =
    let r = and-true (lexb (take key m) (take key n)) (ascends key (n ∷ ns)) e in
    (lexb-true (take key m) (take key n) r.0, ascends-true key (n ∷ ns) r.1)

tested-run : (s : Sheet) (k : Kind) (ns : List (List ℕ)) → all (fits s k) ns ≡ true → leb (length ns) k.most ≡ true → ascends k.key ns ≡ true
    → Run s k ns
tested-run s k ns f m a =
    let fit : (n : List ℕ) → n ∈ ns → Fit s k n = λ n i. fits-true s k n (all_true (fits s k) ns f n i) in
    record {
      count = λ n i. (fit n i).count;
      within = λ n i. inside-within (places s) k.limits n (fit n i).inside;
      paired = λ n i. (fit n i).paired;
      known = λ n i. (fit n i).known;
      timely = λ n i. (fit n i).timely;
      few = leb-true (length ns) k.most m;
      ascend = ascends-true k.key ns a;
    }

-- its runs, one for each kind
head-run : Run longest_sheet kind_s (longest_sheet.head ∷ [])
unfolding longest_sheet
head-run = tested-run longest_sheet kind_s (longest_sheet.head ∷ []) refl refl refl

waits-run : Run longest_sheet kind_w longest_sheet.waits
unfolding longest_sheet
waits-run = tested-run longest_sheet kind_w longest_sheet.waits refl refl refl

corridors-run : Run longest_sheet kind_c longest_sheet.corridors
unfolding longest_sheet
corridors-run = tested-run longest_sheet kind_c longest_sheet.corridors refl refl refl

closures-run : Run longest_sheet kind_x longest_sheet.closures
unfolding longest_sheet
closures-run = tested-run longest_sheet kind_x longest_sheet.closures refl refl refl

occupancies-run : Run longest_sheet kind_o longest_sheet.occupancies
unfolding longest_sheet
occupancies-run = tested-run longest_sheet kind_o longest_sheet.occupancies refl refl refl

-- its W lines, in turn
waits-turned : (i n : ℕ) → Turned i (counted wait i n)
waits-turned i zero = tt
waits-turned i (suc n) = (refl, waits-turned (suc i) n)

each-wait : EachWait longest_sheet
unfolding longest_sheet
each-wait = record { turned = waits-turned 0 64; each = refl }

pub longest-valid : Valid longest_sheet
longest-valid = runs-valid longest_sheet (head-run, (waits-run, (corridors-run, (closures-run, (occupancies-run, tt))))) each-wait

-- no valid sheet has more bytes
pub longest-reached : length (sheet_text longest_sheet) ≡ longest
unfolding sheet_text longest_sheet
longest-reached = refl

pub longest-read : read_of (sheet_text longest_sheet) ≡ loaded longest_sheet
longest-read = valid-read longest_sheet longest-valid

-- a valid sheet is written, where the reader hands back its groups
valid-written : (s : Sheet) → Valid s → groups_read (read_answer (loaded s)) ≡ numbers_of_sheet s → (out : List ℕ) → length (sheet_text s) ≤ length out
    → write_groups (numbers_of_sheet s) out ≡ written_all (sheet_text s) out
unfolding read_call read_answer
valid-written s v e out h =
    let r : read_call (sheet_text s) ≡ read_answer (loaded s) = ap read_answer (valid-read s v) in
    ap (λ (g : Groups). write_groups g out) (sym (ap groups_read r ∙ e))
    ∙ read-write-calls (sheet_text s) out (ap (λ (a : SheetRead). a.refusal) r) h

groups-back : groups_read (read_answer (loaded longest_sheet)) ≡ numbers_of_sheet longest_sheet
unfolding read_answer longest_sheet
groups-back = refl

pub longest-written : (out : List ℕ) → longest ≤ length out
    → (write_groups (numbers_of_sheet longest_sheet) out).answer ≡ record { refusal = 0; line = 0; bytes = longest }
longest-written out h =
    ap (λ (w : WriteEnd). w.answer) (valid-written longest_sheet longest-valid groups-back out (omega (arith, longest-reached)))
    ∙ ap bytes_of longest-reached
  where
    bytes_of : ℕ → SheetWritten
    bytes_of n = record { refusal = 0; line = 0; bytes = n }
