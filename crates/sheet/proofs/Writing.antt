-- Taking the lines of a group one after another, and the groups of a sheet: what is left to be judged, whatever comes after it.
-- Assumes nothing.
use mathlib.Core.Path.{◌≡◌, refl, sym, ◌∙◌, ap, ap₂, subst}
use mathlib.Core.Bool.{false}
use mathlib.Core.List.{List, [], ◌∷◌, ◌++◌, map, append-nil}
use mathlib.Core.Option.{Option, some}
use Prim.Native.Nat.{ℕ, suc, ◌+◌, ◌*◌, ◌/◌, ◌≤◌, ◌<◌}
use native.Mathlib.Omega.{arith}
use native.Mathlib.Numerals.{add-one}
use native.Mathlib.Nat.{suc-mul, zero-add, mul-le-mul_right, div-add-mod'}
use lib.ListN.{length, get_or, take, drop, length-drop, length-map, length-append, drop_of_length-le}
use borrow.Author.Tests.{lt-ltb, le-ltb}
use lib.Seq.{sets, sets-eq, drop-cons, length-take-le, take_at, take_all}
use Rattle.sheet.specs.Lists.{filled, rows}
use Rattle.sheet.specs.Kinds.{width, kind_s}
use Rattle.sheet.specs.Lines.{Line, line}
use Rattle.sheet.specs.Sheet.{Sheet, sheet_lines, Outcome, told}
use Rattle.sheet.specs.Text.{sheet_text}
use Rattle.sheet.specs.Calls.{Groups, group_rows, uneven, sheet_of_groups, judged_groups, write_end, write_refused, written, write_groups}
use Rattle.sheet.specs.Store.{kind_count, kind_at, Blank}
use Rattle.sheet.specs.Refusals.{number_of}
use Rattle.sheet.specs.Inner.{line_at, Takes, Reached, GroupReached, group_lines, GroupTaken}
use Rattle.sheet.specs.Laws.Refusals.{number-some}
use Rattle.sheet.specs.Laws.Members.{get_d_map}
use Rattle.sheet.specs.Laws.Rows.{rows-count, rows_at}
use Rattle.sheet.specs.Laws.RoundTrip.{whole-judged}
use Rattle.sheet.specs.declared.SheetWritten.{SheetWritten}
use Rattle.sheet.specs.declared.refusal.Refusal.{Refusal}
use Rattle.sheet.proofs.Reached.{reached-start, reached-next, reached-fault, so_far, so-far-refused}
use Rattle.sheet.proofs.Reading.{stored-few}

-- i lines of the group of kind k in g were taken
pub record Taken (k : ℕ) (g lines all : List ℕ) (n i : ℕ) (lines' all' : List ℕ) (next : ℕ) : Type 0 where
  pub of : (end : Outcome) (rest : List (Option Line)) → Reached end (map some (group_lines k g) ++ rest) lines all n
      → Reached end (map some (drop i (group_lines k g)) ++ rest) lines' all' next

-- the lines of the group of kind k in g
module _ (k : ℕ) (g : List ℕ) (h : k < kind_count) where
  abbrev w : ℕ
  w = width (kind_at k)

  pub group-count : length (group_lines k g) ≡ length g / w
  group-count = length-map (group_rows (kind_at k) g) (line (kind_at k)) ∙ rows-count w (length g / w) g

  -- the row at i stands within the group
  pub row_inside : (i : ℕ) → i < length g / w → i * w + w ≤ length g
  row_inside i l =
      let m : suc i * w ≤ length g / w * w = mul-le-mul_right w l in
      omega (arith, div-add-mod' (length g) w, suc-mul i w, m)

  -- line i, as its row is read
  row_line : (i : ℕ) → i < length g / w → get_or (group_lines k g) i (line kind_s []) ≡ line_at k (filled 8 (take w (drop (i * w) g)))
  row_line i l =
      let r = take w (drop (i * w) g) in
      let e : length r ≡ w = length-take-le w (drop (i * w) g) (omega (arith, length-drop (i * w) g, row_inside i l)) in
      get_d_map (line (kind_at k)) (group_rows (kind_at k) g) i [] (line kind_s []) (omega (arith, l, rows-count w (length g / w) g))
      ∙ ap (line (kind_at k)) (rows_at w (length g / w) g i l ∙ sym (take_at r _ w e))

  -- line i is v, as its row was read
  module _ {lines all lines' all' : List ℕ} {n i next : ℕ} (T : Taken k g lines all n i lines' all' next) (l : i < length g / w) (v : List ℕ) (e : v ≡ filled 8 (take w (drop (i * w) g)))
    where
      taken-line : (end : Outcome) (rest : List (Option Line)) → Reached end (map some (group_lines k g) ++ rest) lines all n
          → Reached end (some (line_at k v) ∷ (map some (drop (suc i) (group_lines k g)) ++ rest)) lines' all' next
      taken-line end rest R =
          subst (λ (ls : List Line). Reached end (map some ls ++ rest) lines' all' next)
          (drop-cons (group_lines k g) i (line kind_s []) (omega (arith, l, group-count)) ∙ ap (λ (m : Line). m ∷ drop (suc i) (group_lines k g)) (row_line i l ∙ ap (line_at k) (sym e)))
          (T.of end rest R)

      pub taken_next : {lines'' all'' : List ℕ} {r : ℕ} → Takes lines' all' (line_at k v) lines'' all'' r → r ≡ 0 → Taken k g lines all n (i + 1) lines'' all'' (next + 1)
      taken_next {lines''} {all''} t z =
          record {
            of = λ end rest R. subst (λ (j : ℕ). Reached end (map some (drop j (group_lines k g)) ++ rest) lines'' all'' (next + 1)) (sym (add-one i)) (reached-next (taken-line end rest R) t z);
          }

      pub taken-fault : (f : Refusal) → {lines'' all'' : List ℕ} → Takes lines' all' (line_at k v) lines'' all'' (number_of f)
          → GroupTaken k g lines all n lines'' all'' (record { refusal = number_of f; line = next })
      taken-fault f t =
          record {
            of = λ end rest R. so-far-refused f (reached-fault (taken-line end rest R) t.fault-is (λ z. omega (arith, number-some f)));
            ready = λ z. absurd (omega (arith, number-some f));
          }

  pub taken-all : {lines all lines' all' : List ℕ} {n i next : ℕ} → Taken k g lines all n i lines' all' next → length g / w ≤ i
      → GroupReached lines' all' next → GroupTaken k g lines all n lines' all' (record { refusal = 0; line = next })
  taken-all {lines' = lines'} {all' = all'} {i = i} {next = next} T l q =
      let none_left = drop_of_length-le (group_lines k g) {i = i} (omega (arith, l, group-count)) in
      record {
        of = λ end rest R. so_far (subst (λ (ls : List Line). Reached end (map some ls ++ rest) lines' all' next) none_left (T.of end rest R));
        ready = λ z. q;
      }

-- one more line of an array that holds lines
pub kept_next : {lines all lines' all' : List ℕ} {n r : ℕ} {l : Line} → (q : GroupReached lines all n) → Takes lines all l lines' all' r → r ≡ 0 → GroupReached lines' all' (n + 1)
kept_next {lines} {all} {lines'} {all'} {n} {r} {l} q t e =
    record { before = q.before ++ (l ∷ []); stored = t.stored q.before q.stored e; next = omega (arith, q.next, length-append q.before (l ∷ [])) }

-- what is left to judge after a group that was taken
pub took : {k : ℕ} {g lines all lines' all' : List ℕ} {n m : ℕ} {end : Outcome} {rest : List (Option Line)}
    → GroupTaken k g lines all n lines' all' (record { refusal = 0; line = m }) → Reached end (map some (group_lines k g) ++ rest) lines all n
    → Reached end rest lines' all' m
took T R = (T.of _ _ R).reaches refl

pub group-few : {lines all : List ℕ} {n : ℕ} → GroupReached lines all n → n ≤ 1001
group-few {lines} {all} q = omega (arith, q.next, stored-few q.before lines all q.stored)

-- the lines of the groups, group by group
module _ (g : Groups) (e : length g.head ≡ width kind_s) where
  head-lines : group_lines 0 g.head ≡ line kind_s g.head ∷ []
  head-lines =
      let z : length g.head / width kind_s ≡ 1 = omega (arith, e) in
      ap (λ (n : ℕ). map (line kind_s) (rows (width kind_s) n g.head)) z ∙ ap (λ (h : List ℕ). line kind_s h ∷ []) (take_all (width kind_s) g.head (omega (arith, e)))

  map-append : (ls ms : List Line) (rest : List (Option Line)) → map some (ls ++ ms) ++ rest ≡ map some ls ++ (map some ms ++ rest)
  map-append [] ms rest = refl
  map-append (l ∷ ls) ms rest = ap (λ (k : List (Option Line)). some l ∷ k) (map-append ls ms rest)

  abbrev pub ws : List Line
  ws = group_lines 1 g.waits

  abbrev pub cs : List Line
  cs = group_lines 2 g.corridors

  abbrev pub xs : List Line
  xs = group_lines 3 g.closures

  abbrev pub os : List Line
  os = group_lines 4 g.occupancies

  -- the lines after the S line, judged one after another
  abbrev pub later : List (Option Line)
  later = map some ws ++ (map some cs ++ (map some xs ++ (map some os ++ [])))

  lines_of : map some (sheet_lines (sheet_of_groups g)) ≡ map some (group_lines 0 g.head) ++ later
  lines_of =
      ap (λ (ls : List Line). map some (ls ++ (ws ++ (cs ++ (xs ++ (os ++ [])))))) (sym head-lines)
      ∙ sym (append-nil (map some (group_lines 0 g.head ++ (ws ++ (cs ++ (xs ++ (os ++ [])))))))
      ∙ map-append (group_lines 0 g.head) (ws ++ (cs ++ (xs ++ (os ++ [])))) []
      ∙ ap (λ (ls : List (Option Line)). map some (group_lines 0 g.head) ++ ls) (map-append ws (cs ++ (xs ++ (os ++ []))) []
      ∙ ap (λ (ls : List (Option Line)). map some ws ++ ls) (map-append cs (xs ++ (os ++ [])) []
      ∙ ap (λ (ls : List (Option Line)). map some cs ++ ls) (map-append xs (os ++ []) []
      ∙ ap (λ (ls : List (Option Line)). map some xs ++ ls) (ap (λ (ls : List Line). map some ls ++ []) (append-nil os)))))

  pub groups-start : {lines all : List ℕ} → Blank lines all → Reached (judged_groups g) (map some (group_lines 0 g.head) ++ later) lines all 1
  unfolding judged_groups
  groups-start {lines} {all} b =
      subst (λ (t : List (Option Line)). Reached (judged_groups g) t lines all 1) lines_of (reached-start b (map some (sheet_lines (sheet_of_groups g))))

-- the writer's refusals, by their fields
pub refused_as : (r : SheetWritten) (k n : ℕ) (out : List ℕ) → (r.refusal ≡ k) × (r.line ≡ n) × (r.bytes ≡ 0) → write_end r out ≡ write_refused out k n
refused_as r k n out e = λ i. record { answer = record { refusal = e.0 i; line = e.1 i; bytes = e.2 i }; out = out }

-- what is written of a sheet, by the room for it
front-sets : (t out : List ℕ) → length t ≤ length out → sets out 0 t ≡ t ++ drop (length t) out
front-sets t out l = sets-eq t out 0 (omega arith) ∙ ap (λ (n : ℕ). t ++ drop n out) (zero-add (length t))

pub written-short : (r : SheetWritten) (out : List ℕ) (s : Sheet) → (r.refusal ≡ 12) × (r.line ≡ 0) × (r.bytes ≡ 0) → length out < length (sheet_text s) → write_end r out ≡ written out s
unfolding written
written-short r out s e l = refused_as r 12 0 out e ∙ sym (rw (lt-ltb (length out) (length (sheet_text s)) l))

pub written-whole : (s : Sheet) (out : List ℕ) (n : ℕ) → n ≡ length (sheet_text s) → length (sheet_text s) ≤ length out
    → write_end (record { refusal = 0; line = 0; bytes = n }) (sets out 0 (sheet_text s)) ≡ written out s
unfolding written
written-whole s out n e l =
    ap₂ (λ (b : ℕ) (o : List ℕ). write_end (record { refusal = 0; line = 0; bytes = b }) o) e (front-sets (sheet_text s) out l)
    ∙ sym (rw (le-ltb (length out) (length (sheet_text s)) l))

pub write-judged : (g : Groups) (out : List ℕ) → uneven g ≡ false → (o : Outcome) → judged_groups g ≡ o → told (write_refused out) (written out) o ≡ write_groups g out
write-judged g out u o e = ap (told (write_refused out) (written out)) (sym e) ∙ sym (whole-judged g out u)
