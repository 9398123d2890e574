-- What the reader and the writer hand back, and what the writer leaves in the lent buffer (document 01, "What is handed back" and
-- "Who causes which refusal"), for every input and every length.
use Rattle.std.specs.Prelude.{Bool, not, ◌||◌, List, [], ◌∷◌, ◌++◌, map, ℕ, ◌*◌, ◌/◌, ◌%◌, ltb, eqb, length, take, drop}
use Rattle.std.proofs.Math.Option.{some}
use Rattle.sheet.specs.Lists.{pick, number, filled, rows, flat}
use Rattle.sheet.specs.Kinds.{Kind, width, room, kind_s, kind_w, kind_c, kind_x, kind_o, kinds}
use Rattle.sheet.specs.Sheet.{Sheet, sheet_lines, Outcome, refused, loaded, told, judge, read_of}
use Rattle.sheet.specs.Text.{sheet_text}
use Rattle.sheet.specs.declared.SheetRead.{SheetRead}
use Rattle.sheet.specs.declared.SheetWritten.{SheetWritten}

-- an answer of the reader: the groups by value, each as long as the most lines of its kind, zeros past the last line
abbrev pub read_end : ℕ → ℕ → List ℕ → List ℕ → List ℕ → List ℕ → List ℕ → List ℕ → SheetRead
read_end k n ls h ws cs xs os =
    record {
      refusal = k;
      line = n;
      lines = filled (length kinds) ls;
      head = filled (room kind_s) h;
      waits = filled (room kind_w) ws;
      corridors = filled (room kind_c) cs;
      closures = filled (room kind_x) xs;
      occupancies = filled (room kind_o) os;
    }

-- after a refusal zeros in all of them
unfoldable pub read_answer : Outcome → SheetRead
read_answer (refused k n) = read_end k n [] [] [] [] [] []
read_answer (loaded s) =
    read_end 0 0 (1 ∷ length s.waits ∷ length s.corridors ∷ length s.closures ∷ length s.occupancies ∷ []) s.head (flat s.waits) (flat s.corridors)
    (flat s.closures) (flat s.occupancies)

unfoldable pub read_call : List ℕ → SheetRead
unfolding read_answer read_of
read_call b = read_answer (read_of b)

-- the groups that the writer takes: the numbers of the lines of each kind, one after another
pub record Groups : Type 0 where
  pub head : List ℕ
  pub waits : List ℕ
  pub corridors : List ℕ
  pub closures : List ℕ
  pub occupancies : List ℕ

abbrev pub groups : List ℕ → List ℕ → List ℕ → List ℕ → List ℕ → Groups
groups h ws cs xs os = record { head = h; waits = ws; corridors = cs; closures = xs; occupancies = os }

-- the groups that the reader handed back: of each the numbers up to its last line
abbrev pub groups_read : SheetRead → Groups
groups_read r =
    groups r.head (take (number r.lines 1 * width kind_w) r.waits) (take (number r.lines 2 * width kind_c) r.corridors)
    (take (number r.lines 3 * width kind_x) r.closures) (take (number r.lines 4 * width kind_o) r.occupancies)

-- the numbers of a group do not make whole lines of the kind
abbrev pub left_over : Kind → List ℕ → Bool
left_over k l = not (eqb (length l % width k) 0)

-- the first group is not exactly one S line's numbers, or another has numbers left over after its last whole line
abbrev pub uneven : Groups → Bool
uneven g =
    not (eqb (length g.head) (width kind_s)) || left_over kind_w g.waits || left_over kind_c g.corridors || left_over kind_x g.closures || left_over kind_o g.occupancies

-- the lines of a group
abbrev pub group_rows : Kind → List ℕ → List (List ℕ)
group_rows k l = rows (width k) (length l / width k) l

abbrev pub sheet_of_groups : Groups → Sheet
sheet_of_groups g =
    record {
      head = g.head;
      waits = group_rows kind_w g.waits;
      corridors = group_rows kind_c g.corridors;
      closures = group_rows kind_x g.closures;
      occupancies = group_rows kind_o g.occupancies;
    }

-- the lines of the groups, by the reader's tests
unfoldable pub judged_groups : Groups → Outcome
unfolding judge
judged_groups g = judge [] (map some (sheet_lines (sheet_of_groups g)))

-- the writer's answer, and the lent buffer afterwards
pub record WriteEnd : Type 0 where
  pub answer : SheetWritten
  pub out : List ℕ

abbrev pub write_end : SheetWritten → List ℕ → WriteEnd
write_end r out = record { answer = r; out = out }

abbrev pub write_refused : List ℕ → ℕ → ℕ → WriteEnd
write_refused out k n = write_end (record { refusal = k; line = n; bytes = 0 }) out

-- the text at the front of the buffer, what is past it kept; 12 where the buffer is shorter
unfoldable pub written : List ℕ → Sheet → WriteEnd
unfolding sheet_text
written out s =
    let t = sheet_text s in
    pick (ltb (length out) (length t)) (write_refused out 12 0) (write_end (record { refusal = 0; line = 0; bytes = length t }) (t ++ drop (length t) out))

-- 2 at line 0 by the lengths of the groups; then the lines, by the reader's tests; then 12
unfoldable pub write_groups : Groups → List ℕ → WriteEnd
unfolding judged_groups written
write_groups g out = pick (uneven g) (write_refused out 2 0) (told (write_refused out) (written out) (judged_groups g))

-- the call that writes a sheet
abbrev pub write_call : List ℕ → List ℕ → List ℕ → List ℕ → List ℕ → List ℕ → WriteEnd
write_call head waits corridors closures occupancies out = write_groups (groups head waits corridors closures occupancies) out
