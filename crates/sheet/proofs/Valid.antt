-- Every sheet of lines that pass is valid, and the lines of every valid sheet pass: the laws of specs/Laws/Valid.antt that rest on what `waiting` says.
-- Assumes nothing.
use Rattle.std.specs.Prelude.{◌≡◌, refl, false, List, [], ◌∷◌, map, ℕ, ◌≤◌, ◌<◌, length}
use Rattle.std.proofs.Common.{sym, ap, subst, inl, inr, arith, ltb-false, le-ltb, ne_eqb}
use Rattle.sheet.specs.Lists.{number, ◌∈◌}
use Rattle.sheet.specs.Kinds.{Kind, kind_s, kind_w, kind_c, kind_x, kind_o}
use Rattle.sheet.specs.Lines.{Line, line}
use Rattle.sheet.specs.Sheet.{Sheet, places, sheet_of, sheet_lines, group, head_in, waiting, lacking}
use Rattle.sheet.specs.Valid.{Turned, Valid}
use Rattle.sheet.specs.Laws.Members.{mem-left, mem-right, mem-map}
use Rattle.sheet.specs.Laws.Kinds.{kinds-ascend}
use Rattle.sheet.specs.Laws.Judge.{Passes, some-line}
use Rattle.sheet.specs.Laws.Shape.{AllShaped}
use Rattle.sheet.specs.Laws.Passed.{passed-fault, append-passes}
use Rattle.sheet.specs.Laws.Limits.{within-inside}
use Rattle.sheet.specs.Laws.Groups.{later-kinds, of-kind, group-own, group-none, first_head, sheet-lines, lines-sheet}
use Rattle.sheet.specs.Laws.Runs.{run-passes}
use Rattle.sheet.specs.Laws.Turns.{wait_count}
use Rattle.sheet.specs.Laws.Valid.{EachWait, runs-valid, lines_runs, valid-runs}
use Rattle.sheet.proofs.Turns.{passes-turned, waits-turn}
use Rattle.sheet.proofs.Runs.{runs-pass}

-- the W lines of lines that pass
pub lines-turned : (ls : List Line) → AllShaped ls → Passes [] ls → Turned 0 (group kind_w ls) × (wait_count ls ≤ number (head_in ls) 0)
lines-turned [] f p = (tt, omega arith)
lines-turned (l ∷ ls) f p =
    let k : l.kind ≡ kind_s = first_head l ls f p in
    let z : group kind_w (l ∷ []) ≡ [] = group-none kind_w (l ∷ []) (λ m i e. head_apart m i k e) in
    let o : group kind_w (l ∷ ls) ≡ group kind_w ls = rw (ne_eqb l.kind.order kind_w.order (λ e. head_apart l (inl refl) k e)) in
    let t = passes-turned l [] ls p.1 in (
      subst (Turned 0) (sym o) (subst (λ (n : ℕ). Turned n (group kind_w ls)) (ap length z) t.turned),
      omega (arith, ap length o, ap length z, t.few (omega (arith, ap length z))),
    )
  where
    head_apart : (m : Line) → m ∈ (l ∷ []) → l.kind ≡ kind_s → m.kind.order ≡ kind_w.order → ⊥
    head_apart m (inl i) k e = omega (arith, e, ap (λ (x : Line). x.kind.order) i, ap (λ (x : Kind). x.order) k)
    head_apart m (inr nowhere) k e = elim nowhere [ ]

waits-each : (ls : List Line) → AllShaped ls → Passes [] ls → lacking ls ≡ false → EachWait (sheet_of ls)
waits-each [] f p h = absurd (omega (arith, some-line [] h))
waits-each (l ∷ ls) f p h =
    let t = lines-turned (l ∷ ls) f p in
    let e : places (sheet_of (l ∷ ls)) ≡ number l.numbers 0 = ap (λ (k : List Line). number (head_in k) 0) (lines-sheet (l ∷ ls) f p (omega arith)) in
    record { turned = t.0; each = omega (arith, e, t.1, ltb-false (wait_count (l ∷ ls)) (number l.numbers 0) h) }

pub passes-valid : (ls : List Line) → AllShaped ls → Passes [] ls → lacking ls ≡ false → Valid (sheet_of ls)
passes-valid ls f p h = runs-valid (sheet_of ls) (lines_runs ls f p (some-line ls h)) (waits-each ls f p h)

-- the lines after the S line: the W lines in turn, then those of the later kinds
module _ (s : Sheet) (g : Valid s) where
  abbrev h : Line
  h = line kind_s s.head

  abbrev ws : List Line
  ws = map (line kind_w) s.waits

  head-before : (m : Line) → m ∈ (h ∷ []) → (k : Kind) → k ∈ (kind_w ∷ kind_c ∷ kind_x ∷ kind_o ∷ []) → m.kind.order < k.order
  head-before m (inl e) k j =
      subst (λ (l : Line). l.kind.order < k.order) (sym e) (later-kinds kind_s (kind_w ∷ kind_c ∷ kind_x ∷ kind_o ∷ []) kinds-ascend k j)
  head-before m (inr nowhere) k j = elim nowhere [ ]

  waits-before : (m : Line) → m ∈ (h ∷ ws) → (k : Kind) → k ∈ (kind_c ∷ kind_x ∷ kind_o ∷ []) → m.kind.order < k.order
  waits-before m (inl e) k j = head-before m (inl e) k (inr j)
  waits-before m (inr i) k j =
      subst (λ (x : Kind). x.order < k.order) (sym (of-kind kind_w s.waits m i)) (later-kinds kind_w (kind_c ∷ kind_x ∷ kind_o ∷ []) kinds-ascend.1 k j)

  none-to-come : waiting (h ∷ ws) ≡ false
  none-to-come = le-ltb (wait_count (h ∷ ws)) (places s) (omega (arith, ap length (group-own kind_w s.waits), g.each-place))

  waits-pass : Passes (h ∷ []) ws
  waits-pass =
      run-passes s [] kind_w s.waits (λ m i. head-before m i kind_w (inl refl)) (λ e. absurd (omega arith))
      (waits-turn h [] s.waits g.waits-turn (omega (arith, g.each-place))) (valid-runs s g).1.0

  pub valid-passes : Passes [] (sheet_lines s)
  valid-passes = (
    passed-fault [] h
        (record {
          placed = refl;
          few = refl;
          inside = within-inside (places s) kind_s.limits s.head ((valid-runs s g).0.within s.head (inl refl));
          paired = refl;
          known = refl;
          timely = refl;
          above = refl;
        }),
    append-passes (h ∷ []) ws _ waits-pass
        (runs-pass s ws (kind_c ∷ kind_x ∷ kind_o ∷ []) (s.corridors ∷ s.closures ∷ s.occupancies ∷ []) kinds-ascend.1.1 none-to-come
        (λ k j. later-kinds kind_w (kind_c ∷ kind_x ∷ kind_o ∷ []) kinds-ascend.1 k j) waits-before
        (λ c m. mem-right (line kind_c c) (h ∷ ws) _ (mem-left (line kind_c c) (map (line kind_c) s.corridors) _ (mem-map (line kind_c) c s.corridors m)))
        (valid-runs s g).1.1),
  )

  pub valid-complete : lacking (sheet_lines s) ≡ false
  valid-complete = le-ltb (wait_count (sheet_lines s)) (places s) (omega (arith, g.each-place, ap (λ (k : Sheet). length k.waits) (sheet-lines s)))
