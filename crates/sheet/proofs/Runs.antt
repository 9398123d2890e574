-- The lines of runs pass: the law of specs/Laws/Runs.antt that rests on what `waiting` says.
-- Assumes nothing.
use Rattle.std.specs.Prelude.{◌≡◌, refl, ◌≢◌, false, List, [], ◌∷◌, ◌++◌, map, ℕ, ◌<◌, ltb, length}
use Rattle.std.proofs.Common.{sym, ◌∙◌, ap, subst, inl, inr, ⊎_elim, append_assoc, append-nil, arith}
use Rattle.sheet.specs.Lists.{number, ◌∈◌}
use Rattle.sheet.specs.Sorting.{Ascending}
use Rattle.sheet.specs.Kinds.{Kind, kind_s, kind_w, kind_c, kind_x}
use Rattle.sheet.specs.Lines.{Line, line}
use Rattle.sheet.specs.Sheet.{Sheet, group, lines_from, waiting}
use Rattle.sheet.specs.Laws.Members.{mem-append}
use Rattle.sheet.specs.Laws.Kinds.{order_key}
use Rattle.sheet.specs.Laws.Judge.{Passes}
use Rattle.sheet.specs.Laws.Passed.{append-passes}
use Rattle.sheet.specs.Laws.Groups.{group-append, of-kind, group-other, mem-group, later-kinds, from-kinds}
use Rattle.sheet.specs.Laws.Runs.{AllRuns, run-passes}
use Rattle.sheet.proofs.Turns.{others-turn}

pub runs-pass : (s : Sheet) (before : List Line) (ks : List Kind) (gs : List (List (List ℕ))) → Ascending order_key ks
    → waiting (line kind_s s.head ∷ before) ≡ false → ((k : Kind) → k ∈ ks → kind_w.order < k.order)
    → ((m : Line) → m ∈ (line kind_s s.head ∷ before) → (k : Kind) → k ∈ ks → m.kind.order < k.order)
    → ((c : List ℕ) → c ∈ s.corridors → line kind_c c ∈ ((line kind_s s.head ∷ before) ++ lines_from ks gs))
    → AllRuns s ks gs → Passes (line kind_s s.head ∷ before) (lines_from ks gs)
runs-pass s before [] gs a w l f g r = tt
runs-pass s before (k ∷ ks) [] a w l f g r = tt
runs-pass s before (k ∷ ks) (ns ∷ gs) a w l f g r =
    append-passes (b ∷ before) (map (line k) ns) (lines_from ks gs)
    (run-passes s before k ns (λ m i. f m i k (inl refl)) corridors (others-turn b before k ns other w) r.0)
    (runs-pass s (before ++ map (line k) ns) ks gs a.1 (still ∙ w) (λ j m. l j (inr m)) after moved r.1)
  where
    b : Line
    b = line kind_s s.head

    other : k.order ≢ kind_w.order
    other e = omega (arith, l k (inl refl))

    still : waiting (b ∷ (before ++ map (line k) ns)) ≡ waiting (b ∷ before)
    still =
        ap (λ (g : List (List ℕ)). ltb (length g) (number s.head 0))
        (group-append kind_w (b ∷ before) (map (line k) ns) ∙ ap (λ (g : List (List ℕ)). group kind_w (b ∷ before) ++ g) (group-other kind_w k ns other) ∙ append-nil (group kind_w (b ∷ before)))

    after : (m : Line) → m ∈ (b ∷ (before ++ map (line k) ns)) → (j : Kind) → j ∈ ks → m.kind.order < j.order
    after m i j n =
        ⊎_elim (λ h. f m h j (inr n)) (λ h. subst (λ (x : Kind). x.order < j.order) (sym (of-kind k ns m h)) (later-kinds k ks a j n)) (mem-append m (b ∷ before) (map (line k) ns) i)

    moved : (c : List ℕ) → c ∈ s.corridors → line kind_c c ∈ ((b ∷ (before ++ map (line k) ns)) ++ lines_from ks gs)
    moved c m = subst (λ (ls : List Line). line kind_c c ∈ ls) (sym (append_assoc (b ∷ before) (map (line k) ns) (lines_from ks gs))) (g c m)

    -- a line of corridors is none of a run of closures, nor of a later one
    corridors : k.order ≡ kind_x.order → (c : List ℕ) → c ∈ s.corridors → c ∈ group kind_c (b ∷ before)
    corridors o c m = ⊎_elim (λ i. mem-group kind_c c (b ∷ before) i) (λ i. absurd (no i)) (mem-append (line kind_c c) (b ∷ before) (lines_from (k ∷ ks) (ns ∷ gs)) (g c m))
      where
        no : line kind_c c ∈ lines_from (k ∷ ks) (ns ∷ gs) → ⊥
        no i =
            ⊎_elim (λ e. omega (arith, o, ap (λ (j : Kind). j.order) e)) (λ j. omega (arith, o, later-kinds k ks a kind_c j))
            (from-kinds (k ∷ ks) (ns ∷ gs) (line kind_c c) i)
