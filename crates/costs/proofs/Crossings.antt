-- Corridors, closures and waits in the array: the five numbers at a corridor's line are its ends and its cost, a closure is sought among the lines of
-- its kind, and the cost of a wait stands in the W line of its place.
-- Assumes nothing.
use mathlib.Core.Path.{◌≡◌, sym, ◌∙◌, ap, subst}
use mathlib.Core.Bool.{Bool, not}
use mathlib.Core.List.{List, [], ◌∷◌}
use mathlib.Core.Logic.{◌⊎◌, inl, inr}
use Prim.Native.Nat.{ℕ, ◌+◌, ◌*◌, ◌-◌, ◌/◌, ◌≤◌, ◌<◌}
use native.Mathlib.Omega.{arith}
use lib.ListN.{length, get_or, take, drop, replicate, get_or-append, get_or-eq_default}
use lib.Seq.{take_all, get_or-take, get_or-drop}
use Rattle.sheet.specs.Lists.{◌∈◌, number, numbers_from, filled, flat}
use Rattle.sheet.specs.Kinds.{width, kind_w, kind_c, kind_x}
use Rattle.sheet.specs.Sheet.{Sheet, from, to}
use Rattle.sheet.specs.Store.{base_of, store_room, StoreOf, part_of}
use Rattle.sheet.specs.Seek.{Seekable, Listed}
use Rattle.sheet.specs.Laws.Decided.{Decided, holds, fails, decided-as, lt-or-le, from-same}
use Rattle.sheet.specs.Laws.Keys.{GroupIs}
use Rattle.sheet.specs.Laws.Rows.{Wide, rows_at, flat-length, flat-at}
use Rattle.sheet.specs.Laws.Stores.{filled-past}
use Rattle.sheet.specs.Laws.Store.{part-number, store-count, store-numbers, store-full, store-sheet, store_length, store-seekable, store-listed, listed-store}
use Rattle.sheet.specs.declared.Place.{Place}
use Rattle.sheet.specs.declared.seek.Group.{Group}
use Rattle.costs.specs.Costs.{figures}
use Rattle.costs.specs.Moves.{wait_of, cost_of, Closed}
use Rattle.costs.specs.Computed.{wait_at}
use Rattle.costs.specs.Priced.{CorridorIs}
use Rattle.costs.specs.Laws.Rows.{row, row_number}
use Rattle.costs.specs.declared.Corridor.{Corridor}

-- what is not, where a claim is decided
turned : {P : Type 0} {b : Bool} → Decided P b → Decided (P → ⊥) (not b)
turned (holds p) = fails (λ n. n p)
turned (fails n) = holds n

-- where line k of the corridors begins in the array
abbrev line_at : ℕ → ℕ
line_at k = base_of kind_c.order + k * width kind_c

module _ {s : Sheet} {lines all : List ℕ} (S : StoreOf s lines all) where
  abbrev corridors : List ℕ
  corridors = part_of lines all kind_c.order

  pub whole-store : length all ≡ store_room
  whole-store = store_length S

  module _ (k : ℕ) (h : k < length s.corridors) where
    pub line-few : k < 256
    line-few = omega (arith, S.valid.most-corridors)

    abbrev line : List ℕ
    line = get_or s.corridors k []

    line_row : line ≡ row 5 corridors k
    line_row =
        ap (λ (x : Sheet). get_or x.corridors k []) (sym (store-sheet S))
        ∙ rows_at 5 (length corridors / 5) corridors k (omega (arith, store-numbers S kind_c.order (omega arith), store-count S kind_c.order (omega arith)))

    line-number : (j : ℕ) → j < 5 → number line j ≡ number all (line_at k + j)
    line-number j l =
        let e : base_of kind_c.order + (k * 5 + j) ≡ line_at k + j = omega arith in
        ap (λ (x : List ℕ). number x j) line_row ∙ row_number 5 corridors k j l ∙ part-number lines all kind_c.order (k * 5 + j) (omega (arith, store-count S kind_c.order (omega arith))) ∙ ap (number all) e

    line-from : from line ≡ number all (line_at k)
    line-from = let e : line_at k + 0 ≡ line_at k = omega arith in line-number 0 (omega arith) ∙ ap (number all) e

    line-to : to line ≡ number all (line_at k + 1)
    line-to = line-number 1 (omega arith)

    line-cost : cost_of line ≡ numbers_from figures (line_at k + 2) all
    unfolding cost_of
    line-cost =
        from-same figures 2 (line_at k + 2) line all
        (λ j l. let e : line_at k + (2 + j) ≡ line_at k + 2 + j = omega arith in line-number (2 + j) (omega arith) ∙ ap (number all) e)

    pub end_is : (q : ℕ) → q < 2 → number all (line_at k + q) ≡ number line q
    end_is q l = sym (line-number q (omega arith))

    pub corridor-is : (t : ℕ) (r : Corridor) {b : Bool} → r.open ≡ not b → Decided (Closed s r.from.0 r.to.0 t) b
        → r.from.0 ≡ number all (line_at k) → r.to.0 ≡ number all (line_at k + 1) → r.cost ≡ numbers_from figures (line_at k + 2) all → CorridorIs s k t r
    corridor-is t r o d f g c =
        record {
          listed = h;
          leaves = f ∙ sym line-from;
          enters = g ∙ sym line-to;
          price = c ∙ sym line-cost;
          opens = subst (Decided (Closed s r.from.0 r.to.0 t → ⊥)) (sym o) (turned d);
        }

  -- the closures of the sheet, where they stand in the array
  abbrev closures : List (List ℕ)
  closures = s.closures

  module _ {g : Group} (G : GroupIs lines kind_x.order g) where
    pub closures-seekable : Seekable all g
    closures-seekable = store-seekable S kind_x.order (omega arith) G

    pub closed-sought : (v : List ℕ) {u w t : ℕ} → take 3 v ≡ u ∷ w ∷ t ∷ [] → {b : Bool} → Decided (Listed all g v) b → Decided (Closed s u w t) b
    closed-sought v {u} {w} {t} e d = decided-as there back d
      where
        whole : (x : List ℕ) → x ∈ closures → take 3 x ≡ x
        whole x m = take_all 3 x (omega (arith, (S.valid.closures x m).wide))

        there : Listed all g v → Closed s u w t
        there l =
            let r = store-listed S kind_x.order (omega arith) G v l in
            let m = subst (λ (x : Sheet). r.0 ∈ x.closures) (store-sheet S) r.1 in
            subst (λ (x : List ℕ). x ∈ closures) (sym (whole r.0 m) ∙ r.2 ∙ e) m

        back : Closed s u w t → Listed all g v
        back m = listed-store S kind_x.order (omega arith) G v (u ∷ w ∷ t ∷ []) (subst (λ (x : Sheet). (u ∷ w ∷ t ∷ []) ∈ x.closures) (sym (store-sheet S)) m) (sym e)

  -- the W lines, where they stand in the array, zeros past the last
  module _ (v : ℕ) (l : v < 64) where
    abbrev waits : List (List ℕ)
    waits = s.waits

    filled-wait : (j : ℕ) → j < 4 → number (filled 256 (flat waits)) (v * 4 + j) ≡ number (get_or waits v []) j
    filled-wait j m = go (lt-or-le v (length waits))
      where
        wide : Wide 4 waits
        wide w i = (S.valid.waits w i).wide

        go : (v < length waits) ⊎ (length waits ≤ v) → number (filled 256 (flat waits)) (v * 4 + j) ≡ number (get_or waits v []) j
        go (inl b) =
            get_or-append (flat waits) (replicate (256 - length (flat waits)) 0) 0 (v * 4 + j) (omega (arith, flat-length 4 waits wide))
            ∙ flat-at 4 waits wide v j b m
        go (inr b) = rw (get_or-eq_default waits [] b) (filled-past 256 (flat waits) (v * 4 + j) (omega (arith, flat-length 4 waits wide)))

    wait-number : (j : ℕ) → j < 4 → number all (base_of kind_w.order + (v * 4 + j)) ≡ number (get_or s.waits v []) j
    wait-number j m =
        sym (get_or-drop (base_of kind_w.order) all (v * 4 + j) 0)
        ∙ sym (get_or-take 256 (drop (base_of kind_w.order) all) (v * 4 + j) 0 (omega arith))
        ∙ ap (λ (x : List ℕ). number x (v * 4 + j)) (store-full S kind_w.order (omega arith))
        ∙ filled-wait j m

  pub wait-cost : (v : Place) → v.0 < 64 → numbers_from figures (base_of kind_w.order + v.0 * 4 + 1) all ≡ wait_at s v
  unfolding wait_at wait_of
  wait-cost v l =
      from-same figures (base_of kind_w.order + v.0 * 4 + 1) 1 all (get_or s.waits v.0 [])
      (λ j m.
      let e : base_of kind_w.order + v.0 * 4 + 1 + j ≡ base_of kind_w.order + (v.0 * 4 + (1 + j)) = omega arith in
      ap (number all) e ∙ wait-number v.0 l (1 + j) (omega arith))
