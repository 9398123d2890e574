-- Groups in one array: where the group of each kind stands, how long the array is, and what a run of stores into one group makes of it. By induction over
-- the list of kinds, so that nothing here depends on which there are.
use Rattle.std.specs.Prelude.{◌≡◌, refl, List, [], ◌∷◌, ◌++◌, map, ℕ, zero, suc, ◌+◌, ◌*◌, ◌-◌, ◌≤◌, ◌<◌, length, set, get_or, take, drop, replicate}
use Rattle.std.proofs.Common.{sym, ◌∙◌, ap, ap₂, append_assoc, arith, mul-le-mul_right, length-append, length-set, take_at}
use Rattle.std.proofs.Math.ListN.{get_or-map}
use Rattle.std.proofs.lemmas.List.Edits.{sets}
use Rattle.std.proofs.lemmas.List.{set-append_left}
use Rattle.std.proofs.Math.Seq.{drop-append-add}
use Rattle.sheet.specs.Lists.{number, filled, flat}
use Rattle.sheet.specs.Kinds.{Kind, width, room, kind_s, kinds}
use Rattle.sheet.specs.Sheet.{Sheet}
use Rattle.sheet.specs.Store.{kind_count, kind_at, base_in, base_of, store_room, spread}
use Rattle.sheet.specs.Laws.Rows.{flat-length}
use Rattle.sheet.specs.Laws.Stores.{length-filled}
use Rattle.sheet.specs.Laws.Runs.{Run, AllRuns}

-- a run of stores into the first of two lists, and into the second
sets-left : (l r : List ℕ) (at : ℕ) (v : List ℕ) → at + length v ≤ length l → sets (l ++ r) at v ≡ sets l at v ++ r
sets-left l r at [] h = refl
sets-left l r at (x ∷ v) h =
    ap (λ (k : List ℕ). sets k (suc at) v) (set-append_left l r at x (omega arith))
    ∙ sets-left (set l at x) r (suc at) v (omega (arith, length-set l at x))

sets-cons : (a : ℕ) (l : List ℕ) (at : ℕ) (v : List ℕ) → sets (a ∷ l) (suc at) v ≡ a ∷ sets l at v
sets-cons a l at [] = refl
sets-cons a l at (x ∷ v) = sets-cons a (set l at x) (suc at) v

sets-right : (l r : List ℕ) (at : ℕ) (v : List ℕ) → sets (l ++ r) (length l + at) v ≡ l ++ sets r at v
sets-right [] r at v = let e : 0 + at ≡ at = omega arith in rw e
sets-right (a ∷ l) r at v =
    let e : length (a ∷ l) + at ≡ suc (length l + at) = omega arith in
    rw e (sets-cons a (l ++ r) (length l + at) v ∙ ap (λ (k : List ℕ). a ∷ k) (sets-right l r at v))

-- the end of a kind's group is inside the array
pub base-room : (ks : List Kind) (k : ℕ) → k < length ks → base_in ks k + room (get_or ks k kind_s) ≤ base_in ks (length ks)
base-room [] k h = absurd (omega arith)
base-room (j ∷ ks) zero h = omega arith
base-room (j ∷ ks) (suc k) h = omega (arith, base-room ks k (omega arith))

-- a group for each kind, with room
abbrev Roomy : List Kind → List (List (List ℕ)) → Type 0
Roomy [] [] = Unit {0}
Roomy [] (g ∷ gs) = ⊥
Roomy (k ∷ ks) [] = ⊥
Roomy (k ∷ ks) (g ∷ gs) = (length (flat g) ≤ room k) × Roomy ks gs

-- one group at full length, and the groups after it
module _ (j : Kind) (g : List (List ℕ)) (rest : List ℕ) (r : length (flat g) ≤ room j) where
  abbrev part : List ℕ
  part = filled (room j) (flat g)

  drop-part : (n : ℕ) → drop (room j + n) (part ++ rest) ≡ drop n rest
  drop-part n = ap (λ (m : ℕ). drop (m + n) (part ++ rest)) (sym (length-filled (room j) (flat g) r)) ∙ drop-append-add part rest n

  sets-here : (at : ℕ) (v : List ℕ) → at + length v ≤ room j → sets (part ++ rest) at v ≡ sets part at v ++ rest
  sets-here at v h = sets-left part rest at v (omega (arith, length-filled (room j) (flat g) r))

  sets-after : (at : ℕ) (v : List ℕ) → sets (part ++ rest) (room j + at) v ≡ part ++ sets rest at v
  sets-after at v = ap (λ (m : ℕ). sets (part ++ rest) (m + at) v) (sym (length-filled (room j) (flat g) r)) ∙ sets-right part rest at v

cells-length : (ks : List Kind) (gs : List (List (List ℕ))) → Roomy ks gs → length (spread ks gs) ≡ base_in ks (length ks)
cells-length [] [] r = refl
cells-length (j ∷ ks) (g ∷ gs) r =
    length-append (filled (room j) (flat g)) (spread ks gs) ∙ ap₂ (λ (m n : ℕ). m + n) (length-filled (room j) (flat g) r.0) (cells-length ks gs r.1)
cells-length [] (g ∷ gs) r = elim r [ ]
cells-length (j ∷ ks) [] r = elim r [ ]

-- where the group of the kind at position k begins
cells-part : (ks : List Kind) (gs : List (List (List ℕ))) → Roomy ks gs → (k : ℕ) → k < length ks
    → (rest : List ℕ) × (drop (base_in ks k) (spread ks gs) ≡ filled (room (get_or ks k kind_s)) (flat (get_or gs k [])) ++ rest)
cells-part [] [] r k h = absurd (omega arith)
cells-part (j ∷ ks) (g ∷ gs) r zero h = (spread ks gs, refl)
cells-part (j ∷ ks) (g ∷ gs) r (suc k) h =
    let q = cells-part ks gs r.1 k (omega arith) in
    (q.0, drop-part j g (spread ks gs) r.0 (base_in ks k) ∙ q.1)
cells-part [] (g ∷ gs) r k h = elim r [ ]
cells-part (j ∷ ks) [] r k h = elim r [ ]

-- a run of stores into that group
pub cells_store : (ks : List Kind) (gs : List (List (List ℕ))) → Roomy ks gs → (k at : ℕ) (v : List ℕ) (g : List (List ℕ)) → k < length ks
    → at + length v ≤ room (get_or ks k kind_s)
    → sets (filled (room (get_or ks k kind_s)) (flat (get_or gs k []))) at v ≡ filled (room (get_or ks k kind_s)) (flat g)
    → sets (spread ks gs) (base_in ks k + at) v ≡ spread ks (set gs k g)
cells_store [] [] r k at v g h w e = absurd (omega arith)
cells_store (j ∷ ks) (f ∷ gs) r zero at v g h w e =
    let z : 0 + at ≡ at = omega arith in
    rw z (sets-here j f (spread ks gs) r.0 at v w ∙ ap (λ (l : List ℕ). l ++ spread ks gs) e)
cells_store (j ∷ ks) (f ∷ gs) r (suc k) at v g h w e =
    let z : room j + base_in ks k + at ≡ room j + (base_in ks k + at) = omega arith in
    rw z
    (sets-after j f (spread ks gs) r.0 (base_in ks k + at) v
    ∙ ap (λ (l : List ℕ). filled (room j) (flat f) ++ l) (cells_store ks gs r.1 k at v g (omega arith) w e))
cells_store [] (f ∷ gs) r k at v g h w e = elim r [ ]
cells_store (j ∷ ks) [] r k at v g h w e = elim r [ ]

-- runs have room; the run at a position
run_room : {s : Sheet} {k : Kind} {g : List (List ℕ)} → Run s k g → length (flat g) ≤ room k
run_room {k = k} {g = g} r = omega (arith, flat-length (width k) g r.count, mul-le-mul_right (width k) r.few)

runs-roomy : (s : Sheet) (ks : List Kind) (gs : List (List (List ℕ))) → length gs ≡ length ks → AllRuns s ks gs → Roomy ks gs
runs-roomy s [] [] e r = tt
runs-roomy s [] (g ∷ gs) e r = absurd (omega arith)
runs-roomy s (k ∷ ks) [] e r = absurd (omega arith)
runs-roomy s (k ∷ ks) (g ∷ gs) e r = (run_room r.0, runs-roomy s ks gs (omega arith) r.1)

run_at : (s : Sheet) (ks : List Kind) (gs : List (List (List ℕ))) → length gs ≡ length ks → AllRuns s ks gs → (k : ℕ) → k < length ks
    → Run s (get_or ks k kind_s) (get_or gs k [])
run_at s [] gs e r k h = absurd (omega arith)
run_at s (j ∷ ks) [] e r k h = absurd (omega arith)
run_at s (j ∷ ks) (g ∷ gs) e r zero h = r.0
run_at s (j ∷ ks) (g ∷ gs) e r (suc k) h = run_at s ks gs (omega arith) r.1 k (omega arith)

-- groups on the sheet s that stand in the array, with these counts of lines
pub record Held (s : Sheet) (gs : List (List (List ℕ))) (lines all : List ℕ) : Type 0 where
  pub each : length gs ≡ kind_count
  pub runs : AllRuns s kinds gs
  pub counts : lines ≡ map length gs
  pub cells : all ≡ spread kinds gs

module _ {s : Sheet} {gs : List (List (List ℕ))} {lines all : List ℕ} (H : Held s gs lines all) where
  pub held-roomy : Roomy kinds gs
  held-roomy = runs-roomy s kinds gs H.each H.runs

  pub held-length : length all ≡ store_room
  held-length = ap length H.cells ∙ cells-length kinds gs held-roomy

  module _ (k : ℕ) (h : k < kind_count) where
    pub held-run : Run s (kind_at k) (get_or gs k [])
    held-run = run_at s kinds gs H.each H.runs k h

    pub held-count : number lines k ≡ length (get_or gs k [])
    held-count = ap (λ (l : List ℕ). number l k) H.counts ∙ get_or-map length gs k []

    pub held-few : (number lines k ≤ (kind_at k).most) × (base_of k + number lines k * width (kind_at k) ≤ length all)
    held-few =
        let few : number lines k ≤ (kind_at k).most = omega (arith, held-count, held-run.few) in
        (few, omega (arith, held-length, base-room kinds k h, mul-le-mul_right (width (kind_at k)) few))

    -- the group at its base: at full length, and its numbers
    pub held-full : take (room (kind_at k)) (drop (base_of k) all) ≡ filled (room (kind_at k)) (flat (get_or gs k []))
    held-full =
        let q = cells-part kinds gs held-roomy k h in
        let g = flat (get_or gs k []) in
        ap (λ (l : List ℕ). take (room (kind_at k)) (drop (base_of k) l)) H.cells
        ∙ ap (take (room (kind_at k))) q.1
        ∙ take_at (filled (room (kind_at k)) g) q.0 (room (kind_at k)) (length-filled (room (kind_at k)) g (run_room held-run))

    pub held-part : (rest : List ℕ) × (drop (base_of k) all ≡ flat (get_or gs k []) ++ rest)
    held-part =
        let q = cells-part kinds gs held-roomy k h in
        let g = flat (get_or gs k []) in
        let zeros = replicate {A = ℕ} (room (kind_at k) - length g) 0 in
        (zeros ++ q.0, ap (drop (base_of k)) H.cells ∙ q.1 ∙ append_assoc g zeros q.0)
