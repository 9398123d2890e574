-- A sheet in one array: the lines of each kind stand at the kind's base, and the sheet is got back from them.
use Rattle.std.specs.Prelude.{◌≡◌, refl, List, [], ℕ, ◌+◌, ◌*◌, ◌≤◌, ◌<◌, length, get_or, take, drop}
use Rattle.std.proofs.Common.{sym, ◌∙◌, ap, subst, append-nil, arith, take_at, get_or-take, get_or-drop}
use Rattle.sheet.specs.Lists.{number, ◌∈◌, filled, flat}
use Rattle.sheet.specs.Kinds.{width, room, kind_s}
use Rattle.sheet.specs.Sheet.{Sheet, groups_of}
use Rattle.sheet.specs.Calls.{groups, group_rows, sheet_of_groups}
use Rattle.sheet.specs.Valid.{Valid}
use Rattle.sheet.specs.Store.{kind_count, kind_at, base_of, store_room, StoreOf, part_of, sheet_in}
use Rattle.sheet.specs.Laws.Rows.{Wide, flat-length, rows-flat}
use Rattle.sheet.specs.Laws.Kinds.{width_some}
use Rattle.sheet.specs.Laws.Groups.{sheet-path}
use Rattle.sheet.specs.Laws.Cells.{Held, held-run, held-count, held-length, held-few, held-full, held-part}
use Rattle.sheet.specs.Seek.{Seekable, Listed}
use Rattle.sheet.specs.Laws.Keys.{GroupIs, held-seekable, listed_in, in-listed}
use Rattle.sheet.specs.Laws.Valid.{valid-runs}
use Rattle.sheet.specs.declared.seek.Group.{Group}

-- number i of the lines of a kind, where it stands in the array
pub part-number : (lines all : List ℕ) (k i : ℕ) → i < number lines k * width (kind_at k) → number (part_of lines all k) i ≡ number all (base_of k + i)
part-number lines all k i h = get_or-take (number lines k * width (kind_at k)) (drop (base_of k) all) i 0 h ∙ get_or-drop (base_of k) all i 0

module _ {s : Sheet} {lines all : List ℕ} (S : StoreOf s lines all) where
  store-held : Held s (groups_of s) lines all
  store-held = record { each = refl; runs = valid-runs s S.valid; counts = S.counts; cells = S.cells }

  pub store-wide : (k : ℕ) → k < kind_count → Wide (width (kind_at k)) (get_or (groups_of s) k [])
  store-wide k h = (held-run store-held k h).count

  pub store-count : (k : ℕ) → k < kind_count → number lines k ≡ length (get_or (groups_of s) k [])
  store-count = held-count store-held

  pub store_length : length all ≡ store_room
  store_length = held-length store-held

  pub store-few : (k : ℕ) → k < kind_count → (number lines k ≤ (kind_at k).most) × (base_of k + number lines k * width (kind_at k) ≤ length all)
  store-few = held-few store-held

  pub store-part : (k : ℕ) → k < kind_count → part_of lines all k ≡ flat (get_or (groups_of s) k [])
  store-part k h =
      let g = get_or (groups_of s) k [] in
      let q = held-part store-held k h in
      let n : length (flat g) ≡ number lines k * width (kind_at k) =
      flat-length (width (kind_at k)) g (store-wide k h) ∙ ap (λ (m : ℕ). m * width (kind_at k)) (sym (store-count k h)) in
      ap (take (number lines k * width (kind_at k))) q.1 ∙ take_at (flat g) q.0 (number lines k * width (kind_at k)) n

  -- the lines of a kind are whole
  pub store-numbers : (k : ℕ) → k < kind_count → length (part_of lines all k) ≡ number lines k * width (kind_at k)
  store-numbers k h =
      ap length (store-part k h) ∙ flat-length (width (kind_at k)) (get_or (groups_of s) k []) (store-wide k h) ∙ ap (λ (m : ℕ). m * width (kind_at k)) (sym (store-count k h))

  -- the whole room of a kind
  pub store-full : (k : ℕ) → k < kind_count → take (room (kind_at k)) (drop (base_of k) all) ≡ filled (room (kind_at k)) (flat (get_or (groups_of s) k []))
  store-full = held-full store-held

  -- the sheet is got back
  pub store-sheet : sheet_in lines all ≡ s
  store-sheet =
      let part : (k : ℕ) (h : k < kind_count) → group_rows (kind_at k) (part_of lines all k) ≡ get_or (groups_of s) k [] =
      λ k h. ap (group_rows (kind_at k)) (store-part k h) ∙ rows-flat (width (kind_at k)) (get_or (groups_of s) k []) (width_some k h) (store-wide k h)
      in
      ap (λ (h : List ℕ). sheet_of_groups (groups h (part_of lines all 1) (part_of lines all 2) (part_of lines all 3) (part_of lines all 4))) (store-part 0 (omega arith) ∙ append-nil s.head)
      ∙ sheet-path (part 1 (omega arith)) (part 2 (omega arith)) (part 3 (omega arith)) (part 4 (omega arith))

  -- the lines of a kind, sought by the numbers that they ascend by
  module _ (k : ℕ) (h : k < kind_count) {g : Group} (G : GroupIs lines k g) where
    pub store-seekable : Seekable all g
    store-seekable = held-seekable store-held k h G

    pub store-listed : (v : List ℕ) → Listed all g v → (n : List ℕ) × (n ∈ get_or (groups_of (sheet_in lines all)) k []) × (take (kind_at k).key n ≡ take (kind_at k).key v)
    store-listed v l =
        let r = listed_in store-held k h G v l in
        (r.0, subst (λ (x : Sheet). r.0 ∈ get_or (groups_of x) k []) (sym store-sheet) r.1, r.2)

    pub listed-store : (v n : List ℕ) → n ∈ get_or (groups_of (sheet_in lines all)) k [] → take (kind_at k).key n ≡ take (kind_at k).key v → Listed all g v
    listed-store v n m e = in-listed store-held k h G v n (subst (λ (x : Sheet). n ∈ get_or (groups_of x) k []) store-sheet m) e

  pub store-valid : Valid (sheet_in lines all)
  store-valid = subst Valid (sym store-sheet) S.valid

  -- a count for each kind, and one S line
  pub store-counts : length lines ≡ kind_count
  store-counts = ap length S.counts

  pub store-head : take (room kind_s) all ≡ part_of lines all 0
  store-head = ap (λ (n : ℕ). take (n * width kind_s) all) (sym (store-count 0 (omega arith)))

  -- number i of the S line, where it stands in the array
  pub head-number : (i : ℕ) → i < width kind_s → number all i ≡ number (part_of lines all 0) i
  head-number i h = sym (get_or-take (room kind_s) all i 0 h) ∙ ap (λ (l : List ℕ). number l i) store-head
