-- A table that a search ended with: there was no room, or it holds the leading arrivals of the sheet and zeros.
use Rattle.std.specs.Prelude.{◌≡◌, refl, Bool, true, false, List, [], map, ℕ, suc, ◌*◌, ◌≤◌, ◌/◌, length}
use Rattle.std.proofs.Common.{sym, ◌∙◌, ap, subst, true≢false, arith, div-add-mod', ltb-false}
use Rattle.std.proofs.lemmas.List.{length-map}
use Rattle.sheet.specs.Lists.{pick, filled, bind}
use Rattle.sheet.specs.Sheet.{Sheet}
use Rattle.sheet.specs.Laws.Members.{map-mem}
use Rattle.sheet.specs.Laws.Rows.{Wide, flat-length, bind-flat}
use Rattle.sheet.specs.Laws.Stores.{length-filled}
use Rattle.arrivals.specs.Computed.{leading}
use Rattle.arrivals.specs.Table.{crowded, arrival_row, arrival_table}
use Rattle.arrivals.specs.Search.{SearchEnd, search_on}
use Rattle.arrivals.specs.Laws.Leading.{arrives-three}
use Rattle.arrivals.proofs.Leading.{leading-is}
use Rattle.journeys.specs.Calls.{cleared}
use Rattle.journeys.specs.Held.{Holds}
use Rattle.journeys.specs.Laws.Holds.{table-holds}

pub rows-length : (s : Sheet) → length (bind (leading s) arrival_row) ≡ length (leading s) * 5
rows-length s =
    ap length (bind-flat arrival_row (leading s))
    ∙ flat-length 5 (map arrival_row (leading s)) wide
    ∙ ap (λ (n : ℕ). n * 5) (length-map (leading s) arrival_row)
  where
    wide : Wide 5 (map arrival_row (leading s))
    wide k m =
        let r = map-mem arrival_row k (leading s) m in
        ap length r.2 ∙ ap (λ (i : ℕ). suc (suc i)) (arrives-three s r.0 (leading-is s r.0 r.1).arrives)

pub room_fits : (s : Sheet) (n : ℕ) → crowded s n ≡ false → length (leading s) * 5 ≤ n
unfolding crowded
room_fits s n e = omega (arith, ltb-false (n / 5) (length (leading s)) e, div-add-mod' n 5)

-- the table has n rows, those of the leading arrivals of the sheet, and zeros
pub record Ready (s : Sheet) (table table' : List ℕ) (n : ℕ) : Type 0 where
  pub room : crowded s (length table) ≡ false
  pub counted : n ≡ length (leading s)
  pub filled-table : table' ≡ arrival_table s (length table)
  pub same_length : length table' ≡ length table
  pub holds : Holds s n table'

pub ready-is : (s : Sheet) (table table' : List ℕ) (n : ℕ) → crowded s (length table) ≡ false → n ≡ length (leading s) → table' ≡ arrival_table s (length table) → Ready s table table' n
unfolding arrival_table
ready-is s table table' n e c f =
    let h = room_fits s (length table) e in
    let z : length table' ≡ length table = ap length f ∙ length-filled (length table) (bind (leading s) arrival_row) (omega (arith, rows-length s, h)) in
    let k : length (leading s) ≤ length table' / 5 = omega (arith, h, z, div-add-mod' (length table') 5) in
    record {
      room = e;
      counted = c;
      filled-table = f;
      same_length = z;
      holds = subst (λ (i : ℕ). Holds s i table') (sym c) (table-holds s table' k (f ∙ ap (arrival_table s) (sym z)));
    }

module _ (s : Sheet) (table : List ℕ) {table' : List ℕ} {b : Bool} {n : ℕ} (q : ◌≡◌ {A = SearchEnd} (record { served = b; arrivals = n; table = table' }) (search_on s table)) where
  by-room : (x : Bool) → crowded s (length table) ≡ x
      → search_on s table
      ≡ pick x (record { served = false; arrivals = 0; table = filled (length table) [] }) (record { served = true; arrivals = length (leading s); table = arrival_table s (length table) })
  unfolding search_on
  by-room x e = rw e

  pub search-full : b ≡ false → (crowded s (length table) ≡ true) × (table' ≡ cleared table)
  search-full z = go (crowded s (length table)) refl
    where
      go : (x : Bool) → crowded s (length table) ≡ x → (x ≡ true) × (table' ≡ cleared table)
      go true e = (refl, ap (λ (r : SearchEnd). r.table) (q ∙ by-room true e))
      go false e = absurd (true≢false (sym (ap (λ (r : SearchEnd). r.served) (q ∙ by-room false e)) ∙ z))

  pub search-ready : b ≡ true → Ready s table table' n
  search-ready z = go (crowded s (length table)) refl
    where
      go : (x : Bool) → crowded s (length table) ≡ x → Ready s table table' n
      go true e = absurd (true≢false (sym z ∙ ap (λ (r : SearchEnd). r.served) (q ∙ by-room true e)))
      go false e =
          let p = q ∙ by-room false e in
          ready-is s table table' n e (ap (λ (r : SearchEnd). r.arrivals) p) (ap (λ (r : SearchEnd). r.table) p)
