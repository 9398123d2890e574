-- The occupancies of a valid sheet are whole lines, at most 256, of places below 64 and steps up to 255, and are got back from their numbers. Those of the
-- sheet in the array stand at their base, whole.
-- Assumes nothing.
use mathlib.Core.Path.{◌≡◌, ap, subst}
use mathlib.Core.List.{List}
use Prim.Native.Nat.{ℕ, ◌+◌, ◌*◌, ◌-◌, ◌≤◌}
use native.Mathlib.Omega.{arith}
use lib.ListN.{length, take, drop}
use Rattle.sheet.specs.Lists.{◌∈◌, flat, number}
use Rattle.sheet.specs.Kinds.{width, kind_o}
use Rattle.sheet.specs.Sheet.{Sheet}
use Rattle.sheet.specs.Calls.{group_rows}
use Rattle.sheet.specs.Store.{base_of, part_of, SomeStore}
use Rattle.sheet.specs.Valid.{Valid}
use Rattle.sheet.specs.Laws.Rows.{Wide, flat-length, flat-whole, rows-flat}
use Rattle.sheet.specs.Laws.Store.{store-few}
use Rattle.intervals.specs.FirstSteps.{ValidGroup}

module _ {s : Sheet} (v : Valid s) where
  wide : Wide (width kind_o) s.occupancies
  wide o m = (v.occupancies o m).wide

  pub got-back : group_rows kind_o (flat s.occupancies) ≡ s.occupancies
  got-back = rows-flat (width kind_o) s.occupancies (omega arith) wide

  member : (o : List ℕ) → o ∈ group_rows kind_o (flat s.occupancies) → o ∈ s.occupancies
  member o m = subst (λ (l : List (List ℕ)). o ∈ l) got-back m

  pub group : ValidGroup (flat s.occupancies)
  group =
      record {
        most = omega (arith, flat-length (width kind_o) s.occupancies wide, v.most-occupancies);
        whole = flat-whole (width kind_o) s.occupancies wide;
        place = λ o m. omega (arith, (v.occupancies o (member o m)).place, v.most-places);
        step = λ o m. (v.occupancies o (member o m)).in-day;
      }

module _ (lines all : List ℕ) (q : SomeStore lines all) where
  pub few : number lines kind_o.order ≤ 256
  few = (store-few q.store kind_o.order (omega arith)).0

  pub inside : base_of kind_o.order + number lines kind_o.order * width kind_o ≤ length all
  inside = (store-few q.store kind_o.order (omega arith)).1

  pub part : part_of lines all kind_o.order ≡ take (base_of kind_o.order + number lines kind_o.order * width kind_o - base_of kind_o.order) (drop (base_of kind_o.order) all)
  part = let e : number lines kind_o.order * width kind_o ≡ base_of kind_o.order + number lines kind_o.order * width kind_o - base_of kind_o.order = omega arith in ap (λ (n : ℕ). take n (drop (base_of kind_o.order) all)) e
