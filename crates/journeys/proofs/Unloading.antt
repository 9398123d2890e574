-- Which arrivals at the goal count, off the table of first steps: the S line stands at the front of the array.
use Rattle.std.proofs.Common.{◌≡◌, sym, ◌∙◌, ap, subst, arith, List, Bool}
use Prim.Native.Nat.{ℕ, ◌<◌}
use lib.Dec.{eqb}
use mathlib.Core.Bool.{true, false}
use mathlib.Core.Path.{refl}
use Rattle.sheet.specs.Lists.{pick, number}
use Rattle.sheet.specs.Sheet.{Sheet, goal, steps, unload}
use Rattle.sheet.specs.Store.{StoreOf, SomeStore, sheet_in}
use Rattle.sheet.specs.Laws.Store.{store_length, store-sheet, head-number}
use Rattle.intervals.specs.Computed.{stayb}
use Rattle.intervals.specs.FirstSteps.{StayTable, Derived}
use Rattle.intervals.proofs.Occupancies.{got-back}
use Rattle.journeys.specs.Computed.{countsb}
use Rattle.journeys.specs.Inner.Counting.{Countable, CountingOf, CountingIn}

-- number i of the S line, where it stands in the array
head-is : {s : Sheet} {lines all : List ℕ} → StoreOf s lines all → (i : ℕ) → i < 5 → number all i ≡ number s.head i
head-is S i h = head-number S i h ∙ ap (λ (x : Sheet). number x.head i) (store-sheet S)

pub countable : {s : Sheet} {lines all since : List ℕ} → StoreOf s lines all → Derived s since → Countable all since
countable {s} {lines} {all} {since} S d =
    let v = d.valid in
    record {
      head = omega (arith, store_length S);
      goal = record {
        size = d.firsts.size;
        place = omega (arith, head-is S 3 (omega arith), v.goal-place, v.most-places);
        day = omega (arith, head-is S 1 (omega arith), v.most-steps);
        short = omega (arith, head-is S 4 (omega arith), v.most-unload);
      };
    }

-- a byte that is told as 1 or 0
told : (b : Bool) → eqb (pick b 1 0) 1 ≡ b
told true = refl
told false = refl

pub counting-in : {all since r : List ℕ} → StayTable since (number all 3) (number all 1) (number all 4) r → CountingIn all since r
unfolding countsb
counting-in {all} {since} {r} k = record { of = λ lines S d. counting lines S d }
  where
    counting : (lines : List ℕ) → SomeStore lines all → Derived (sheet_in lines all) since → CountingOf (sheet_in lines all) r
    counting lines S d =
        let s = sheet_in lines all in
        let e : number all 3 ≡ goal s = head-number S.store 3 (omega arith) in
        let f : number all 1 ≡ steps s = head-number S.store 1 (omega arith) in
        let h : number all 4 ≡ unload s = head-number S.store 4 (omega arith) in
        record {
          of = λ t.
              ap (λ (n : ℕ). eqb n 1) (k.of _ d.firsts s (sym (got-back d.valid)) t)
              ∙ told (stayb s (number all 3) (number all 1) (number all 4) t)
              ∙ (λ i. stayb s (e i) (f i) (h i) t);
        }

-- the sheet that a held sheet is seen as
pub counting-held : {s : Sheet} {lines all since r : List ℕ} → StoreOf s lines all → Derived s since → CountingIn all since r → CountingOf s r
counting-held {s} {lines} {all} {since} {r} S d c =
    let e : sheet_in lines all ≡ s = store-sheet S in
    subst (λ (x : Sheet). CountingOf x r) e (c.of lines (record { sheet = s; store = S }) (subst (λ (x : Sheet). Derived x since) (sym e) d))
