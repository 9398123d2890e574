-- The row from which a cart waits. Only one cost, what is left after the steps waited, becomes a cost by waiting; the rows of a safe interval tell
-- whether one has it; and as the rows are leading arrivals, no two of them become the same.
-- Assumes nothing.
use mathlib.Core.Path.{◌≡◌, refl, sym, ◌∙◌, ap, subst}
use mathlib.Core.Logic.{⊎_elim}
use mathlib.Core.Bool.{Bool, true, false}
use mathlib.Core.List.{List}
use Prim.Native.Nat.{ℕ, ◌+◌, ◌*◌, ◌-◌, ◌≤◌, ◌<◌}
use native.Mathlib.Omega.{arith}
use lib.ListN.{length}
use Rattle.sheet.specs.Sheet.{Sheet}
use Rattle.sheet.specs.Laws.Decided.{false-not-true, lt-or-le, from-length}
use Rattle.sheet.specs.Laws.Order.{Lex-irrefl}
use Rattle.sheet.specs.Lists.{Lex, number}
use Rattle.sheet.specs.Valid.{Valid}
use Rattle.sheet.specs.declared.Place.{Place}
use Rattle.sheet.specs.declared.Step.{Step}
use Rattle.costs.specs.Costs.{Cost, figures, fig, add, times}
use Rattle.costs.specs.Computed.{at_most_b, wait_at}
use Rattle.costs.specs.Priced.{Within}
use Rattle.costs.specs.Laws.Moves.{wait-bounded}
use Rattle.costs.specs.Moves.{wait_of}
use Rattle.costs.specs.Laws.Figures.{fig-add, cancel_right, at-most-at_most_b}
use Rattle.intervals.specs.Computed.{since_of}
use Rattle.intervals.specs.Intervals.{Run}
use Rattle.intervals.specs.Laws.Runs.{since-run}
use Rattle.arrivals.specs.Arrivals.{Arrival, key_of}
use Rattle.arrivals.specs.Computed.{arrival}
use Rattle.arrivals.specs.declared.network.Here.{Here}
use Rattle.arrivals.specs.Laws.Leading.{arrival-path}
use Rattle.intervals.proofs.Occupancies.{got-back}
use Rattle.journeys.specs.Inner.Lookup.{stand_at, Sorted, RowIs, RowOr}
use Rattle.std.specs.Prelude.{Option, None, Some}
use Rattle.journeys.specs.Inner.Waits.{Becomes, KeptFrom, InRun, KeptRow, Rows, Rowed, WaitingRow}
use Rattle.journeys.specs.Laws.Exact.{Waits, waits-once}

-- what holds of the row told, if something else does
pub row-as : (n : ℕ) (P Q : ℕ → Type 0) → ((k : ℕ) → P k → Q k) → (r : Option ℕ) → RowOr n P r → RowOr n Q r
row-as n P Q f None x = f n x
row-as n P Q f (Some k) x = (x.0, f k x.1)

-- a part of a sum is nowhere above it
pub part-under : (g c h : Cost) → add g c ≡ h → at_most_b c h ≡ true
part-under g c h e = at-most-at_most_b c h (record { every = λ i. omega (arith, fig-add g c i, ap (λ (y : Cost). fig y i) e) })

-- at one step: the cost of the row that becomes h can only be what is left of h
module _ {here : Here} {h : Cost} {t : ℕ} {w : Cost} (e : w ≡ times (here.step.0 - t) here.wait) where
  left : (a : Arrival) → a.step ≡ t → Becomes here h a → add a.cost w ≡ h
  left a q b = ap (add a.cost) (e ∙ ap (λ (j : ℕ). times (here.step.0 - j) here.wait) (sym q)) ∙ b.sum

  pub waited-more : {n : ℕ} {xs : List ℕ} {b : Bool} → b ≡ at_most_b w h → b ≡ false → KeptFrom n xs here h t n
  waited-more {n} {xs} q d =
      record {
        most = omega arith;
        at = λ l. absurd (omega arith);
        is = λ l. absurd (omega arith);
        only = λ k l r b. absurd (false-not-true (sym q ∙ d) (part-under (stand_at xs k).cost w h (left (stand_at xs k) r b)));
      }

  pub waited-left : {n : ℕ} {xs : List ℕ} (g : Cost) → (length g ≡ figures) × (add g w ≡ h) → {r : ℕ} → RowIs n xs (arrival here.place.0 t g) r → KeptFrom n xs here h t r
  waited-left {n} {xs} g q {r} x =
      record {
        most = x.most;
        at = λ l. ap (λ (a : Arrival). a.step) (x.is l);
        is = λ l. subst (Becomes here h) (sym (x.is l)) (record { place = refl; sum = ap (add g) (sym e) ∙ q.1 });
        only = λ k l p b. x.only k l (arrival-path (stand_at xs k) (arrival here.place.0 t g) b.place p (only k p b));
      }
    where
      only : (k : ℕ) → (stand_at xs k).step ≡ t → Becomes here h (stand_at xs k) → (stand_at xs k).cost ≡ g
      only k p b = cancel_right (stand_at xs k).cost g w (from-length figures (k * 5 + 2) xs ∙ sym q.0) (left (stand_at xs k) p b ∙ sym q.1)

-- over the steps of the safe interval, from the last one back: no row at a step from s on becomes h
pub record NoneFrom (n : ℕ) (xs : List ℕ) (here : Here) (h : Cost) (s : ℕ) : Type 0 where
  pub none : (k : ℕ) → k < n → s ≤ (stand_at xs k).step → (stand_at xs k).step ≤ here.step.0 → Becomes here h (stand_at xs k) → ⊥

-- no row stands twice
pub rows-once : {n : ℕ} {xs : List ℕ} → Sorted n xs → (i j : ℕ) → i < n → j < n → stand_at xs i ≡ stand_at xs j → i ≡ j
rows-once {n} {xs} s i j h l e = ⊎_elim (λ m. absurd (apart i j m l e)) (λ m. ⊎_elim (λ k. absurd (apart j i k h (sym e))) (λ k. omega arith) (lt-or-le j i)) (lt-or-le i j)
  where
    apart : (i j : ℕ) → i < j → j < n → stand_at xs i ≡ stand_at xs j → ⊥
    apart i j m l e = Lex-irrefl (key_of (stand_at xs j)) (subst (λ (a : Arrival). Lex (key_of a) (key_of (stand_at xs j))) e (s.ascends i j m l))

-- of leading arrivals, in the safe interval that the table of first steps tells
module _ {s : Sheet} {n : ℕ} {xs : List ℕ} (rows : Rows s n xs) (here : Here) (since-is : here.since.0 ≡ since_of s here.place.0 here.step.0)
    (wait-of : here.wait ≡ wait_of s here.place.0) (day : here.step.0 ≤ 255) (h : Cost) where
  abbrev this : Arrival
  this = arrival here.place.0 here.step.0 h

  becomes-waits : (e : Arrival) → InRun here e.step → Becomes here h e → Waits s e this
  becomes-waits e w b =
      let run : Run s here.place.0 e.step here.step.0 = (since-run s here.place.0 e.step here.step.0 day w.until).0 (omega (arith, since-is, w.since)) in
      record {
        place = b.place;
        stays = record { soon = w.until; run = subst (λ (v : ℕ). Run s v e.step here.step.0) (sym b.place) run };
        sum = ap (λ (c : Cost). add e.cost (times (here.step.0 - e.step) c)) (ap (wait_of s) b.place ∙ sym wait-of) ∙ b.sum;
      }

  waits-becomes : (e : Arrival) → Waits s e this → InRun here e.step × Becomes here h e
  waits-becomes e x =
      let run : Run s here.place.0 e.step here.step.0 = subst (λ (v : ℕ). Run s v e.step here.step.0) x.place x.stays.run in (
        record { since = omega (arith, since-is, (since-run s here.place.0 e.step here.step.0 day x.stays.soon).1 run); until = x.stays.soon },
        record { place = x.place; sum = ap (λ (c : Cost). add e.cost (times (here.step.0 - e.step) c)) (wait-of ∙ ap (wait_of s) (sym x.place)) ∙ x.sum },
      )

  pub kept-waiting : {r : ℕ} → KeptRow n xs here h r → WaitingRow s n xs this r
  kept-waiting {r} k = record { most = k.most; is = is; only = only }
    where
      is : r < n → Waits s (stand_at xs r) this
      is l = becomes-waits (stand_at xs r) (k.within l) (k.is l)

      only : (j : ℕ) → j < n → Waits s (stand_at xs j) this → j ≡ r
      only j l x =
          ⊎_elim
          (λ m. rows-once rows.sorted j r l m (waits-once s this (stand_at xs j) (stand_at xs r) (rows.each j l) (rows.each r m) x (is m)))
          (λ m. let y = waits-becomes (stand_at xs j) x in absurd (k.none m j l y.0 y.1))
          (lt-or-le r n)

-- what the code reads off the array and the table of first steps
pub wait-within : {s : Sheet} → Valid s → (v : Place) {w : Cost} → w ≡ wait_at s v → Within 60000 w
unfolding wait_at
wait-within {s} d v e = subst (Within 60000) (sym e) (record { every = wait-bounded s d v.0 })

pub wait-is : (s : Sheet) (v : Place) {w : Cost} → w ≡ wait_at s v → w ≡ wait_of s v.0
unfolding wait_at
wait-is s v e = e

pub row-waiting : {s : Sheet} {since : List ℕ} {n : ℕ} {table : List ℕ} → Rowed s since n table → {v : Place} {t first : Step} → v.0 < 64 → t.0 ≤ 255
    → first.0 ≡ number since (v.0 * 256 + t.0) → {w h : Cost} → w ≡ wait_at s v → {r : ℕ}
    → KeptRow n table (record { place = v; step = t; since = first; wait = w }) h r → WaitingRow s n table (arrival v.0 t.0 h) r
unfolding wait_at
row-waiting {s} d {v} {t} {first} low day f {w} {h} e k =
    kept-waiting d.rows (record { place = v; step = t; since = first; wait = w })
    (f ∙ d.derived.firsts.of s (sym (got-back d.derived.valid)) v.0 t.0 low (omega arith)) e day h k
