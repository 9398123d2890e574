-- The next step of a walk: whether a cart is on the way; of what a wait and the corridors below a number make, the lowest place, and that with one
-- corridor more; and, when no corridor is left, the lowest place of what any move makes.
-- Assumes nothing.
use mathlib.Core.Path.{◌≡◌, refl, sym, ◌∙◌, ap, subst}
use mathlib.Core.Logic.{⊎_elim}
use mathlib.Core.Bool.{Bool, true, false, ◌&&◌}
use mathlib.Core.List.{List, []}
use Prim.Native.Nat.{ℕ, ◌+◌, ◌≤◌, ◌<◌}
use native.Mathlib.Omega.{arith}
use lib.Dec.{ltb}
use lib.ListN.{length, get_or}
use borrow.Author.Tests.{ltb-true, lt-ltb}
use Rattle.sheet.specs.Sheet.{Sheet, from}
use Rattle.sheet.specs.Valid.{Valid}
use Rattle.sheet.specs.Laws.Decided.{Decided, yes_of, no_of, decided-by, lt-or-le}
use Rattle.sheet.specs.Laws.Order.{and-true, true-and}
use Rattle.costs.specs.Costs.{Cost, add}
use Rattle.costs.specs.Moves.{wait_of, Crossing}
use Rattle.costs.specs.Computed.{wait_at}
use Rattle.costs.specs.Priced.{Within, CrossingBy, CorridorIs}
use Rattle.costs.specs.declared.Corridor.{Corridor}
use Rattle.costs.specs.Laws.Moves.{by-crossing, crossing-by, crossing-bounded, corridor-crosses, crosses-corridor}
use Rattle.arrivals.specs.Ways.{Move, waits, crosses}
use Rattle.arrivals.specs.Arrivals.{Arrival}
use Rattle.arrivals.specs.Computed.{arrival}
use Rattle.arrivals.specs.Laws.Leading.{arrival-path}
use Rattle.journeys.specs.declared.lookup.Stand.{Stand}
use Rattle.journeys.specs.Inner.Lookup.{mark_at}
use Rattle.journeys.specs.Inner.Waits.{WaitingRow}
use Rattle.journeys.specs.Inner.Walk.{Marked, after, NextOf, LowestOf, LowestNext}

-- the row from which a cart stands as a by waiting, and its mark, tell whether a is marked
module _ {s : Sheet} {n : ℕ} {xs : List ℕ} {a : Arrival} {k : ℕ} (w : WaitingRow s n xs a k) where
  pub marked_row : k < n → {m : ℕ} → m ≡ mark_at xs k → Decided (Marked s n xs a) (ltb a.step m)
  marked_row l {m} e =
      decided-by (ltb a.step m) (λ t. record { row = k; within = l; waits = w.is l; past = omega (arith, e, ltb-true a.step m t) })
      (λ x. let p : a.step < mark_at xs k = subst (λ (i : ℕ). a.step < mark_at xs i) (w.only x.row x.within x.waits) x.past in lt-ltb a.step m (omega (arith, e, p)))

  pub marked-none : n ≤ k → Marked s n xs a → ⊥
  marked-none l x = omega (arith, w.only x.row x.within x.waits, x.within)

marked-place : {s : Sheet} {n : ℕ} {xs : List ℕ} {a : Arrival} → Marked s n xs a → a.place < 64
marked-place x = omega (arith, x.waits.place)

-- corridor r is open and leads from a's place to one below b's
pub record Lower (r : Corridor) (a b : Arrival) : Type 0 where
  pub is_open : r.open ≡ true
  pub leaves : r.from.0 ≡ a.place
  pub below : r.to.0 < b.place

-- what the code tests of a corridor that leads from a's place
pub lower-decided : {s : Sheet} {k t u : ℕ} {r : Corridor} (a b : Arrival) → CorridorIs s k t r → u ≡ from (get_or s.corridors k []) → u ≡ a.place
    → Decided (Lower r a b) (r.open && ltb r.to.0 b.place)
lower-decided {r = r} a b d e f = decided-by (r.open && l) yes no
  where
    l : Bool
    l = ltb r.to.0 b.place

    yes : r.open && l ≡ true → Lower r a b
    yes x =
        let p = and-true r.open l x in
        record { is_open = p.0; leaves = d.leaves ∙ sym e ∙ f; below = ltb-true r.to.0 b.place p.1 }

    no : Lower r a b → r.open && l ≡ true
    no x = true-and r.open l x.is_open (lt-ltb r.to.0 b.place x.below)

-- such a corridor of a valid sheet
module _ {s : Sheet} {k t : ℕ} {r : Corridor} (d : CorridorIs s k t r) {a b : Arrival} (o : Lower r a b) where
  crossed : Crossing s a.place r.to.0 t r.cost
  crossed = subst (λ (u : ℕ). Crossing s u r.to.0 t r.cost) o.leaves (by-crossing s k r.from.0 r.to.0 t r.cost (corridor-crosses d o.is_open))

  pub lower-place : Valid s → r.to.0 < 64
  lower-place h = omega (arith, crossed.enters, (h.corridors crossed.line crossed.listed).to-place, h.most-places)

  pub lower-within : Valid s → Within 1000000000 r.cost
  lower-within h = record { every = λ i. omega (arith, crossing-bounded s h a.place r.to.0 t r.cost crossed i) }

-- where a cart stands after a move, as the code makes it
stood : (a : Arrival) (v : ℕ) (c : Cost) {g : Cost} → g ≡ add a.cost c → arrival v (a.step + 1) g ≡ after a v c
stood a v c {g} e = arrival-path (arrival v (a.step + 1) g) (after a v c) refl (omega arith) e

pub wait-sum : (s : Sheet) (a : Stand) {w g : Cost} → w ≡ wait_at s a.place → g ≡ add a.cost w → g ≡ add a.cost (wait_of s a.place.0)
unfolding wait_at
wait-sum s a f e = e ∙ ap (add a.cost) f

module _ {s : Sheet} {n : ℕ} {xs : List ℕ} {a : Arrival} where
  -- after a wait
  module _ {g : Cost} (e : g ≡ add a.cost (wait_of s a.place)) {m : Bool} (d : Decided (Marked s n xs (arrival a.place (a.step + 1) g)) m) where
    pub wait-marked : m ≡ true → LowestOf s n xs a 0 (arrival a.place (a.step + 1) g)
    wait-marked f =
        record {
          next = λ l. record { price = wait_of s a.place; move = waits refl refl; is = stood a a.place (wait_of s a.place) e; marked = yes_of d f };
          waits = λ x. omega arith;
          crosses = λ k v c l. absurd (omega arith);
        }

    pub wait-unmarked : m ≡ false → LowestOf s n xs a 0 (arrival 64 (a.step + 1) g)
    wait-unmarked f =
        record {
          next = λ l. absurd (omega arith);
          waits = λ x. absurd (no_of d f (subst (Marked s n xs) (sym (stood a a.place (wait_of s a.place) e)) x));
          crosses = λ k v c l. absurd (omega arith);
        }

  -- one corridor more
  module _ {l : ℕ} {b : Arrival} (best : LowestOf s n xs a l b) where
    one_more : (b' : Arrival) → b'.place ≤ b.place → (b'.place < 64 → NextOf s n xs a b')
        → ((v : ℕ) (c : Cost) → CrossingBy s l a.place v a.step c → Marked s n xs (after a v c) → b'.place ≤ v) → LowestOf s n xs a (l + 1) b'
    one_more b' q x f = record { next = x; waits = λ m. omega (arith, best.waits m); crosses = at }
      where
        at : (k v : ℕ) (c : Cost) → k < l + 1 → CrossingBy s k a.place v a.step c → Marked s n xs (after a v c) → b'.place ≤ v
        at k v c h y m =
            ⊎_elim (λ i. omega (arith, best.crosses k v c i y m))
            (λ i. let e : k ≡ l = omega arith in f v c (subst (λ (j : ℕ). CrossingBy s j a.place v a.step c) e y) m)
            (lt-or-le k l)

    -- one that leads away from elsewhere
    pub over-other : {u : ℕ} → u ≡ from (get_or s.corridors l []) → (u ≡ a.place → ⊥) → LowestOf s n xs a (l + 1) b
    over-other e f = one_more b (omega arith) best.next (λ v c y m. absurd (f (e ∙ y.leaves)))

    module _ {r : Corridor} (d : CorridorIs s l a.step r) where
      pub over-not : (Lower r a b → ⊥) → LowestOf s n xs a (l + 1) b
      over-not f = one_more b (omega arith) best.next at
        where
          at : (v : ℕ) (c : Cost) → CrossingBy s l a.place v a.step c → Marked s n xs (after a v c) → b.place ≤ v
          at v c y m =
              let z = crosses-corridor d a.place v c y in
              ⊎_elim (λ i. absurd (f (record { is_open = z.0; leaves = z.1; below = omega (arith, i, z.2) }))) (λ i. i) (lt-or-le v b.place)

      module _ {g : Cost} (e : g ≡ add a.cost r.cost) {m : Bool} (j : Decided (Marked s n xs (arrival r.to.0 (a.step + 1) g)) m) where
        pub over-marked : Lower r a b → m ≡ true → LowestOf s n xs a (l + 1) (arrival r.to.0 (a.step + 1) g)
        over-marked o f =
            one_more (arrival r.to.0 (a.step + 1) g) (omega (arith, o.below))
            (λ i. record { price = r.cost; move = crosses (crossed d o); is = stood a r.to.0 r.cost e; marked = yes_of j f })
            (λ v c y x. omega (arith, (crosses-corridor d a.place v c y).2))

        pub over-unmarked : m ≡ false → LowestOf s n xs a (l + 1) b
        over-unmarked f = one_more b (omega arith) best.next at
          where
            at : (v : ℕ) (c : Cost) → CrossingBy s l a.place v a.step c → Marked s n xs (after a v c) → b.place ≤ v
            at v c y x =
                let z = crosses-corridor d a.place v c y in
                let q : arrival r.to.0 (a.step + 1) g ≡ after a v c = stood a r.to.0 r.cost e ∙ (λ i. after a (z.2 i) (z.3 i)) in
                absurd (no_of j f (subst (Marked s n xs) (sym q) x))

  -- all corridors
  pub lowest-all : {l : ℕ} {b : Arrival} → LowestOf s n xs a l b → length s.corridors ≤ l → (e : Arrival) × NextOf s n xs a e → LowestNext s n xs a b
  lowest-all {l} {b} best h some = record { next = best.next (omega (arith, least some.0.place some.1.price some.1.move x, marked-place x)); least = least }
    where
      x : Marked s n xs (after a some.0.place some.1.price)
      x = subst (Marked s n xs) some.1.is some.1.marked

      least : (v : ℕ) (c : Cost) → Move s a.place v a.step c → Marked s n xs (after a v c) → b.place ≤ v
      least v c (waits p q) m =
          let z : after a v c ≡ after a a.place (wait_of s a.place) = λ i. after a (sym p i) (q i) in
          omega (arith, p, best.waits (subst (Marked s n xs) z m))
      least v c (crosses y) m = let k = crossing-by s a.place v a.step c y in best.crosses k.0 v c (omega (arith, k.1.listed)) k.1 m
