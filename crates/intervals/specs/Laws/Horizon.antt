-- "A step past T has no effect" (document 01, "The sheet"): with the occupancies cut off at the horizon, every place is free at the same
-- steps within 0 to T, and has the same safe intervals (proofs/Horizon.antt).
use Rattle.std.specs.Prelude.{◌≡◌, refl, Bool, true, false, not, List, [], ◌∷◌, map, ℕ, ◌≤◌, ltb, leb}
use Rattle.std.proofs.Common.{sym, arith, leb-false}
use Rattle.sheet.specs.Lists.{pick, filter, all}
use Rattle.sheet.specs.Sheet.{Sheet, steps, departure, place_of, first, last}
use Rattle.sheet.specs.Laws.Order.{bool_same}
use Rattle.intervals.specs.Intervals.{occupiesb, freeb}
use Rattle.intervals.specs.Laws.Free.{occupiesb-true, occupies-occupiesb}

-- two sheets with one horizon, whose places are free at the same steps within it
pub record SameWithin (s r : Sheet) : Type 0 where
  pub horizon : steps s ≡ steps r
  pub free : (v t : ℕ) → t ≤ steps s → freeb s v t ≡ freeb r v t

pub same_back : (s r : Sheet) → SameWithin s r → SameWithin r s
same_back s r h = record { horizon = sym h.horizon; free = λ v t l. sym (h.free v t (omega (arith, h.horizon))) }

-- an occupancy cut off at T
abbrev pub cut_off : ℕ → List ℕ → List ℕ
cut_off T o = place_of o ∷ first o ∷ pick (leb (last o) T) (last o) T ∷ []

-- the sheet with its occupancies cut off at its horizon, within which each begins on a sheet that is read (document 02, E6), and with the closures that
-- forbid a departure before it
unfoldable pub within_horizon : Sheet → Sheet
within_horizon s =
    record {
      head = s.head;
      waits = s.waits;
      corridors = s.corridors;
      closures = filter (λ x. ltb (departure x) (steps s)) s.closures;
      occupancies = map (cut_off (steps s)) s.occupancies;
    }

cut-same : (T v t : ℕ) (o : List ℕ) → t ≤ T → occupiesb v t o ≡ occupiesb v t (cut_off T o)
cut-same T v t o h =
    bool_same (occupiesb v t o) (occupiesb v t (cut_off T o))
    (λ e. (let q = occupiesb-true v t o e in occupies-occupiesb v t (cut_off T o) (record { there = q.there; begun = q.begun; lasts = into q.lasts (leb (last o) T) })))
    (λ e. (let q = occupiesb-true v t (cut_off T o) e in occupies-occupiesb v t o (record { there = q.there; begun = q.begun; lasts = onto (leb (last o) T) refl q.lasts })))
  where
    into : t ≤ last o → (b : Bool) → t ≤ pick b (last o) T
    into l true = l
    into l false = h

    onto : (b : Bool) → leb (last o) T ≡ b → t ≤ pick b (last o) T → t ≤ last o
    onto true e l = l
    onto false e l = omega (arith, leb-false (last o) T e)

cut_all : (T v t : ℕ) (l : List (List ℕ)) → t ≤ T → all (λ o. not (occupiesb v t o)) (map (cut_off T) l) ≡ all (λ o. not (occupiesb v t o)) l
cut_all T v t [] h = refl
cut_all T v t (o ∷ l) h = rw (cut_all T v t l h, cut-same T v t o h)

-- a step past T has no effect
pub past-horizon : (s : Sheet) → SameWithin (within_horizon s) s
unfolding within_horizon freeb
past-horizon s = record { horizon = refl; free = λ v t h. cut_all (steps s) v t s.occupancies h }
