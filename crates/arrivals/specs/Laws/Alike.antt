-- What the leading arrivals depend on: the start, the horizon, the waiting costs, and within the horizon the crossings and which places are free at which
-- steps. So neither the goal nor the time to unload there plays a part, and a step past T has no effect.
use Rattle.std.specs.Prelude.{◌≡◌, refl, Bool, List, [], ◌∷◌, ℕ, suc, ◌≤◌, ◌<◌, ltb, set}
use Rattle.std.proofs.Common.{sym, ◌∙◌, subst, arith, lt-ltb}
use Rattle.sheet.specs.Lists.{◌∈◌, number}
use Rattle.sheet.specs.Sheet.{Sheet, steps, start, departure}
use Rattle.sheet.specs.Laws.Members.{filter-mem, mem-filter}
use Rattle.costs.specs.Costs.{Cost}
use Rattle.costs.specs.Moves.{wait_of, Closed, Crossing}
use Rattle.intervals.specs.Laws.Horizon.{SameWithin, same_back, within_horizon, past-horizon}
use Rattle.arrivals.specs.Ways.{Move, waits, crosses, Way}
use Rattle.arrivals.specs.Arrivals.{Arrival, Arrives}

-- two sheets on which the same ways are lawful within the horizon
pub record Alike (s r : Sheet) : Type 0 where
  pub starts : start s ≡ start r
  pub within : SameWithin s r
  pub wait : (v : ℕ) → wait_of s v ≡ wait_of r v
  pub forth : (u v t : ℕ) (c : Cost) → t < steps s → Crossing s u v t c → Crossing r u v t c
  pub back : (u v t : ℕ) (c : Cost) → t < steps r → Crossing r u v t c → Crossing s u v t c

pub alike-back : (s r : Sheet) → Alike s r → Alike r s
alike-back s r h = record { starts = sym h.starts; within = same_back s r h.within; wait = λ v. sym (h.wait v); forth = h.back; back = h.forth }

alike-move : (s r : Sheet) → Alike s r → (u v t : ℕ) (c : Cost) → t < steps s → Move s u v t c → Move r u v t c
alike-move s r h u v t c l (waits p q) = waits p (q ∙ h.wait u)
alike-move s r h u v t c l (crosses x) = crosses (h.forth u v t c l x)

pub alike-way : (s r : Sheet) → Alike s r → (A : ℕ) (p : List ℕ) (g : Cost) → A ≤ steps s → Way s A p g → Way r A p g
alike-way s r h A p g l w =
    record {
      places = w.places;
      starts = w.starts ∙ h.starts;
      free = λ t k. sym (h.within.free (number p t) t (omega arith)) ∙ w.free t k;
      price = w.price;
      moves = λ t k. alike-move s r h (number p t) (number p (suc t)) t (w.price t) (omega arith) (w.moves t k);
      sum = w.sum;
    }

pub alike-arrives : (s r : Sheet) → Alike s r → (a : Arrival) → Arrives s a → Arrives r a
alike-arrives s r h a k =
    record { path = k.path; way = alike-way s r h a.step k.path a.cost k.in-time k.way; stands = k.stands; in-time = omega (arith, k.in-time, h.within.horizon) }

-- the sheet with another goal and another time to unload there
unfoldable pub with_goal : Sheet → ℕ → ℕ → Sheet
with_goal s g u = record { head = set (set s.head 3 g) 4 u; waits = s.waits; corridors = s.corridors; closures = s.closures; occupancies = s.occupancies }

-- a crossing on a sheet with the same corridors, where it is not closed
pub same-crossing : (s r : Sheet) → s.corridors ≡ r.corridors → (u v t : ℕ) (c : Cost) → (Closed r u v t → Closed s u v t) → Crossing s u v t c → Crossing r u v t c
same-crossing s r e u v t c f x =
    record {
      line = x.line;
      listed = subst (λ (l : List (List ℕ)). x.line ∈ l) e x.listed;
      leaves = x.leaves;
      enters = x.enters;
      price = x.price;
      opens = λ m. x.opens (f m);
    }

-- a step past T has no effect
pub horizon-alike : (s : Sheet) → Alike (within_horizon s) s
unfolding within_horizon wait_of
horizon-alike s =
    record {
      starts = refl;
      within = past-horizon s;
      wait = λ v. refl;
      forth = λ u v t c l. same-crossing (within_horizon s) s refl u v t c (λ m. mem-filter soon (u ∷ v ∷ t ∷ []) s.closures m (lt-ltb t (steps s) l));
      back = λ u v t c l. same-crossing s (within_horizon s) refl u v t c (λ m. (filter-mem soon (u ∷ v ∷ t ∷ []) s.closures m).0);
    }
  where
    soon : List ℕ → Bool
    soon x = ltb (departure x) (steps s)
