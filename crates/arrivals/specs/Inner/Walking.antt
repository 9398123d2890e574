-- The places of a step, one after another: those that are occupied, or at which the pruning rule spares every row, are passed over, and nothing is lost.
use Rattle.std.specs.Prelude.{◌≡◌, true, List, ℕ, zero, suc, ◌+◌, ◌*◌, ◌-◌, ◌≤◌, ◌<◌, length, Option, Some, None, ⊤}
use Rattle.std.proofs.Common.{subst, ⊎_elim, arith}
use Rattle.sheet.specs.Laws.Decided.{lt-or-le}
use Rattle.sheet.specs.declared.Place.{Place}
use Rattle.intervals.specs.Sets.{Has}
use Rattle.arrivals.specs.Inner.Rows.{rows_of}
use Rattle.arrivals.specs.Inner.Network.{case_of, since_in, Vacant, places_of}
use Rattle.arrivals.specs.Inner.Lent.{Given}
use Rattle.arrivals.specs.Inner.Filling.{Filled, Result, Visiting, filled-skip}
use Rattle.arrivals.specs.Inner.Due.{Lookout}
use Rattle.arrivals.specs.Inner.Gather.{unwatched-filled}
use Rattle.arrivals.specs.Inner.Outcomes.{Outcome}

-- the rows, where all is filled in before place v at step t
pub record Walking (free net xs : List ℕ) (n v t : ℕ) : Type 0 where
  pub given : Given free net
  pub upto : v ≤ places_of net
  pub first : 1 ≤ t
  pub last : t ≤ 255
  pub room : n * 5 ≤ length xs
  pub filled : Filled (case_of free net) (rows_of xs n) t v

pub walking-visiting : {free net xs : List ℕ} {n v t : ℕ} → Walking free net xs n v t → v < places_of net → Visiting free net xs n v t
walking-visiting w l = record { given = w.given; inside = l; first = w.first; last = w.last; room = w.room; filled = w.filled }

-- at the beginning of a step, and after a place was filled in
pub walking-first : {free net xs : List ℕ} {n t : ℕ} → Visiting free net xs n 0 t → Walking free net xs n 0 t
walking-first p = record { given = p.given; upto = omega arith; first = p.first; last = p.last; room = p.room; filled = p.filled }

pub walking_on : {free net xs ys : List ℕ} {n v t : ℕ} {o : Outcome} → Walking free net xs n v t → v < places_of net → Result (case_of free net) ys t (v + 1) o.ok o.rows
    → o.ok ≡ true → Walking free net ys o.rows (v + 1) t
walking_on w l r e = record { given = w.given; upto = omega arith; first = w.first; last = w.last; room = r.room; filled = r.done e }

-- from place v on, no place of the set of step t is free
pub record Unpassed (free net : List ℕ) (set v t : ℕ) : Type 0 where
  pub passed : (xs : List ℕ) (n : ℕ) → Lookout free net xs n t set → Walking free net xs n v t → Walking free net xs n (places_of net) t

-- from place v on, place r is the first of the set of step t that is free, or there is none
pub record PassedTo (free net : List ℕ) (set v t r : ℕ) : Type 0 where
  pub on : v ≤ r
  pub vacant : r < places_of net → Vacant (case_of free net) r t
  pub passed : (xs : List ℕ) (n : ℕ) → Lookout free net xs n t set → Walking free net xs n v t → Walking free net xs n r t

-- a place, or the number of places where there is none
abbrev pub place_or : ℕ → Option Place → ℕ
place_or places (Some p) = p.0
place_or places None = places

-- a place that is to be filled in, if there is one
abbrev pub Due : List ℕ → List ℕ → ℕ → Option Place → Type 0
Due free net t (Some p) = (p.0 < places_of net) × Vacant (case_of free net) p.0 t
Due free net t None = ⊤

-- the first place from v on, if there is one
abbrev pub NextPlace : List ℕ → List ℕ → ℕ → ℕ → ℕ → Option Place → Type 0
NextPlace free net set v t (Some p) = (p.0 < places_of net) × PassedTo free net set v t p.0
NextPlace free net set v t None = Unpassed free net set v t

module _ {free net xs : List ℕ} {n t : ℕ} where
  next : {v : ℕ} → v < places_of net → Walking free net xs n v t → Filled (case_of free net) (rows_of xs n) t (v + 1) → Walking free net xs n (v + 1) t
  next l w f = record { given = w.given; upto = omega arith; first = w.first; last = w.last; room = w.room; filled = f }

  pub pass-occupied : {v : ℕ} → v < places_of net → t < since_in free v t → Walking free net xs n v t → Walking free net xs n (v + 1) t
  pass-occupied {v} l after w = next l w (filled-skip (case_of free net) (rows_of xs n) t v (λ f. omega arith) w.filled)

  pass-one : {v set : ℕ} → Lookout free net xs n t set → v < places_of net → (Has set v → ⊥) → Walking free net xs n v t → Walking free net xs n (v + 1) t
  pass-one {v} {set} look l out w =
      ⊎_elim
      (λ before. next l w (unwatched-filled free net xs n v t set (walking-visiting w l) look out before))
      (λ after. ⊎_elim
      (λ occupied. pass-occupied l occupied w)
      (λ begun. absurd (out (look.begins v (omega (arith, w.given.places)) (omega arith))))
      (lt-or-le t (since_in free v t)))
      (lt-or-le (since_in free v t) t)

  -- d places that are not in the set
  pass : (d v set : ℕ) → Lookout free net xs n t set → v + d ≤ places_of net → ((w : ℕ) → v ≤ w → w < v + d → Has set w → ⊥) → Walking free net xs n v t → Walking free net xs n (v + d) t
  pass zero v set look l out w = let e : v ≡ v + 0 = omega arith in subst (λ (u : ℕ). Walking free net xs n u t) e w
  pass (suc d) v set look l out w =
      let e : v + 1 + d ≡ v + suc d = omega arith in
      subst (λ (u : ℕ). Walking free net xs n u t) e (pass d (v + 1) set look (omega arith) (λ u a b. out u (omega arith) (omega arith)) (pass-one look (omega arith) (out v (omega arith) (omega arith)) w))

  pub pass-to : (v r set : ℕ) → Lookout free net xs n t set → v ≤ r → r ≤ places_of net → ((w : ℕ) → v ≤ w → w < r → Has set w → ⊥) → Walking free net xs n v t → Walking free net xs n r t
  pass-to v r set look on l out w =
      let e : v + (r - v) ≡ r = omega arith in
      subst (λ (u : ℕ). Walking free net xs n u t) e (pass (r - v) v set look (omega arith) (λ u a b. out u a (omega arith)) w)

-- where the search of a step goes on
pub due-at : {free net xs : List ℕ} {set n v t : ℕ} (p : Option Place) → NextPlace free net set v t p → Lookout free net xs n t set → Walking free net xs n v t
    → Walking free net xs n (place_or (places_of net) p) t × Due free net t p
due-at (Some p) r look w = (r.1.passed _ _ look w, (r.0, r.1.vacant r.0))
due-at None r look w = (r.passed _ _ look w, tt)

pub due-on : (free net : List ℕ) (set v t : ℕ) (p : Option Place) → NextPlace free net set v t p → v ≤ places_of net → v ≤ place_or (places_of net) p
due-on free net set v t (Some p) r l = r.1.on
due-on free net set v t None r l = l
