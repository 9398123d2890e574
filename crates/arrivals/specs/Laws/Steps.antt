-- An arrival one step on and one step back, and one that waits at its place.
use Rattle.std.specs.Prelude.{◌≡◌, refl, List, ◌∷◌, ◌++◌, [], ℕ, zero, suc, ◌+◌, ◌-◌, ◌≤◌, length}
use Rattle.std.proofs.Common.{sym, ◌∙◌, subst, arith}
use Rattle.std.proofs.Math.Seq.{get_or-append_seam}
use Rattle.sheet.specs.Lists.{number}
use Rattle.sheet.specs.Sheet.{Sheet, steps}
use Rattle.costs.specs.Costs.{Cost, figures, add, times}
use Rattle.costs.specs.Laws.Figures.{length-add, length-times, add_assoc, times-suc, same-figures}
use Rattle.costs.specs.Moves.{wait_of}
use Rattle.costs.specs.Laws.Moves.{wait-three}
use Rattle.intervals.specs.Intervals.{Free, Run}
use Rattle.arrivals.specs.Ways.{Move, waits}
use Rattle.arrivals.specs.Arrivals.{Arrival, Arrives}
use Rattle.arrivals.specs.Computed.{arrival, waited}
use Rattle.arrivals.specs.Laws.Trails.{Trail, way_on}
use Rattle.arrivals.specs.Laws.Leading.{arrival-path, fig-waited, arrives-came, came-arrives, arrives-three}

-- an arrival, one step on
pub arrives-on : (s : Sheet) (u v t : ℕ) (h c : Cost) → Arrives s (arrival u t h) → Move s u v t c → Free s v (suc t) → suc t ≤ steps s → Arrives s (arrival v (suc t) (add h c))
arrives-on s u v t h c a m f l =
    record {
      path = a.path ++ (v ∷ []);
      way = way_on s t u v a.path h c a.way a.stands m f;
      stands = subst (λ (n : ℕ). number (a.path ++ (v ∷ [])) n ≡ v) a.way.places (get_or-append_seam a.path v [] 0);
      in-time = l;
    }

-- and one step back
pub record Back (s : Sheet) (v t : ℕ) (g : Cost) : Type 0 where
  pub place : ℕ
  pub cost : Cost
  pub move : Cost
  pub there : Arrives s (arrival place t cost)
  pub moves : Move s place v t move
  pub free : Free s v (suc t)
  pub sum : g ≡ add cost move

pub arrives_back : (s : Sheet) (v t : ℕ) (g : Cost) → Arrives s (arrival v (suc t) g) → Back s v t g
arrives_back s v t g a = let k = arrives-came s (arrival v (suc t) g) a in go k.before k.trail k.steps a.in-time
  where
    go : (p : List ℕ) → Trail s (v ∷ p) g → length p ≡ suc t → suc t ≤ steps s → Back s v t g
    go [] w l h = absurd (omega arith)
    go (u ∷ p) w l h =
        let e : length p ≡ t = omega arith in
        record {
          place = u;
          cost = w.before;
          move = w.price;
          there = came-arrives s u t w.before (omega arith) (record { before = p; trail = w.trail; steps = e });
          moves = subst (λ (n : ℕ). Move s u v n w.price) e w.move;
          free = subst (λ (n : ℕ). Free s v (suc n)) e w.free;
          sum = w.sum;
        }

-- waiting: n steps at one place
waited-zero : (s : Sheet) (v : ℕ) (g : Cost) → length g ≡ figures → waited s v 0 g ≡ g
waited-zero s v g l =
    same-figures (waited s v 0 g) g (length-add g (times 0 (wait_of s v)) figures l (length-times 0 (wait_of s v) ∙ wait-three s v) ∙ sym l)
    (λ i. omega (arith, fig-waited s v 0 g i))

pub waited-suc : (s : Sheet) (v n : ℕ) (g : Cost) → waited s v (suc n) g ≡ add (waited s v n g) (wait_of s v)
waited-suc s v n g = rw (times-suc n (wait_of s v)) (sym (add_assoc g (times n (wait_of s v)) (wait_of s v)))

pub arrives-wait : (s : Sheet) (v t n : ℕ) (g : Cost) → Arrives s (arrival v t g) → Run s v t (n + t) → n + t ≤ steps s → Arrives s (arrival v (n + t) (waited s v n g))
arrives-wait s v t zero g a r l =
    let e : 0 + t ≡ t = omega arith in
    subst (Arrives s) (sym (arrival-path (arrival v (0 + t) (waited s v 0 g)) (arrival v t g) refl e (waited-zero s v g (arrives-three s (arrival v t g) a)))) a
arrives-wait s v t (suc n) g a r l =
    let e : suc n + t ≡ suc (n + t) = omega arith in
    let b : Arrives s (arrival v (n + t) (waited s v n g)) = arrives-wait s v t n g a (λ i p q. r i p (omega arith)) (omega arith) in
    let f : Free s v (suc (n + t)) = r (suc (n + t)) (omega arith) (omega arith) in
    subst (Arrives s) (sym (arrival-path (arrival v (suc n + t) (waited s v (suc n) g)) (arrival v (suc (n + t)) (add (waited s v n g) (wait_of s v))) refl e (waited-suc s v n g)))
    (arrives-on s v v (n + t) (waited s v n g) (wait_of s v) b (waits refl refl) f (omega arith))

-- the arrival e, kept waiting at its place until step t
pub arrives-until : (s : Sheet) (t : ℕ) (e : Arrival) → Arrives s e → e.step ≤ t → t ≤ steps s → Run s e.place e.step t → Arrives s (arrival e.place t (waited s e.place (t - e.step) e.cost))
arrives-until s t e a h k r =
    let n = t - e.step in
    let q : n + e.step ≡ t = omega arith in
    subst (λ (x : ℕ). Arrives s (arrival e.place x (waited s e.place n e.cost))) q
    (arrives-wait s e.place e.step n e.cost a (λ i x y. r i x (omega arith)) (omega arith))
