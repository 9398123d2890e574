-- On a valid sheet a move has one cost, no figure of an arrival is above 255 times 60,000, and a way stands at places of the sheet.
use Rattle.std.specs.Prelude.{◌≡◌, ℕ, zero, suc, ◌*◌, ◌≤◌, ◌<◌, List}
use Rattle.std.proofs.Common.{sym, ◌∙◌, arith}
use Rattle.sheet.specs.Lists.{number}
use Rattle.sheet.specs.Sheet.{Sheet, places}
use Rattle.sheet.specs.Valid.{Valid}
use Rattle.costs.specs.Costs.{Cost, fig}
use Rattle.costs.specs.Laws.Figures.{fig-add, fig-zero}
use Rattle.costs.specs.Laws.Moves.{wait-bounded, crossing-bounded, crossing-once, crossing-apart}
use Rattle.arrivals.specs.Ways.{Move, waits, crosses, total, Way}
use Rattle.arrivals.specs.Arrivals.{Arrival, Arrives}

pub move-once : (s : Sheet) → Valid s → (u v t : ℕ) (c d : Cost) → Move s u v t c → Move s u v t d → c ≡ d
move-once s h u v t c d (waits p q) (waits p' q') = q ∙ sym q'
move-once s h u v t c d (waits p q) (crosses y) = absurd (crossing-apart s h u v t d y p)
move-once s h u v t c d (crosses x) (waits p q) = absurd (crossing-apart s h u v t c x p)
move-once s h u v t c d (crosses x) (crosses y) = crossing-once s h u v t c d x y

pub move-bounded : (s : Sheet) → Valid s → (u v t : ℕ) (c : Cost) → Move s u v t c → (i : ℕ) → fig c i ≤ 60000
move-bounded s h u v t c (waits p q) i = rw q (wait-bounded s h u i)
move-bounded s h u v t c (crosses x) i = crossing-bounded s h u v t c x i

total-bounded : (price : ℕ → Cost) (i n : ℕ) → ((t : ℕ) → t < n → fig (price t) i ≤ 60000) → fig (total price n) i ≤ n * 60000
total-bounded price i zero h = omega (arith, fig-zero i)
total-bounded price i (suc n) h =
    omega (arith, fig-add (total price n) (price n) i, total-bounded price i n (λ t l. h t (omega arith)), h n (omega arith))

pub way-bounded : (s : Sheet) → Valid s → (A : ℕ) (p : List ℕ) (g : Cost) → Way s A p g → (i : ℕ) → fig g i ≤ A * 60000
way-bounded s h A p g w i =
    rw w.sum (total-bounded w.price i A (λ t l. move-bounded s h (number p t) (number p (suc t)) t (w.price t) (w.moves t l) i))

pub arrives-bounded : (s : Sheet) → Valid s → (a : Arrival) → Arrives s a → (i : ℕ) → fig a.cost i ≤ 15300000
arrives-bounded s h a r i = omega (arith, way-bounded s h a.step r.path a.cost r.way i, r.in-time, h.most-steps)

pub way-place : (s : Sheet) → Valid s → (A : ℕ) (p : List ℕ) (g : Cost) → Way s A p g → (t : ℕ) → t ≤ A → number p t < places s
way-place s v A p g w zero h = omega (arith, w.starts, v.start-place)
way-place s v A p g w (suc t) h = go (way-place s v A p g w t (omega arith)) (w.moves t (omega arith))
  where
    go : number p t < places s → Move s (number p t) (number p (suc t)) t (w.price t) → number p (suc t) < places s
    go l (waits e c) = omega (arith, e, l)
    go l (crosses c) = omega (arith, c.enters, (v.corridors c.line c.listed).to-place)

pub arrives-place : (s : Sheet) → Valid s → (a : Arrival) → Arrives s a → a.place < places s
arrives-place s v a r = omega (arith, way-place s v a.step r.path a.cost r.way a.step (omega arith), r.stands)
