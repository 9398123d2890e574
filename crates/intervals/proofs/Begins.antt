-- A free run begins directly after an occupancy ends: the step before it is occupied, by a line that does not occupy its first step.
-- Assumes nothing.
use mathlib.Core.Path.{◌≡◌, refl, sym, ◌∙◌, subst}
use mathlib.Core.Bool.{Bool, true, false, true≢false}
use mathlib.Core.Logic.{⊎_elim}
use mathlib.Core.List.{List}
use Prim.Native.Nat.{ℕ, ◌+◌, ◌*◌, ◌-◌, ◌≤◌, ◌<◌}
use native.Mathlib.Omega.{arith}
use native.Mathlib.Decide.{ℕ_discrete}
use Rattle.sheet.specs.Lists.{number}
use Rattle.sheet.specs.Kinds.{kind_o}
use Rattle.sheet.specs.Sheet.{Sheet}
use Rattle.sheet.specs.Calls.{group_rows}
use Rattle.sheet.specs.Laws.Decided.{lt-or-le}
use Rattle.intervals.specs.Intervals.{freeb, Free, Run}
use Rattle.intervals.specs.Laws.Runs.{since-free, since-run}
use Rattle.intervals.specs.FirstSteps.{SinceTable}
use Rattle.intervals.specs.Inner.{Followed, FollowedBy}
use Rattle.intervals.specs.Sets.{Has}
use Rattle.intervals.specs.Laws.Sets.{Added, kept-none, kept_on}
use Rattle.intervals.proofs.Tables.{covers-true, true-covers}
use Rattle.intervals.proofs.Covers.{taken-covered, free-uncovered}

pub followed-none : (l xs : List ℕ) → Followed l 0 xs xs
followed-none l xs = record { kept = kept-none xs; own = λ k b. absurd (omega arith) }

pub followed-more : (l : List ℕ) (n : ℕ) (xs ys zs : List ℕ) → Followed l n xs ys → Added (number l (n * 3 + 2) + 1) (number l (n * 3)) ys zs → Followed l (n + 1) xs zs
followed-more l n xs ys zs f a = record { kept = kept_on f.kept a.kept; own = λ k b. go k b (ℕ_discrete k n) }
  where
    go : (k : ℕ) → k < n + 1 → Dec (k ≡ n) → Has (number zs (number l (k * 3 + 2) + 1)) (number l (k * 3))
    go k b (yes e) = subst (λ (j : ℕ). Has (number zs (number l (j * 3 + 2) + 1)) (number l (j * 3))) (sym e) a.own
    go k b (no e) = a.kept.more (number l (k * 3 + 2) + 1) (number l (k * 3)) (f.own k (omega arith))

module _ (l since : List ℕ) (s : Sheet) (same : s.occupancies ≡ group_rows kind_o l) (table : SinceTable l since) (v t : ℕ) (inside : v < 64) (first : 1 ≤ t) (last : t ≤ 255) (begins : number since (v * 256 + t) ≡ t) where
  free : Free s v t
  free = (since-free s v t last).0 (omega (arith, begins, table.of s same v t inside (omega arith)))

  run : Free s v (t - 1) → Run s v (t - 1) t
  run f i a b = ⊎_elim (λ lt. let e : t - 1 ≡ i = omega arith in subst (λ (j : ℕ). Free s v j) e f) (λ le. let e : t ≡ i = omega arith in subst (λ (j : ℕ). Free s v j) e free) (lt-or-le i t)

  occupied : (b : Bool) → freeb s v (t - 1) ≡ b → freeb s v (t - 1) ≡ false
  occupied false e = e
  occupied true e = absurd (omega (arith, begins, table.of s same v t inside (omega arith), (since-run s v (t - 1) t last (omega arith)).1 (run e)))

  pub begins-in : (xs ys : List ℕ) → FollowedBy l xs ys → Has (number ys t) v
  begins-in xs ys f =
      let c = taken-covered l s same v (t - 1) (occupied (freeb s v (t - 1)) refl) in
      let a = covers-true l v (t - 1) c.0 c.2 in
      let past : number l (c.0 * 3 + 2) + 1 ≡ t =
      ⊎_elim
      (λ lt. omega (arith, a.2))
      (λ le. absurd (true≢false (sym (true-covers l v t c.0 a.0 (omega (arith, a.1)) le) ∙ free-uncovered l s same v t free c.0 c.1)))
      (lt-or-le (number l (c.0 * 3 + 2)) t) in
      subst (λ (i : ℕ). Has (number ys i) v) past (subst (λ (w : ℕ). Has (number ys (number l (c.0 * 3 + 2) + 1)) w) a.0 (f.own c.0 c.1))
