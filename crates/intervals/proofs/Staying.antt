-- From which steps a place stays free, off the table of first steps: it is free from t to t + n exactly where the free run that holds t + n begins
-- at t or before.
use mathlib.Core.Path.{◌≡◌, refl, sym, ◌∙◌, ap}
use mathlib.Core.Bool.{Bool, true, false, ◌&&◌}
use mathlib.Core.List.{List}
use Prim.Native.Nat.{ℕ, ◌+◌, ◌≤◌, ◌<◌}
use native.Mathlib.Omega.{arith}
use lib.Dec.{leb, ltb}
use lib.ListN.{get_or-eq_default}
use borrow.Author.Tests.{leb-true, le-leb, ltb-true, ltb-false}
use Rattle.sheet.specs.Lists.{pick, number}
use Rattle.sheet.specs.Sheet.{Sheet}
use Rattle.sheet.specs.Laws.Order.{bool_same, and-true, true-and}
use Rattle.costs.specs.Laws.Figures.{Stored}
use Rattle.intervals.specs.Computed.{stayb, since_of}
use Rattle.intervals.specs.FirstSteps.{StayTable}
use Rattle.intervals.specs.Inner.{entry, stay_by}
use Rattle.intervals.specs.Laws.Runs.{stayb-true, stays-stayb, since-run}

module _ (since : List ℕ) (v last n : ℕ) (low : v < 64) (day : last ≤ 255) where
  module _ (s : Sheet) (is : (t : ℕ) → t < 256 → entry since v t ≡ since_of s v t) where
    -- the test of the table is `stayb`
    tests : (t : ℕ) → leb (t + n) last && leb (entry since v (t + n)) t ≡ stayb s v last n t
    tests t = bool_same (leb (t + n) last && leb (entry since v (t + n)) t) (stayb s v last n t) forth back
      where
        forth : leb (t + n) last && leb (entry since v (t + n)) t ≡ true → stayb s v last n t ≡ true
        forth e =
            let q = and-true (leb (t + n) last) (leb (entry since v (t + n)) t) e in
            let h = leb-true (t + n) last q.0 in
            let f = leb-true (entry since v (t + n)) t q.1 in
            stays-stayb s v last n t h ((since-run s v t (t + n) (omega arith) (omega arith)).0 (omega (arith, f, is (t + n) (omega arith))))

        back : stayb s v last n t ≡ true → leb (t + n) last && leb (entry since v (t + n)) t ≡ true
        back e =
            let q = stayb-true s v last n t e in
            let h = q.0 in
            let f = (since-run s v t (t + n) (omega arith) (omega arith)).1 q.1 in
            true-and (leb (t + n) last) (leb (entry since v (t + n)) t) (le-leb (t + n) last h) (le-leb (entry since v (t + n)) t (omega (arith, f, is (t + n) (omega arith))))

    -- past the table no step stays
    past : (t : ℕ) → 256 ≤ t → stayb s v last n t ≡ false
    past t h = not-stays (stayb s v last n t) refl
      where
        not-stays : (b : Bool) → stayb s v last n t ≡ b → b ≡ false
        not-stays true e = absurd (omega (arith, (stayb-true s v last n t e).0))
        not-stays false e = refl

    told-stays : (r : List ℕ) → Stored 256 (stay_by since v last n) 256 r → (t : ℕ) → number r t ≡ pick (stayb s v last n t) 1 0
    told-stays r k t = go (ltb t 256) refl
      where
        go : (b : Bool) → ltb t 256 ≡ b → number r t ≡ pick (stayb s v last n t) 1 0
        go true q = k.so_far t (ltb-true t 256 q) ∙ ap (λ (b : Bool). pick b 1 0) (tests t)
        go false q =
            let h = ltb-false t 256 q in
            get_or-eq_default r 0 (omega (arith, k.sized)) ∙ ap (λ (b : Bool). pick b 1 0) (sym (past t h))

  pub stay-table : (r : List ℕ) → Stored 256 (stay_by since v last n) 256 r → StayTable since v last n r
  stay-table r k = record { of = λ o f s e t. told-stays s (λ i h. f.of s e v i low h) r k t }
