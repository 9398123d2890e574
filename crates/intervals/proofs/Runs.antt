-- Safe intervals as runs of free steps. Two steps are in one safe interval exactly when the place is free at every step between them;
-- each free step within the horizon lies in one safe interval, whose ends `first_of` and `last_of` compute; `intervals_of` lists exactly
-- the safe intervals of a place. These laws stand here, and not in specs/, so that a must-fail edit of `Interval` is refused by them, and not as a text
-- that cannot be read.
-- Assumes nothing.
use Rattle.std.specs.Prelude.{◌≡◌, refl, ◌↔◌, ◌⊎◌, Bool, true, false, [], ◌∷◌, ◌++◌, map, ℕ, zero, suc, ◌+◌, ◌-◌, ◌≤◌, ◌<◌, eqb, leb}
use Rattle.std.proofs.Common.{sym, ◌∙◌, subst, inl, inr, true≢false, arith, eqb-true, eq-eqb, leb-true, leb-false}
use Rattle.sheet.specs.Lists.{◌∈◌, filter}
use Rattle.sheet.specs.Sheet.{Sheet, steps}
use Rattle.sheet.specs.Laws.Order.{and-true, true-and}
use Rattle.sheet.specs.Laws.Members.{mem-left, mem-right, mem-append, filter-mem, mem-filter, map-mem, mem-map}
use Rattle.intervals.specs.Intervals.{freeb, Free, Run, Interval, Together}
use Rattle.intervals.specs.Computed.{first_of, last_of, Span, beginsb, steps_to, intervals_of}
use Rattle.intervals.specs.Laws.Runs.{run_join, first_step, last_step, together-run}

-- each free step within the horizon lies in a safe interval
pub interval-at : (s : Sheet) (v t : ℕ) → t ≤ steps s → Free s v t → Interval s v (first_of s v t) (last_of s v t (steps s - t))
interval-at s v t h f =
    let a = first_step s v t f in
    let b = last_step s v t (steps s - t) f in
    record {
      ordered = omega (arith, a.soon, b.late);
      within = omega (arith, b.within);
      free = run_join s v (first_of s v t) t (last_of s v t (steps s - t)) a.run b.run;
      no-sooner = a.no-sooner;
      no_longer = ends b.no_longer;
    }
  where
    ends : (last_of s v t (steps s - t) ≡ t + (steps s - t)) ⊎ (freeb s v (last_of s v t (steps s - t) + 1) ≡ false)
        → (last_of s v t (steps s - t) ≡ steps s) ⊎ (freeb s v (last_of s v t (steps s - t) + 1) ≡ false)
    ends (inl e) = inl (omega (arith, e))
    ends (inr g) = inr g

-- two safe intervals that share a step are one
low_end : (s : Sheet) (v a b c d t : ℕ) → Interval s v a b → Interval s v c d → a ≤ t → t ≤ b → c ≤ t → t ≤ d → a ≤ c
low_end s v a b c d t p q h k l m = go p.no-sooner
  where
    sooner : freeb s v (a - 1) ≡ false → (x : Bool) → leb a c ≡ x → a ≤ c
    sooner e true f = leb-true a c f
    sooner e false f = absurd (true≢false (sym (q.free (a - 1) (omega (arith, leb-false a c f)) (omega arith)) ∙ e))

    go : (a ≡ 0) ⊎ (freeb s v (a - 1) ≡ false) → a ≤ c
    go (inl e) = omega arith
    go (inr e) = sooner e (leb a c) refl

high_end : (s : Sheet) (v a b c d t : ℕ) → Interval s v a b → Interval s v c d → a ≤ t → t ≤ b → c ≤ t → t ≤ d → d ≤ b
high_end s v a b c d t p q h k l m = go p.no_longer
  where
    longer : freeb s v (b + 1) ≡ false → (x : Bool) → leb d b ≡ x → d ≤ b
    longer e true f = leb-true d b f
    longer e false f = absurd (true≢false (sym (q.free (b + 1) (omega arith) (omega (arith, leb-false d b f))) ∙ e))

    go : (b ≡ steps s) ⊎ (freeb s v (b + 1) ≡ false) → d ≤ b
    go (inl e) = omega (arith, q.within)
    go (inr e) = longer e (leb d b) refl

pub interval-once : (s : Sheet) (v a b c d t : ℕ) → Interval s v a b → Interval s v c d → a ≤ t → t ≤ b → c ≤ t → t ≤ d → (a ≡ c) × (b ≡ d)
interval-once s v a b c d t p q h k l m =
    let x = low_end s v a b c d t p q h k l m in
    let y = low_end s v c d a b t q p l m h k in
    let z = high_end s v a b c d t p q h k l m in
    let w = high_end s v c d a b t q p l m h k in
    (omega arith, omega arith)

-- two steps are in one safe interval exactly when all between are free
pub run-together : (s : Sheet) (v t t' : ℕ) → t ≤ t' → t' ≤ steps s → Run s v t t' → Together s v t t'
run-together s v t t' h k r =
    let a = first_step s v t (r t (omega arith) h) in
    let i = interval-at s v t (omega arith) (r t (omega arith) h) in
    let b = last_step s v t (steps s - t) (r t (omega arith) h) in
    (first_of s v t, last_of s v t (steps s - t), i, a.soon, b.late, omega (arith, a.soon), far b.no_longer b.late)
  where
    far : (last_of s v t (steps s - t) ≡ t + (steps s - t)) ⊎ (freeb s v (last_of s v t (steps s - t) + 1) ≡ false) → t ≤ last_of s v t (steps s - t) → t' ≤ last_of s v t (steps s - t)
    far (inl e) l = omega (arith, e)
    far (inr e) l = go (leb t' (last_of s v t (steps s - t))) refl
      where
        go : (x : Bool) → leb t' (last_of s v t (steps s - t)) ≡ x → t' ≤ last_of s v t (steps s - t)
        go true f = leb-true t' (last_of s v t (steps s - t)) f
        go false f =
            let m : last_of s v t (steps s - t) < t' = leb-false t' (last_of s v t (steps s - t)) f in
            absurd (true≢false (sym (r (last_of s v t (steps s - t) + 1) (omega arith) (omega arith)) ∙ e))

pub together-is : (s : Sheet) (v t t' : ℕ) → t ≤ t' → t' ≤ steps s → Together s v t t' ↔ Run s v t t'
together-is s v t t' h k = (together-run s v t t', run-together s v t t' h k)

-- the list of a place's safe intervals
steps-mem : (n t : ℕ) → t ≤ n → t ∈ steps_to n
steps-mem zero t h = inl (omega arith)
steps-mem (suc n) t h = go (leb t n) refl (steps-mem n t)
  where
    go : (b : Bool) → leb t n ≡ b → (t ≤ n → t ∈ steps_to n) → t ∈ (steps_to n ++ (suc n ∷ []))
    go true e f = mem-left t (steps_to n) (suc n ∷ []) (f (leb-true t n e))
    go false e f = mem-right t (steps_to n) (suc n ∷ []) (inl (omega (arith, leb-false t n e)))

mem-steps : (n t : ℕ) → t ∈ steps_to n → t ≤ n
mem-steps zero t (inl e) = omega arith
mem-steps zero t (inr nowhere) = elim nowhere [ ]
mem-steps (suc n) t m = go (mem-steps n t) (mem-append t (steps_to n) (suc n ∷ []) m)
  where
    go : (t ∈ steps_to n → t ≤ n) → t ∈ steps_to n ⊎ t ∈ (suc n ∷ []) → t ≤ suc n
    go f (inl k) = omega (arith, f k)
    go f (inr (inl e)) = omega arith
    go f (inr (inr nowhere)) = elim nowhere [ ]

abbrev span_at : Sheet → ℕ → ℕ → Span
span_at s v t = record { first_step = t; last_step = last_of s v t (steps s - t) }

pub intervals-are : (s : Sheet) (v : ℕ) (x : Span) → x ∈ intervals_of s v → Interval s v x.first_step x.last_step
unfolding intervals_of beginsb
intervals-are s v x m =
    let r = map-mem (span_at s v) x (filter (beginsb s v) (steps_to (steps s))) m in
    let f = filter-mem (beginsb s v) r.0 (steps_to (steps s)) r.1 in
    let q = and-true (freeb s v r.0) (eqb (first_of s v r.0) r.0) f.1 in
    let i = interval-at s v r.0 (mem-steps (steps s) r.0 f.0) q.0 in
    subst (λ (y : Span). Interval s v y.first_step y.last_step) (sym r.2)
    (subst (λ (a : ℕ). Interval s v a (last_of s v r.0 (steps s - r.0))) (eqb-true (first_of s v r.0) r.0 q.1) i)

pub are-intervals : (s : Sheet) (v : ℕ) (x : Span) → Interval s v x.first_step x.last_step → x ∈ intervals_of s v
unfolding intervals_of beginsb
are-intervals s v x i =
    let a = x.first_step in
    let f : Free s v a = i.free a (omega arith) i.ordered in
    let h : a ≤ steps s = omega (arith, i.ordered, i.within) in
    let j = interval-at s v a h f in
    let l = last_step s v a (steps s - a) f in
    let k = first_step s v a f in
    let e = interval-once s v (first_of s v a) (last_of s v a (steps s - a)) a x.last_step a j i k.soon l.late (omega arith) i.ordered in
    let y : x ≡ span_at s v a = span-path x (span_at s v a) refl (sym e.1) in
    subst (λ (z : Span). z ∈ map (span_at s v) (filter (beginsb s v) (steps_to (steps s)))) (sym y)
    (mem-map (span_at s v) a (filter (beginsb s v) (steps_to (steps s))) (mem-filter (beginsb s v) a (steps_to (steps s)) (steps-mem (steps s) a h) (true-and (freeb s v a) (eqb (first_of s v a) a) f (eq-eqb _ _ e.0))))
  where
    span-path : (x y : Span) → x.first_step ≡ y.first_step → x.last_step ≡ y.last_step → x ≡ y
    span-path x y p q = λ i. record { first_step = p i; last_step = q i }
