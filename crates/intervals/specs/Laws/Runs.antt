-- Safe intervals as runs of free steps. Where two steps are in one safe interval the place is free at every step between them; the other laws of safe
-- intervals are in proofs/Runs.antt. `since_of` is at most the step exactly where the place is free, one and the same over a run, and at most a step exactly
-- where the run reaches back to it.
use Rattle.std.specs.Prelude.{◌≡◌, refl, ◌↔◌, ◌⊎◌, ◌≢◌, Bool, true, false, ℕ, zero, suc, ◌+◌, ◌-◌, ◌≤◌, ◌<◌, eqb, leb}
use Rattle.std.proofs.Common.{sym, ◌∙◌, inl, inr, true≢false, arith, eqb-true, leb-true, leb-false, le-leb}
use Rattle.std.proofs.lemmas.Bool.{eqb-false}
use Rattle.sheet.specs.Lists.{pick}
use Rattle.sheet.specs.Sheet.{Sheet, steps}
use Rattle.sheet.specs.Laws.Order.{and-true, true-and}
use Rattle.intervals.specs.Intervals.{freeb, Free, Run, Together}
use Rattle.intervals.specs.Computed.{runb, stayb, first_of, last_of, since_of}

pub run-one : (s : Sheet) (v t : ℕ) → Free s v t → Run s v t t
run-one s v t f i p q = let e : i ≡ t = omega arith in rw e f

pub run_join : (s : Sheet) (v a b c : ℕ) → Run s v a b → Run s v b c → Run s v a c
run_join s v a b c p q i x y = go (leb i b) refl
  where
    go : (t : Bool) → leb i b ≡ t → Free s v i
    go true e = p i x (leb-true i b e)
    go false e = q i (omega (arith, leb-false i b e)) y

-- a step more, before or after
run_on : (s : Sheet) (v a t : ℕ) → Run s v a t → Free s v (suc t) → Run s v a (suc t)
run_on s v a t w f i x y = go (eqb i (suc t)) refl
  where
    go : (b : Bool) → eqb i (suc t) ≡ b → Free s v i
    go true h = rw (eqb-true i (suc t) h) f
    go false h = let n : i ≢ suc t = eqb-false i (suc t) h in w i x (omega arith)

run-back : (s : Sheet) (v t b : ℕ) → Free s v t → Run s v (suc t) b → Run s v t b
run-back s v t b f w i x y = go (eqb i t) refl
  where
    go : (c : Bool) → eqb i t ≡ c → Free s v i
    go true h = rw (eqb-true i t h) f
    go false h = let n : i ≢ t = eqb-false i t h in w i (omega arith) y

-- the first step of the run that holds t
pub record FirstStep (s : Sheet) (v t a : ℕ) : Type 0 where
  pub soon : a ≤ t
  pub run : Run s v a t
  pub no-sooner : (a ≡ 0) ⊎ (freeb s v (a - 1) ≡ false)

pub first_step : (s : Sheet) (v t : ℕ) → Free s v t → FirstStep s v t (first_of s v t)
unfolding first_of
first_step s v zero f = record { soon = omega arith; run = run-one s v 0 f; no-sooner = inl refl }
first_step s v (suc t) f = go (freeb s v t) refl (first_step s v t)
  where
    go : (b : Bool) → freeb s v t ≡ b → (Free s v t → FirstStep s v t (first_of s v t)) → FirstStep s v (suc t) (pick b (first_of s v t) (suc t))
    go true e r =
        let q = r e in
        record { soon = omega (arith, q.soon); run = run_on s v (first_of s v t) t q.run f; no-sooner = q.no-sooner }
    go false e r =
        let h : suc t - 1 ≡ t = omega arith in
        record { soon = omega arith; run = run-one s v (suc t) f; no-sooner = inr (rw h e) }

-- the last step of the run that holds t, of at most n steps more
pub record LastStep (s : Sheet) (v t n b : ℕ) : Type 0 where
  pub late : t ≤ b
  pub within : b ≤ t + n
  pub run : Run s v t b
  pub no_longer : (b ≡ t + n) ⊎ (freeb s v (b + 1) ≡ false)

pub last_step : (s : Sheet) (v t n : ℕ) → Free s v t → LastStep s v t n (last_of s v t n)
unfolding last_of
last_step s v t zero f = record { late = omega arith; within = omega arith; run = run-one s v t f; no_longer = inl (omega arith) }
last_step s v t (suc n) f = go (freeb s v (suc t)) refl (last_step s v (suc t) n)
  where
    longer : (b : ℕ) → (b ≡ suc t + n) ⊎ (freeb s v (b + 1) ≡ false) → (b ≡ t + suc n) ⊎ (freeb s v (b + 1) ≡ false)
    longer b (inl e) = inl (omega arith)
    longer b (inr h) = inr h

    go : (c : Bool) → freeb s v (suc t) ≡ c → (Free s v (suc t) → LastStep s v (suc t) n (last_of s v (suc t) n)) → LastStep s v t (suc n) (pick c (last_of s v (suc t) n) t)
    go true e r =
        let q = r e in
        record {
          late = omega (arith, q.late);
          within = omega (arith, q.within);
          run = run-back s v t (last_of s v (suc t) n) f q.run;
          no_longer = longer (last_of s v (suc t) n) q.no_longer;
        }
    go false e r =
        let h : t + 1 ≡ suc t = omega arith in
        record { late = omega arith; within = omega arith; run = run-one s v t f; no_longer = inr (rw h e) }

-- where two steps are in one safe interval, all between are free
pub together-run : (s : Sheet) (v t t' : ℕ) → Together s v t t' → Run s v t t'
together-run s v t t' h i p q = h.2.free i (omega (arith, h.3)) (omega (arith, h.6))

pub together-within : (s : Sheet) (v t t' : ℕ) → Together s v t t' → t' ≤ steps s
together-within s v t t' h = omega (arith, h.2.within, h.6)

pub runb-true : (s : Sheet) (v t n : ℕ) → runb s v t n ≡ true → Run s v t (t + n)
runb-true s v t zero h i p q = let e : i ≡ t = omega arith in rw e h
runb-true s v t (suc n) h i p q = go (runb-true s v (suc t) n (and-true (freeb s v t) (runb s v (suc t) n) h).1) (eqb i t) refl
  where
    go : Run s v (suc t) (suc t + n) → (b : Bool) → eqb i t ≡ b → Free s v i
    go r true e = rw (eqb-true i t e) (and-true (freeb s v t) (runb s v (suc t) n) h).0
    go r false e = let d : i ≢ t = eqb-false i t e in r i (omega arith) (omega arith)

pub run-runb : (s : Sheet) (v t n : ℕ) → Run s v t (t + n) → runb s v t n ≡ true
run-runb s v t zero r = r t (omega arith) (omega arith)
run-runb s v t (suc n) r =
    true-and (freeb s v t) (runb s v (suc t) n) (r t (omega arith) (omega arith)) (run-runb s v (suc t) n (λ i p q. r i (omega arith) (omega arith)))

pub stayb-true : (s : Sheet) (v last n t : ℕ) → stayb s v last n t ≡ true → (t + n ≤ last) × Run s v t (t + n)
unfolding stayb
stayb-true s v last n t h = let q = and-true (leb (t + n) last) (runb s v t n) h in (leb-true (t + n) last q.0, runb-true s v t n q.1)

pub stays-stayb : (s : Sheet) (v last n t : ℕ) → t + n ≤ last → Run s v t (t + n) → stayb s v last n t ≡ true
unfolding stayb
stays-stayb s v last n t h r = true-and (leb (t + n) last) (runb s v t n) (le-leb (t + n) last h) (run-runb s v t n r)

-- no run that ends at t begins before the first step
pub first-least : (s : Sheet) (v a t : ℕ) → a ≤ t → Run s v a t → first_of s v t ≤ a
first-least s v a t h r = go (leb (first_of s v t) a) refl
  where
    q : FirstStep s v t (first_of s v t)
    q = first_step s v t (r t h (omega arith))

    sooner : a < first_of s v t → (first_of s v t ≡ 0) ⊎ (freeb s v (first_of s v t - 1) ≡ false) → ⊥
    sooner l (inl e) = omega arith
    sooner l (inr e) = true≢false (sym (r (first_of s v t - 1) (omega arith) (omega (arith, q.soon))) ∙ e)

    go : (b : Bool) → leb (first_of s v t) a ≡ b → first_of s v t ≤ a
    go true e = leb-true (first_of s v t) a e
    go false e = absurd (sooner (leb-false (first_of s v t) a e) q.no-sooner)

pub first-same : (s : Sheet) (v a t : ℕ) → a ≤ t → Run s v a t → first_of s v a ≡ first_of s v t
first-same s v a t h r =
    let q = first_step s v t (r t h (omega arith)) in
    let p = first_step s v a (r a (omega arith) h) in
    let l = first-least s v a t h r in
    let x = first-least s v (first_of s v t) a l (λ i m n. q.run i m (omega arith)) in
    let y = first-least s v (first_of s v a) t (omega (arith, p.soon)) (run_join s v (first_of s v a) a t p.run r) in
    omega arith

-- the first step where the place is free, and 256 where it is occupied
pub since-first : (s : Sheet) (v t : ℕ) → Free s v t → since_of s v t ≡ first_of s v t
unfolding since_of
since-first s v t f = rw f

pub since-occupied : (s : Sheet) (v t : ℕ) → freeb s v t ≡ false → since_of s v t ≡ 256
unfolding since_of
since-occupied s v t f = rw f

pub free-since : (s : Sheet) (v t : ℕ) → Free s v t → since_of s v t ≤ t
free-since s v t f = omega (arith, since-first s v t f, (first_step s v t f).soon)

pub since-free : (s : Sheet) (v t : ℕ) → t ≤ 255 → since_of s v t ≤ t ↔ Free s v t
since-free s v t h = (λ l. go l (freeb s v t) refl, free-since s v t)
  where
    go : since_of s v t ≤ t → (b : Bool) → freeb s v t ≡ b → Free s v t
    go l true f = f
    go l false f = absurd (omega (arith, since-occupied s v t f))

-- the run that holds t reaches back to a exactly where the first step is not after a
pub since-run : (s : Sheet) (v a t : ℕ) → t ≤ 255 → a ≤ t → since_of s v t ≤ a ↔ Run s v a t
since-run s v a t h k = (λ l. back l ((since-free s v t h).0 (omega arith)), λ r. omega (arith, since-first s v t (r t k (omega arith)), first-least s v a t k r))
  where
    back : since_of s v t ≤ a → Free s v t → Run s v a t
    back l f i m n = (first_step s v t f).run i (omega (arith, since-first s v t f)) n

-- it is the same over a run
pub since-same : (s : Sheet) (v a t : ℕ) → a ≤ t → Run s v a t → since_of s v a ≡ since_of s v t
since-same s v a t h r =
    since-first s v a (r a (omega arith) h) ∙ first-same s v a t h r ∙ sym (since-first s v t (r t h (omega arith)))
