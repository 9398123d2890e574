-- Two fronts compared, by the lists as the calls returned them: demand 3 of what the comparison hands back.
-- Assumes nothing.
use mathlib.Core.Path.{◌≡◌, refl, sym, ◌∙◌, ap, subst}
use mathlib.Core.Logic.{◌↔◌, ⊎_elim}
use mathlib.Core.Bool.{Bool, true, true≢false}
use mathlib.Core.List.{List, []}
use Prim.Native.Nat.{ℕ, ◌+◌, ◌*◌, ◌-◌, ◌≤◌, ◌<◌}
use native.Mathlib.Omega.{arith}
use lib.ListN.{length, replicate, take, drop, length-append, length-drop}
use lib.Seq.{length-take-le}
use Rattle.std.proofs.lemmas.List.{get_or-take, get_or-drop, get_or_past}
use Rattle.sheet.specs.Lists.{number, bind}
use Rattle.sheet.specs.Laws.Decided.{Decided, holds, fails, lt-or-le}
use Rattle.costs.specs.Costs.{figures}
use Rattle.costs.specs.Laws.Figures.{same-figures}
use Rattle.journeys.specs.Computed.{front}
use Rattle.journeys.specs.Calls.{front_row, FrontEnd, front_end, front_served, front_call}
use Rattle.journeys.specs.Demand3.{SameLists, CanMeet, ComparedIs}
use Rattle.journeys.specs.Inner.{SameFigures, SameRows, BothSame}
use Rattle.journeys.specs.declared.FrontAnswer.{FrontAnswer}
use Rattle.journeys.specs.Laws.Served.{served, list_length}
use Rattle.journeys.specs.Laws.Demand3.{demand-3}

-- w numbers of a list from position `at` on
module _ (w at : ℕ) where
  part : (l : List ℕ) (j : ℕ) → j < w → number (take w (drop at l)) j ≡ number l (at + j)
  part l j h = get_or-take w (drop at l) j 0 h ∙ get_or-drop at l j 0

  pub parts-same : {a b : List ℕ} → w ≡ figures → take w (drop at a) ≡ take w (drop at b) → SameFigures figures a b at
  parts-same {a} {b} q e = record { every = λ j l. sym (part a j (omega (arith, q))) ∙ ap (λ (x : List ℕ). number x j) e ∙ part b j (omega (arith, q)) }

  long : (l : List ℕ) → at + w ≤ length l → length (take w (drop at l)) ≡ w
  long l h = length-take-le w (drop at l) (omega (arith, length-drop at l))

  pub same-parts : {a b : List ℕ} → w ≡ figures → at + w ≤ length a → at + w ≤ length b → SameFigures figures a b at → take w (drop at a) ≡ take w (drop at b)
  same-parts {a} {b} q h k s =
      same-figures (take w (drop at a)) (take w (drop at b)) (long a h ∙ sym (long b k))
      (λ i. ⊎_elim (λ l. part a i l ∙ s.every i (omega (arith, q)) ∙ sym (part b i l)) (λ l. get_or_past (take w (drop at a)) i 0 (omega (arith, long a h)) ∙ sym (get_or_past (take w (drop at b)) i 0 (omega (arith, long b k)))) (lt-or-le i w))

-- the costs of a served call stand in its list
pub served-room : (b table list : List ℕ) (e : FrontEnd) → e ≡ front_call b table list → e.answer.refusal ≡ 0 → e.answer.costs * 4 ≤ length e.list
unfolding front_served
served-room b table list e q z =
    let s = served b table list (sym (ap (λ (x : FrontEnd). x.answer.refusal) q) ∙ z) in
    let r = bind (front s.fits.sheet) (front_row s.fits.sheet) in
    subst (λ (x : FrontEnd). x.answer.costs * 4 ≤ length x.list) (sym (q ∙ s.end))
    (omega (arith, list_length s.fits.sheet, length-append r (replicate (length list - length r) 0)))

pub both-decided : (e f : FrontEnd) (o : Bool) → e.answer.refusal ≡ 0 → f.answer.refusal ≡ 0 → e.answer.costs ≡ f.answer.costs
    → Decided (SameRows e.answer.costs e.list f.list) o → Decided (BothSame e f) o
both-decided e f o p q c (holds h) =
    holds (p, q, record { counts = c; figures-same = λ i j k l. (h.every i k).every j l })
both-decided e f o p q c (fails n) = fails (λ h. n (record { every = λ i k. record { every = λ j l. h.2.figures-same i j k l } }))

-- the tables play no part
both-as : (x y : FrontAnswer) (t t' u u' l m : List ℕ) → BothSame (front_end x t l) (front_end y u m) → BothSame (front_end x t' l) (front_end y u' m)
both-as x y t t' u u' l m h =
    (h.0, h.1, record { counts = h.2.counts; figures-same = h.2.figures-same })

decided-is : (P : Type 0) (o : Bool) → Decided P o → (o ≡ true) ↔ P
decided-is P o (holds h) = (λ e. h, λ h. refl)
decided-is P o (fails n) = (λ e. absurd (true≢false (sym e)), λ h. absurd (n h))

module _ (b table list c table' list' : List ℕ) (x y : FrontAnswer) (t l u m : List ℕ) (o : Bool)
    (first : front_end x t l ≡ front_call b table list) (second : front_end y u m ≡ front_call c table' list')
    (d : Decided (BothSame (front_end x [] l) (front_end y [] m)) o) where
  abbrev e : FrontEnd
  e = front_end x t l

  abbrev f : FrontEnd
  f = front_end y u m

  compares : (o ≡ true) ↔ BothSame e f
  compares =
      let k = decided-is (BothSame (front_end x [] l) (front_end y [] m)) o d in
      (λ q. both-as x y [] t [] u l m (k.0 q), λ h. k.1 (both-as x y t [] u [] l m h))

  to-calls : SameLists e f → SameLists (front_call b table list) (front_call c table' list')
  to-calls h = subst (λ (g : FrontEnd). SameLists (front_call b table list) g) second (subst (λ (g : FrontEnd). SameLists g f) first h)

  of_calls : SameLists (front_call b table list) (front_call c table' list') → SameLists e f
  of_calls h = subst (λ (g : FrontEnd). SameLists e g) (sym second) (subst (λ (g : FrontEnd). SameLists g (front_call c table' list')) (sym first) h)

  demand : e.answer.refusal ≡ 0 → f.answer.refusal ≡ 0 → (o ≡ true) ↔ ((i j k : ℕ) → CanMeet b i j k ↔ CanMeet c i j k)
  demand p q =
      let p' : (front_call b table list).answer.refusal ≡ 0 = sym (ap (λ (g : FrontEnd). g.answer.refusal) first) ∙ p in
      let q' : (front_call c table' list').answer.refusal ≡ 0 = sym (ap (λ (g : FrontEnd). g.answer.refusal) second) ∙ q in
      let r = demand-3 b table list c table' list' p' q' in
      (λ z. r.0 (to-calls (compares.0 z).2), λ h. compares.1 (p, q, of_calls (r.1 h)))

  pub compared : ComparedIs b table list c table' list' (front_end x t l) (front_end y u m) o
  compared = record { first-call = first; second_call = second; compares = compares; demand = demand }
