-- Demand 3, one claim about what two calls of the front handed back and left in the lists that they were lent. A served list holds the front, figure
-- by figure, so equal lists are equal fronts; and two sheets have one front exactly when they meet the same allowances (Laws.Front, `same-front`).
use Rattle.std.specs.Prelude.{◌≡◌, refl, ◌↔◌, List, [], ◌∷◌, ℕ, ◌+◌, ◌*◌, ◌<◌, length, get_or}
use Rattle.std.proofs.Common.{sym, ◌∙◌, ap, subst, arith, ext_get_or}
use Rattle.sheet.specs.Lists.{◌∈◌, number}
use Rattle.sheet.specs.Sheet.{Sheet, Outcome, loaded, told, read_of}
use Rattle.costs.specs.Costs.{Cost, figures, fig}
use Rattle.journeys.specs.Journeys.{Meets}
use Rattle.journeys.specs.Computed.{front}
use Rattle.journeys.specs.Calls.{FrontEnd, front_served, front_call}
use Rattle.journeys.specs.Demand3.{SameLists, CanMeet}
use Rattle.journeys.specs.Laws.Journeys.{has-three}
use Rattle.journeys.specs.Laws.Front.{front-on, same-front}
use Rattle.journeys.specs.Laws.Served.{Served, served, member, listed}

-- the end e of a call on the sheet s: the count and the figures of the front
record Handed (s : Sheet) (e : FrontEnd) : Type 0 where
  pub counted : e.answer.costs ≡ length (front s)
  pub figured : (i j : ℕ) → i < e.answer.costs → j < figures → number e.list (i * 4 + j) ≡ fig (get_or (front s) i []) j

handed : (s : Sheet) (table list : List ℕ) (e : FrontEnd) → e ≡ front_served s table list → Handed s e
unfolding front_served
handed s table list e q = subst (Handed s) (sym q) (record { counted = refl; figured = λ i j h k. listed s table list i j h k })

-- two lists of costs are equal when their counts are and, at each number, all figures are
same-costs : (l k : List Cost) → ((g : Cost) → g ∈ l → length g ≡ figures) → ((g : Cost) → g ∈ k → length g ≡ figures)
    → length l ≡ length k → ((i : ℕ) → i < length l → (j : ℕ) → j < figures → fig (get_or l i []) j ≡ fig (get_or k i []) j) → l ≡ k
same-costs l k p q e h =
    ext_get_or [] l k e
    (λ i m. ext_get_or 0 (get_or l i []) (get_or k i []) (p (get_or l i []) (member l i m) ∙ sym (q (get_or k i []) (member k i (omega arith)))) (λ j n. h i m j (omega (arith, p (get_or l i []) (member l i m)))))

-- equal lists are equal fronts
lists-front : (s r : Sheet) (e f : FrontEnd) → Handed s e → Handed r f → SameLists e f → front s ≡ front r
lists-front s r e f u v h =
    let n : length (front s) ≡ length (front r) = sym u.counted ∙ h.counts ∙ v.counted in
    same-costs (front s) (front r) (λ g m. has-three s g (front-on s g m).has) (λ g m. has-three r g (front-on r g m).has) n
    (λ i k j l.
    let k₁ : i < e.answer.costs = omega (arith, k, u.counted) in
    let k₂ : i < f.answer.costs = omega (arith, k, n, v.counted) in
    sym (u.figured i j k₁ l) ∙ h.figures-same i j k₁ l ∙ v.figured i j k₂ l)

front_lists : (s r : Sheet) (e f : FrontEnd) → Handed s e → Handed r f → front s ≡ front r → SameLists e f
front_lists s r e f u v same =
    record {
      counts = u.counted ∙ ap length same ∙ sym v.counted;
      figures-same = λ i j k l.
          let k₂ : i < f.answer.costs = omega (arith, k, u.counted, ap (λ (x : List Cost). length x) same, v.counted) in
          u.figured i j k l ∙ ap (λ (x : List Cost). fig (get_or x i []) j) same ∙ sym (v.figured i j k₂ l);
    }

-- an allowance is three numbers
allowances : (s r : Sheet) → ((x y z : ℕ) → Meets s (x ∷ y ∷ z ∷ []) ↔ Meets r (x ∷ y ∷ z ∷ [])) → (a : Cost) → length a ≡ figures → Meets s a ↔ Meets r a
allowances s r h [] l = absurd (omega (arith, l))
allowances s r h (x ∷ []) l = absurd (omega (arith, l))
allowances s r h (x ∷ y ∷ []) l = absurd (omega (arith, l))
allowances s r h (x ∷ y ∷ z ∷ []) l = h x y z
allowances s r h (x ∷ y ∷ z ∷ t ∷ a) l = absurd (omega (arith, l))

abbrev MeetsRead : Outcome → ℕ → ℕ → ℕ → Type 0
MeetsRead o x y z = told (λ k n. ⊥) (λ s. Meets s (x ∷ y ∷ z ∷ [])) o

meets-as : (o : Outcome) (s : Sheet) → o ≡ loaded s → (x y z : ℕ) → MeetsRead o x y z ↔ Meets s (x ∷ y ∷ z ∷ [])
meets-as o s e x y z = (λ m. subst (λ (o : Outcome). MeetsRead o x y z) e m, λ m. subst (λ (o : Outcome). MeetsRead o x y z) (sym e) m)

-- For every two calls of the front, on any bytes b and c, lent any arrays, where neither is refused: the lists of costs handed back are equal exactly
-- when the two sheets can meet the same allowances. The arrays are any, so one buffer that serves both calls in turn is covered.
pub demand-3 : (b table list c table' list' : List ℕ)
    → (front_call b table list).answer.refusal ≡ 0
    → (front_call c table' list').answer.refusal ≡ 0
    → SameLists (front_call b table list) (front_call c table' list') ↔ ((x y z : ℕ) → CanMeet b x y z ↔ CanMeet c x y z)
demand-3 b table list c table' list' p q = go (served b table list p) (served c table' list' q)
  where
    e : FrontEnd
    e = front_call b table list

    f : FrontEnd
    f = front_call c table' list'

    go : Served b table list e → Served c table' list' f → SameLists e f ↔ ((x y z : ℕ) → CanMeet b x y z ↔ CanMeet c x y z)
    go u v = (forth, back)
      where
        s : Sheet
        s = u.fits.sheet

        r : Sheet
        r = v.fits.sheet

        us : Handed s e
        us = handed s table list e u.end

        vr : Handed r f
        vr = handed r table' list' f v.end

        forth : SameLists e f → (x y z : ℕ) → CanMeet b x y z ↔ CanMeet c x y z
        forth h x y z =
            let m = meets-as (read_of b) s u.fits.reads x y z in
            let n = meets-as (read_of c) r v.fits.reads x y z in
            let w = (same-front s r).0 (lists-front s r e f us vr h) (x ∷ y ∷ z ∷ []) refl in
            (λ a. n.1 (w.0 (m.0 a)), λ a. m.1 (w.1 (n.0 a)))

        back : ((x y z : ℕ) → CanMeet b x y z ↔ CanMeet c x y z) → SameLists e f
        back h =
            front_lists s r e f us vr
            ((same-front s r).1 (allowances s r (λ x y z.
            (let m = meets-as (read_of b) s u.fits.reads x y z in
            let n = meets-as (read_of c) r v.fits.reads x y z in
            (λ a. n.0 ((h x y z).0 (m.1 a)), λ a. m.0 ((h x y z).1 (n.1 a)))))))
