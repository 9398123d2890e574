-- A place is free at a step where no line of the sheet occupies it, and occupied everywhere else.
use Rattle.std.specs.Prelude.{◌≡◌, refl, ◌↔◌, Bool, true, false, not, ◌&&◌, List, [], ◌∷◌, ℕ, ◌≤◌, leb, eqb}
use Rattle.std.proofs.Common.{sym, ◌∙◌, inl, inr, true≢false, eqb-true, eq-eqb, leb-true, le-leb}
use Rattle.std.proofs.lemmas.Bool.{not-true}
use Rattle.sheet.specs.Lists.{◌∈◌, all}
use Rattle.sheet.specs.Sheet.{Sheet, place_of, first, last}
use Rattle.sheet.specs.Laws.Order.{and-true, true-and}
use Rattle.sheet.specs.Laws.Members.{all_true}
use Rattle.intervals.specs.Intervals.{occupiesb, freeb, Free}

-- an O line of the sheet occupies place v at step t
pub record Occupied (s : Sheet) (v t : ℕ) : Type 0 where
  pub line : List ℕ
  pub listed : line ∈ s.occupancies
  pub there : place_of line ≡ v
  pub begun : first line ≤ t
  pub lasts : t ≤ last line

-- the line o occupies place v at step t
pub record Occupies (v t : ℕ) (o : List ℕ) : Type 0 where
  pub there : place_of o ≡ v
  pub begun : first o ≤ t
  pub lasts : t ≤ last o

pub occupiesb-true : (v t : ℕ) (o : List ℕ) → occupiesb v t o ≡ true → Occupies v t o
unfolding occupiesb
occupiesb-true v t o h =
    let p = and-true (eqb (place_of o) v && leb (first o) t) (leb t (last o)) h in
    let q = and-true (eqb (place_of o) v) (leb (first o) t) p.0 in
    record { there = eqb-true _ _ q.0; begun = leb-true _ _ q.1; lasts = leb-true _ _ p.1 }

pub occupies-occupiesb : (v t : ℕ) (o : List ℕ) → Occupies v t o → occupiesb v t o ≡ true
unfolding occupiesb
occupies-occupiesb v t o h =
    true-and (eqb (place_of o) v && leb (first o) t) (leb t (last o))
    (true-and (eqb (place_of o) v) (leb (first o) t) (eq-eqb _ _ h.there) (le-leb _ _ h.begun)) (le-leb _ _ h.lasts)

-- a test that fails for some member
fails-some : (p : List ℕ → Bool) (l : List (List ℕ)) → all (λ o. not (p o)) l ≡ false → (o : List ℕ) × (o ∈ l) × (p o ≡ true)
fails-some p [] h = absurd (true≢false h)
fails-some p (x ∷ l) h = go (p x) refl h (fails-some p l)
  where
    go : (b : Bool) → p x ≡ b → not b && all (λ o. not (p o)) l ≡ false → (all (λ o. not (p o)) l ≡ false → (o : List ℕ) × (o ∈ l) × (p o ≡ true)) → (o : List ℕ) × (o ∈ (x ∷ l)) × (p o ≡ true)
    go true e q f = (x, inl refl, e)
    go false e q f = let r = f q in (r.0, inr r.1, r.2)

pub not_free : (s : Sheet) (v t : ℕ) → freeb s v t ≡ false → Occupied s v t
unfolding freeb
not_free s v t h =
    let r = fails-some (occupiesb v t) s.occupancies h in
    let o = occupiesb-true v t r.0 r.2 in
    record { line = r.0; listed = r.1; there = o.there; begun = o.begun; lasts = o.lasts }

pub occupied-not-free : (s : Sheet) (v t : ℕ) → Occupied s v t → freeb s v t ≡ false
unfolding freeb
occupied-not-free s v t o = go (freeb s v t) refl
  where
    go : (b : Bool) → freeb s v t ≡ b → freeb s v t ≡ false
    go false e = e
    go true e =
        absurd (true≢false (sym (occupies-occupiesb v t o.line (record { there = o.there; begun = o.begun; lasts = o.lasts })) ∙ not-true (occupiesb v t o.line) (all_true (λ o. not (occupiesb v t o)) s.occupancies e o.line o.listed)))

pub free-is : (s : Sheet) (v t : ℕ) → Free s v t ↔ (Occupied s v t → ⊥)
free-is s v t = (λ h o. true≢false (sym h ∙ occupied-not-free s v t o), λ h. go h (freeb s v t) refl)
  where
    go : (Occupied s v t → ⊥) → (b : Bool) → freeb s v t ≡ b → Free s v t
    go n true e = e
    go n false e = absurd (n (not_free s v t e))
