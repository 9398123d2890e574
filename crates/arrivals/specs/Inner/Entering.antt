-- The costs at which a place can be entered at a step from the rows so far, and the rows that lead a cost.
use Rattle.std.specs.Prelude.{◌≡◌, refl, Bool, true, List, ◌∷◌, ◌⊎◌, ℕ, ◌+◌, ◌*◌, ◌-◌, ◌≤◌, ◌<◌, length}
use Rattle.std.proofs.Common.{sym, ap, ◌∙◌, subst, inl, inr, ⊎_elim, arith}
use Rattle.std.proofs.Math.Decide.{ℕ_discrete}
use Rattle.sheet.specs.Laws.Decided.{Decided, holds, fails, lt-or-le, Any, All, there, any-cons, any-map, any-all, any-dec}
use Rattle.costs.specs.Costs.{Cost, figures, fig, add, times, AtMost}
use Rattle.costs.specs.Priced.{Within}
use Rattle.costs.specs.Computed.{at_most_b}
use Rattle.costs.specs.Laws.Figures.{fig-add, fig-times, length-add, length-times, within-times, within-add, at-most-trans}
use Rattle.arrivals.specs.Rows.{Row}
use Rattle.arrivals.specs.Inner.Facts.{at-most-decided, within_of}
use Rattle.arrivals.specs.Inner.Rows.{Bounded, rows_of}
use Rattle.arrivals.specs.Inner.Network.{Link, openb, Case, since, Vacant, Legal}
use Rattle.arrivals.specs.declared.network.Here.{Here}

-- the cost of waiting at row r until step t - 1 and crossing then, at cost c
abbrev pub reach : ℕ → Cost → Cost → Row → Cost
reach t wait c r = add (add r.cost (times (t - 1 - r.step) wait)) c

-- a cart at row r can stay where corridor l comes from until step t - 1, and then arrives with cost g
pub record Joins (k : Case) (l : Link) (t : ℕ) (g : Cost) (r : Row) : Type 0 where
  pub place : r.place ≡ l.from
  pub late : since k l.from (t - 1) ≤ r.step
  pub early : r.step < t
  pub sum : g ≡ reach t (k.wait l.from) l.cost r

-- corridor l leads into place v at step t with cost g
pub record Enters (k : Case) (rs : List Row) (v t : ℕ) (g : Cost) (l : Link) : Type 0 where
  pub into : l.to ≡ v
  pub opens : openb l (t - 1) ≡ true
  pub by : Any (Joins k l t g) rs

-- row r leads the cost g at place v and step t, where the safe interval of v at t starts at since
pub record RowLeads (v t since : ℕ) (wait g : Cost) (r : Row) : Type 0 where
  pub place : r.place ≡ v
  pub late : since ≤ r.step
  pub early : r.step ≤ t
  pub least : AtMost (add r.cost (times (t - r.step) wait)) g

-- the same where a cart stands
abbrev pub RowLeadsAt : Here → Cost → Row → Type 0
RowLeadsAt h g r = RowLeads h.place.0 h.step.0 h.since.0 h.wait g r

abbrev pub Led : List Row → ℕ → ℕ → ℕ → Cost → Cost → Type 0
Led rs v t since wait g = Any (RowLeads v t since wait g) rs

abbrev pub LedAt : List Row → Here → Cost → Type 0
LedAt rs h g = Led rs h.place.0 h.step.0 h.since.0 h.wait g

-- what leads a cost leads a greater one
pub led-up : {rs : List Row} (h : Here) (f g : Cost) → AtMost f g → LedAt rs h f → LedAt rs h g
led-up h f g l a = any-map (λ r d. record { place = d.place; late = d.late; early = d.early; least = at-most-trans _ f g d.least l }) a

-- corridor l leads from the rows of xs below a to h with cost g
abbrev pub Entry : Here → ℕ → Case → List ℕ → Cost → Link → Type 0
Entry h a k xs g l = Enters k (rows_of xs a) h.place.0 h.step.0 g l

-- h is where a cart that is at a place of the case after step 0 stands
pub record Stands (k : Case) (h : Here) : Type 0 where
  pub inside : h.place.0 < k.places
  pub first : 1 ≤ h.step.0
  pub last : h.step.0 ≤ 255
  pub vacant : Vacant k h.place.0 h.step.0
  pub since : h.since.0 ≡ since k h.place.0 h.step.0
  pub wait : h.wait ≡ k.wait h.place.0

-- g is a cost of entering v at t
pub record Cand (k : Case) (rs : List Row) (v t : ℕ) (g : Cost) : Type 0 where
  pub over : Any (Enters k rs v t g) k.links

pub record Lead (k : Case) (rs : List Row) (v t : ℕ) (g : Cost) : Type 0 where
  pub row : Led rs v t (since k v t) (k.wait v) g

-- a cost of entering v at t that no row leads
pub record Open (k : Case) (rs : List Row) (v t : ℕ) (g : Cost) : Type 0 where
  pub cand : Cand k rs v t g
  pub unled : Lead k rs v t g → ⊥

-- the step and place of one come before those of another
abbrev pub Less : ℕ → ℕ → ℕ → ℕ → Type 0
Less s u t v = (s < t) ⊎ ((s ≡ t) × (u < v))

-- before place v at step t no cost of entering a free place is left that no row leads
abbrev pub Complete : Case → List Row → ℕ → ℕ → Type 0
Complete k rs t v = (s u : ℕ) (g : Cost) → Less s u t v → 1 ≤ s → u < k.places → Vacant k u s → Cand k rs u s g → Lead k rs u s g

-- whether a row leads is decided

at-most-dec : (a b : Cost) → AtMost a b ⊎ (AtMost a b → ⊥)
at-most-dec a b = go (at-most-decided a b (at_most_b a b) refl)
  where
    go : {r : Bool} → Decided (AtMost a b) r → AtMost a b ⊎ (AtMost a b → ⊥)
    go (holds l) = inl l
    go (fails n) = inr n

leads-dec : (v t s : ℕ) (wait g : Cost) (r : Row) → RowLeads v t s wait g r ⊎ (RowLeads v t s wait g r → ⊥)
leads-dec v t s wait g r = go (ℕ_discrete r.place v) (lt-or-le r.step s) (lt-or-le t r.step) (at-most-dec (add r.cost (times (t - r.step) wait)) g)
  where
    go : Dec (r.place ≡ v) → (r.step < s) ⊎ (s ≤ r.step) → (t < r.step) ⊎ (r.step ≤ t)
        → AtMost (add r.cost (times (t - r.step) wait)) g ⊎ (AtMost (add r.cost (times (t - r.step) wait)) g → ⊥)
        → RowLeads v t s wait g r ⊎ (RowLeads v t s wait g r → ⊥)
    go (no n) b c d = inr (λ l. n l.place)
    go (yes e) (inl b) c d = inr (λ l. omega (arith, l.late))
    go (yes e) (inr b) (inl c) d = inr (λ l. omega (arith, l.early))
    go (yes e) (inr b) (inr c) (inl d) = inl (record { place = e; late = b; early = c; least = d })
    go (yes e) (inr b) (inr c) (inr d) = inr (λ l. d l.least)

pub lead-of : (k : Case) (rs : List Row) (v t : ℕ) (g : Cost) → ((Lead k rs v t g → ⊥) → ⊥) → Lead k rs v t g
lead-of k rs v t g n = ⊎_elim (λ a. record { row = a }) (λ m. absurd (n (λ l. m l.row))) (any-dec (leads-dec v t (since k v t) (k.wait v) g) rs)

pub lead-weaken : (k : Case) (rs : List Row) (v t : ℕ) (g h : Cost) → AtMost g h → Lead k rs v t g → Lead k rs v t h
lead-weaken k rs v t g h a l = record { row = any-map (λ r d. record { place = d.place; late = d.late; early = d.early; least = at-most-trans _ g h d.least a }) l.row }

pub lead_up : (k : Case) (r : Row) (rs : List Row) (v t : ℕ) (g : Cost) → Lead k rs v t g → Lead k (r ∷ rs) v t g
lead_up k r rs v t g l = record { row = there l.row }

-- a row at step t or later takes no part in entering a place at t
pub cand-down : (k : Case) (r : Row) (rs : List Row) (v t : ℕ) (g : Cost) → t ≤ r.step → Cand k (r ∷ rs) v t g → Cand k rs v t g
cand-down k r rs v t g l c =
    record { over = any-map (λ q e. record { into = e.into; opens = e.opens; by = ⊎_elim (λ j. absurd (omega (arith, j.early))) (λ a. a) (any-cons e.by) }) c.over }

pub open-down : (k : Case) (r : Row) (rs : List Row) (v t : ℕ) (g : Cost) → t ≤ r.step → Open k (r ∷ rs) v t g → Open k rs v t g
open-down k r rs v t g l o = record { cand = cand-down k r rs v t g l o.cand; unled = λ n. o.unled (lead_up k r rs v t g n) }

-- a row leads its own cost
pub self-leads : (v t s : ℕ) (wait g : Cost) → s ≤ t → RowLeads v t s wait g (record { place = v; step = t; cost = g })
self-leads v t s wait g l =
    record {
      place = refl;
      late = l;
      early = omega arith;
      least = record { every = λ i. let z : (t - t) * fig wait i ≡ 0 = ap (λ (n : ℕ). n * fig wait i) (zero-sub t) ∙ zero-times (fig wait i) in omega (arith, fig-add g (times (t - t) wait) i, fig-times (t - t) wait i) };
    }
  where
    zero-sub : (n : ℕ) → n - n ≡ 0
    zero-sub n = omega arith

    zero-times : (n : ℕ) → 0 * n ≡ 0
    zero-times n = omega arith

-- what is reached is bounded as a row is
pub reach-bounded : (v t : ℕ) (wait c : Cost) (r : Row) → Within 60000 wait → Within 60000 c → Bounded r → r.step < t → length wait ≡ figures → length c ≡ figures → Bounded (record { place = v; step = t; cost = reach t wait c r })
reach-bounded v t wait c r w k b l lw lc =
    record {
      within = within_of (60000 * r.step + (t - 1 - r.step) * 60000 + 60000) (60000 * t) refl (omega arith)
          (within-add _ _ _ _ (within-add _ _ _ _ b.within (within-times (t - 1 - r.step) 60000 wait w)) k);
      three = length-add (add r.cost (times (t - 1 - r.step) wait)) c figures (length-add r.cost (times (t - 1 - r.step) wait) figures b.three (length-times (t - 1 - r.step) wait ∙ lw)) lc;
    }

pub cand-bounded : (k : Case) (rs : List Row) (v t : ℕ) (g : Cost) → Legal k → All Bounded rs → Cand k rs v t g → Bounded (record { place = v; step = t; cost = g })
cand-bounded k rs v t g legal b c =
    any-all
    (λ l e q. any-all (λ r j br. subst (λ (x : Cost). Bounded (record { place = v; step = t; cost = x })) (sym j.sum)
    (reach-bounded v t (k.wait l.from) l.cost r (legal.waits l.from q.from) q.costs br j.early (legal.three l.from q.from) q.three)) e.by b)
    c.over legal.links

-- what the functions that seek and add rows ask of the rows below n and of where they are to stand
pub record Ready (xs : List ℕ) (n : ℕ) (h : Here) : Type 0 where
  pub room : n * 5 ≤ length xs
  pub inside : h.place.0 < 64
  pub steps : h.step.0 ≤ 255
  pub waits : Within 60000 h.wait
  pub bounded : All Bounded (rows_of xs n)

-- a row leads where a cart stands
module _ {k : Case} {rs : List Row} {g : Cost} (h : Here) (st : Stands k h) where
  pub led-lead : LedAt rs h g → Lead k rs h.place.0 h.step.0 g
  led-lead a =
      record { row = subst (λ (w : Cost). Led rs h.place.0 h.step.0 (since k h.place.0 h.step.0) w g) st.wait (subst (λ (s : ℕ). Led rs h.place.0 h.step.0 s h.wait g) st.since a) }

  pub lead-led : Lead k rs h.place.0 h.step.0 g → LedAt rs h g
  lead-led l =
      subst (λ (s : ℕ). Led rs h.place.0 h.step.0 s h.wait g) (sym st.since) (subst (λ (w : Cost). Led rs h.place.0 h.step.0 (since k h.place.0 h.step.0) w g) (sym st.wait) l.row)
