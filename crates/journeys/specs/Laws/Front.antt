-- Laws of the front. The list `front` holds exactly the front costs, ascending; at or below every lawful journey's cost there is one of them (a
-- minimal cost under dominance, found in the list of all); it is empty exactly when there is no lawful journey; and two sheets have one front
-- exactly when they meet the same allowances.
use Rattle.std.specs.Prelude.{◌≡◌, refl, ◌↔◌, ◌⊎◌, Bool, true, false, not, List, [], ◌∷◌, length}
use Rattle.std.proofs.Common.{sym, ◌∙◌, ap, subst, inl, inr, true≢false}
use Rattle.std.proofs.lemmas.Bool.{not-true}
use Rattle.sheet.specs.Lists.{◌∈◌}
use Rattle.sheet.specs.Sorting.{Ascending, sortUnique}
use Rattle.sheet.specs.Sheet.{Sheet}
use Rattle.sheet.specs.Laws.Members.{filter-mem, mem-filter, all_true, true-all, least-below, Least}
use Rattle.sheet.specs.Laws.Ascending.{sort_unique-mem, mem-sort_unique, sort_unique-ascending, filter-ascending, ascending-unique}
use Rattle.costs.specs.Costs.{Cost, figures, AtMost, Dominates}
use Rattle.costs.specs.Computed.{dominatesb}
use Rattle.costs.specs.Laws.Figures.{dominatesb-true, dominates-dominatesb, dominates?, dominates-trans, dominates-irrefl, at-most-dominates, at-most-refl, at-most-trans, at-most-antisym, undominated-same}
use Rattle.journeys.specs.Journeys.{HasCost, Meets}
use Rattle.journeys.specs.Front.{OnFront}
use Rattle.journeys.specs.Computed.{self, undominatedb, front_of, front}
use Rattle.journeys.specs.Laws.Journeys.{costs, costs-has, has-costs, has-three}

-- the front of a list of costs: its members that no member dominates
pub record Undominated (l : List Cost) (g : Cost) : Type 0 where
  pub member : g ∈ l
  pub none : (h : Cost) → h ∈ l → Dominates h g → ⊥

pub front_of-is : (l : List Cost) (g : Cost) → g ∈ front_of l → Undominated l g
unfolding front_of
front_of-is l g m =
    let f = filter-mem (undominatedb (sortUnique self l)) g (sortUnique self l) m in
    record {
      member = sort_unique-mem self g l f.0;
      none = λ h n d. true≢false (sym (dominates-dominatesb h g d) ∙ not-true (dominatesb h g) (all_true (λ h. not (dominatesb h g)) (sortUnique self l) f.1 h (mem-sort_unique self (λ a b e. e) h l n)));
    }

pub is-front_of : (l : List Cost) (g : Cost) → Undominated l g → g ∈ front_of l
unfolding front_of
is-front_of l g o =
    mem-filter (undominatedb (sortUnique self l)) g (sortUnique self l) (mem-sort_unique self (λ a b e. e) g l o.member)
    (true-all (λ h. not (dominatesb h g)) (sortUnique self l) (λ h m. clear h (sort_unique-mem self h l m) (dominatesb h g) refl))
  where
    clear : (h : Cost) → h ∈ l → (b : Bool) → dominatesb h g ≡ b → not (dominatesb h g) ≡ true
    clear h j true e = absurd (o.none h j (dominatesb-true h g e))
    clear h j false e = ap not e

pub front_of-ascending : (l : List Cost) → Ascending self (front_of l)
unfolding front_of
front_of-ascending l = filter-ascending self (undominatedb (sortUnique self l)) (sortUnique self l) (sort_unique-ascending self l)

pub front-on : (s : Sheet) (g : Cost) → g ∈ front s → OnFront s g
unfolding front
front-on s g m =
    let f = front_of-is (costs s) g m in
    record { has = costs-has s g f.member; undominated = λ h j d. f.none h (has-costs s h j) d }

pub on-front : (s : Sheet) (g : Cost) → OnFront s g → g ∈ front s
unfolding front
on-front s g o = is-front_of (costs s) g (record { member = has-costs s g o.has; none = λ h m d. o.undominated h (costs-has s h m) d })

pub front-ascending : (s : Sheet) → Ascending self (front s)
unfolding front
front-ascending s = front_of-ascending (costs s)

-- at or below every lawful journey's cost there is a front cost
pub record FrontBelow (s : Sheet) (g : Cost) : Type 0 where
  pub cost : Cost
  pub on : OnFront s cost
  pub le : AtMost cost g

pub front_below : (s : Sheet) (g : Cost) → HasCost s g → FrontBelow s g
front_below s g j = go (least-below Dominates dominates? dominates-irrefl dominates-trans (costs s) g)
  where
    go : Least Dominates dominates? dominates-irrefl dominates-trans (costs s) g → FrontBelow s g
    go r = pick r.below
      where
        on : HasCost s r.least → OnFront s r.least
        on h = record { has = h; undominated = λ x k d. r.none_below x (has-costs s x k) d }

        pick : (r.least ≡ g) ⊎ ((r.least ∈ costs s) × Dominates r.least g) → FrontBelow s g
        pick (inl e) = record { cost = r.least; on = on (rw e j); le = rw e (at-most-refl g) }
        pick (inr m) = record { cost = r.least; on = on (costs-has s r.least m.0); le = m.1.at_most }

-- two sheets have one front where they meet the same allowances, and only there
same_meets : (s₁ s₂ : Sheet) → front s₁ ≡ front s₂ → (a : Cost) → Meets s₁ a → Meets s₂ a
same_meets s₁ s₂ e a m =
    let r = front_below s₁ m.cost m.has in
    let n : r.cost ∈ front s₂ = subst (λ (l : List Cost). r.cost ∈ l) e (on-front s₁ r.cost r.on) in
    record { cost = r.cost; has = (front-on s₂ r.cost n).has; within = at-most-trans r.cost m.cost a r.le m.within }

itself : (s : Sheet) (g : Cost) → HasCost s g → Meets s g
itself s g h = record { cost = g; has = h; within = at-most-refl g }

front-into : (s₁ s₂ : Sheet) → ((a : Cost) → length a ≡ figures → Meets s₁ a ↔ Meets s₂ a) → (g : Cost) → OnFront s₁ g → OnFront s₂ g
front-into s₁ s₂ f g o =
    let l : length g ≡ figures = has-three s₁ g o.has in
    let a = (f g l).0 (itself s₁ g o.has) in
    let l' : length a.cost ≡ figures = has-three s₂ a.cost a.has in
    let b = (f a.cost l').1 (itself s₂ a.cost a.has) in
    let e : b.cost ≡ g = undominated-same b.cost g (has-three s₁ b.cost b.has ∙ sym l) (at-most-trans b.cost a.cost g b.within a.within) (o.undominated b.cost b.has) in
    let q : a.cost ≡ g = at-most-antisym a.cost g (l' ∙ sym l) a.within (subst (λ (x : Cost). AtMost x a.cost) e b.within) in
    record { has = subst (HasCost s₂) q a.has; undominated = none }
  where
    none : (h : Cost) → HasCost s₂ h → Dominates h g → ⊥
    none h k d =
        let b = (f h (has-three s₂ h k)).1 (itself s₂ h k) in
        o.undominated b.cost b.has (at-most-dominates b.cost h g b.within d)

pub same-front : (s₁ s₂ : Sheet) → (front s₁ ≡ front s₂) ↔ ((a : Cost) → length a ≡ figures → Meets s₁ a ↔ Meets s₂ a)
same-front s₁ s₂ = (
  λ e a l. (same_meets s₁ s₂ e a, same_meets s₂ s₁ (sym e) a),
  λ f. ascending-unique self (front s₁) (front s₂) (front-ascending s₁) (front-ascending s₂)
      (λ g m. on-front s₂ g (front-into s₁ s₂ f g (front-on s₁ g m)))
      (λ g m. on-front s₁ g (front-into s₂ s₁ (λ a l. ((f a l).1, (f a l).0)) g (front-on s₂ g m))),
)

-- the front is empty exactly when no lawful journey exists
pub front-empty : (s : Sheet) → (front s ≡ []) ↔ ((g : Cost) → HasCost s g → ⊥)
front-empty s = (λ e g h. (let r = front_below s g h in subst (λ (l : List Cost). r.cost ∈ l) e (on-front s r.cost r.on)), λ n. none (front s) (λ g m. n g (front-on s g m).has))
  where
    none : (l : List Cost) → ((g : Cost) → g ∈ l → ⊥) → l ≡ []
    none [] f = refl
    none (g ∷ l) f = absurd (f g (inl refl))
