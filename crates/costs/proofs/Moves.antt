-- Laws of closures and crossings as they are computed: a closure is found exactly where it is listed, and what leaves a place crosses. They stand here,
-- and not in specs/, so that a must-fail edit of `Closed` is refused by them and by the contracts, and not as a text that cannot be read.
-- Assumes nothing.
use Rattle.std.specs.Prelude.{◌≡◌, refl, Bool, true, false, not, ◌&&◌, List, [], ◌∷◌, ℕ, eqb}
use Rattle.std.proofs.Common.{sym, ◌∙◌, ap, subst, true≢false, eqb-true, eq-eqb}
use Rattle.std.proofs.lemmas.Bool.{not-true}
use Rattle.sheet.specs.Lists.{◌∈◌}
use Rattle.sheet.specs.Sheet.{Sheet, from, to}
use Rattle.sheet.specs.Laws.Order.{and-true, true-and}
use Rattle.sheet.specs.Laws.Members.{filter-mem, mem-filter, any-mem, mem-any}
use Rattle.costs.specs.Costs.{Cost}
use Rattle.costs.specs.Moves.{cost_of, Closed, Crossing}
use Rattle.costs.specs.Computed.{sameb, closedb, leaving}
use Rattle.costs.specs.Laws.Figures.{sameb-true, sameb-refl}

-- closures, computed
never_true : (b : Bool) → (b ≡ true → ⊥) → not b ≡ true
never_true true n = absurd (n refl)
never_true false n = refl

pub closed-closedb : (s : Sheet) (u v t : ℕ) → Closed s u v t → closedb s u v t ≡ true
closed-closedb s u v t m = mem-any (sameb (u ∷ v ∷ t ∷ [])) s.closures (u ∷ v ∷ t ∷ []) m (sameb-refl (u ∷ v ∷ t ∷ []))

pub closedb-closed : (s : Sheet) (u v t : ℕ) → closedb s u v t ≡ true → Closed s u v t
closedb-closed s u v t e =
    let r = any-mem (sameb (u ∷ v ∷ t ∷ [])) s.closures e in
    subst (λ (x : List ℕ). x ∈ s.closures) (sym (sameb-true (u ∷ v ∷ t ∷ []) r.0 r.2)) r.1

pub leaving-crossing : (s : Sheet) (u t : ℕ) (k : List ℕ) → k ∈ leaving s u t → Crossing s u (to k) t (cost_of k)
unfolding leaving
leaving-crossing s u t k m =
    let q = filter-mem (λ (k : List ℕ). eqb (from k) u && not (closedb s u (to k) t)) k s.corridors m in
    let r = and-true (eqb (from k) u) (not (closedb s u (to k) t)) q.1 in
    record { line = k; listed = q.0; leaves = eqb-true _ _ r.0; enters = refl; price = refl; opens = λ x. true≢false (sym (closed-closedb s u (to k) t x) ∙ not-true (closedb s u (to k) t) r.1) }

pub crossing-leaving : (s : Sheet) (u v t : ℕ) (c : Cost) (x : Crossing s u v t c) → x.line ∈ leaving s u t
unfolding leaving
crossing-leaving s u v t c x =
    mem-filter (λ (k : List ℕ). eqb (from k) u && not (closedb s u (to k) t)) x.line s.corridors x.listed
    (true-and (eqb (from x.line) u) (not (closedb s u (to x.line) t)) (eq-eqb _ _ x.leaves)
    (never_true (closedb s u (to x.line) t) (λ e. x.opens (closedb-closed s u v t (sym (ap (λ (w : ℕ). closedb s u w t) x.enters) ∙ e)))))
