-- W lines in their turn (document 02, E8): the laws of specs/Laws/Turns.antt that rest on what `waiting` says. Lines that pass test 3 have the places of their
-- W lines one after another, no more of them than places; and lines of waits with the places one after another pass it, as other lines do once none is
-- still to come.
-- Assumes nothing.
use Rattle.std.specs.Prelude.{◌≡◌, refl, ◌≢◌, Bool, true, false, not, ◌&&◌, ◌||◌, List, [], ◌∷◌, ◌++◌, ℕ, ◌+◌, ◌≤◌, ◌<◌, ltb, eqb, length}
use Rattle.std.proofs.Common.{sym, ◌∙◌, ap, subst, arith, ltb-true, lt-ltb, eq-eqb, eqb-true}
use Rattle.std.proofs.lemmas.Bool.{eqb-false, not-false}
use Rattle.sheet.specs.Lists.{number, any}
use Rattle.sheet.specs.Kinds.{Kind, kind_w}
use Rattle.sheet.specs.Lines.{Line, line}
use Rattle.sheet.specs.Sheet.{place_of, group, head_in, waiting, out_of_turn}
use Rattle.sheet.specs.Valid.{Turned}
use Rattle.sheet.specs.Laws.Order.{and-true}
use Rattle.sheet.specs.Laws.Judge.{Passes}
use Rattle.sheet.specs.Laws.Passed.{or-false, fault-passed}
use Rattle.sheet.specs.Laws.Groups.{is_kind}
use Rattle.sheet.specs.Laws.Turns.{wait_count, other-turn, wait-more, wait-same, InTurn, Turns}

-- a W line in its turn is the next place's, and any other stands where none is still to come
module _ (before : List Line) (l : Line) where
  pub wait-turn : l.kind.order ≡ kind_w.order → out_of_turn before l ≡ false
      → (wait_count before < number (head_in before) 0) × (place_of l.numbers ≡ wait_count before)
  wait-turn k e =
      let f : not (waiting before && eqb (place_of l.numbers) (wait_count before)) ≡ false = rw (eq-eqb l.kind.order kind_w.order k) at e in
      let r = and-true (waiting before) (eqb (place_of l.numbers) (wait_count before)) (not-false (waiting before && eqb (place_of l.numbers) (wait_count before)) f) in
      (ltb-true (wait_count before) (number (head_in before) 0) r.0, eqb-true (place_of l.numbers) (wait_count before) r.1)

  pub turn-wait : l.kind.order ≡ kind_w.order → wait_count before < number (head_in before) 0 → place_of l.numbers ≡ wait_count before
      → out_of_turn before l ≡ false
  turn-wait k h e =
      rw (eq-eqb l.kind.order kind_w.order k, lt-ltb (wait_count before) (number (head_in before) 0) h, eq-eqb (place_of l.numbers) (wait_count before) e)

pub passes-turned : (m : Line) (before ls : List Line) → Passes (m ∷ before) ls → InTurn (m ∷ before) ls
passes-turned m before [] p = record { turned = tt; few = λ h. omega arith }
passes-turned m before (x ∷ ls) p = go (is_kind kind_w x) refl (passes-turned m (before ++ (x ∷ [])) ls p.1)
  where
    turn : out_of_turn (m ∷ before) x ≡ false
    turn =
        (or-false (eqb x.kind.order 0 || any (λ k. ltb x.kind.order k.kind.order) (m ∷ before)) (out_of_turn (m ∷ before) x)
        (fault-passed (m ∷ before) x p.0).placed).1

    go : (b : Bool) → is_kind kind_w x ≡ b → InTurn (m ∷ (before ++ (x ∷ []))) ls → InTurn (m ∷ before) (x ∷ ls)
    go true q r =
        let k = eqb-true x.kind.order kind_w.order q in
        let t = wait-turn (m ∷ before) x k turn in
        let e = wait-more (m ∷ before) x k in
        let o : group kind_w (x ∷ ls) ≡ x.numbers ∷ group kind_w ls = rw q in
        record {
          turned = subst (Turned (wait_count (m ∷ before))) (sym o) (t.1, subst (λ (n : ℕ). Turned n (group kind_w ls)) e r.turned);
          few = λ h. let z = r.few (omega (arith, t.0, e)) in omega (arith, e, ap length o);
        }
    go false q r =
        let k = eqb-false x.kind.order kind_w.order q in
        let e = wait-same (m ∷ before) x k in
        let o : group kind_w (x ∷ ls) ≡ group kind_w ls = rw q in
        record {
          turned = subst (Turned (wait_count (m ∷ before))) (sym o) (subst (λ (n : ℕ). Turned n (group kind_w ls)) e r.turned);
          few = λ h. let z = r.few (omega (arith, e)) in omega (arith, e, ap length o);
        }

pub waits-turn : (m : Line) (before : List Line) (ns : List (List ℕ)) → Turned (wait_count (m ∷ before)) ns
    → wait_count (m ∷ before) + length ns ≤ number (head_in (m ∷ before)) 0 → Turns (m ∷ before) kind_w ns
waits-turn m before [] t h = tt
waits-turn m before (n ∷ ns) t h =
    let e = wait-more (m ∷ before) (line kind_w n) refl in (
      turn-wait (m ∷ before) (line kind_w n) refl (omega arith) t.0,
      waits-turn m (before ++ (line kind_w n ∷ [])) ns (subst (λ (i : ℕ). Turned i ns) (sym e) t.1) (omega arith),
    )

pub others-turn : (m : Line) (before : List Line) (k : Kind) (ns : List (List ℕ)) → k.order ≢ kind_w.order → waiting (m ∷ before) ≡ false → Turns (m ∷ before) k ns
others-turn m before k [] o w = tt
others-turn m before k (n ∷ ns) o w = (
  other-turn (m ∷ before) (line k n) o ∙ w,
  others-turn m (before ++ (line k n ∷ [])) k ns o (ap (λ (c : ℕ). ltb c (number m.numbers 0)) (wait-same (m ∷ before) (line k n) o) ∙ w),
)
