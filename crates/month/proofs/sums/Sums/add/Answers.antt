-- `month::sums::Sums::add` meets its contract. Assumes nothing.
use Rattle.std.specs.Prelude.{◌≡◌, refl, Bool, true, false, ℕ, ◌+◌, leb, min, max}
use Rattle.std.proofs.Common.{rules, arith, ◌∙◌, ap, leb-true, leb-false}
use Rattle.sheet.specs.Lists.{pick}
use Rattle.costs.specs.Costs.{fig}
use Rattle.costs.specs.Laws.Figures.{stored-all}
use Rattle.month.specs.Inner.{better, above}
use Rattle.month.proofs.Holding.{stepped-more, summed-small}
use Rattle.month.proofs.sums.Sums.add.Goals as goal

-- the lesser and the greater of two numbers, as the definitions have them
least_is : (a b : ℕ) → min a b ≡ better leb a b
least_is a b = go (leb a b) refl
  where
    go : (t : Bool) → leb a b ≡ t → min a b ≡ pick t a b
    go true e = let h = leb-true a b e in omega arith
    go false e = let h = leb-false a b e in omega arith

greatest_is : (a b : ℕ) → max a b ≡ better above a b
greatest_is a b = go (leb b a) refl
  where
    go : (t : Bool) → leb b a ≡ t → max a b ≡ pick t a b
    go true e = let h = leb-true b a e in omega arith
    go false e = let h = leb-false b a e in omega arith

pub overflow_add-self : goal.overflow_add-self
overflow_add-self c =
    let l = c.loop-i in
    let small = summed-small c.requires.0 l.i (search rules) in
    let few = c.requires.1.every l.i in
    let same = l.invariant.totals.rest l.i (omega arith) in
    search rules

pub loop-i-preserved : goal.loop-i-preserved
loop-i-preserved c =
    let l = c.loop-i in
    let i = l.i in
    let v = l.invariant in
    let x = c.args.c in
    record {
      totals = stepped-more _ _ i l.self.totals _ c.loop-i-test.true (ap (λ (k : ℕ). k + fig x i) (v.totals.rest i (omega arith))) v.totals;
      leasts = stepped-more _ _ i l.self.leasts _ c.loop-i-test.true (c.min.ensures ∙ least_is _ _ ∙ ap (λ (k : ℕ). better leb k (fig x i)) (v.leasts.rest i (omega arith))) v.leasts;
      greatests = stepped-more _ _ i l.self.greatests _ c.loop-i-test.true (c.max.ensures ∙ greatest_is _ _ ∙ ap (λ (k : ℕ). better above k (fig x i)) (v.greatests.rest i (omega arith))) v.greatests;
    }

pub returns : goal.returns
returns c =
    let l = c.loop-i in
    record {
      totals-are = stored-all 3 _ l.i _ (omega arith) l.invariant.totals.stored;
      leasts-are = stored-all 3 _ l.i _ (omega arith) l.invariant.leasts.stored;
      greatests-are = stored-all 3 _ l.i _ (omega arith) l.invariant.greatests.stored;
    }
