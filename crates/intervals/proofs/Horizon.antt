-- Two sheets with one horizon, whose places are free at the same steps within it, have the same safe intervals. The law stands here, and not in specs/,
-- so that a must-fail edit of `Interval` is refused by it, and not as a text that cannot be read.
-- Assumes nothing.
use Rattle.std.specs.Prelude.{◌≡◌, refl, ◌⊎◌, Bool, true, false, ℕ, ◌+◌, ◌-◌, leb}
use Rattle.std.proofs.Common.{sym, ◌∙◌, inl, inr, arith, leb-true, leb-false}
use Rattle.sheet.specs.Sheet.{Sheet, steps}
use Rattle.intervals.specs.Intervals.{freeb, Interval}
use Rattle.intervals.specs.Laws.Horizon.{SameWithin}

pub same-interval : (s r : Sheet) → SameWithin s r → (v a b : ℕ) → Interval s v a b → Interval r v a b
same-interval s r h v a b i =
    record {
      ordered = i.ordered;
      within = omega (arith, i.within, h.horizon);
      free = λ t p q. sym (h.free v t (omega (arith, i.within))) ∙ i.free t p q;
      no-sooner = sooner i.no-sooner;
      no_longer = longer i.no_longer;
    }
  where
    sooner : (a ≡ 0) ⊎ (freeb s v (a - 1) ≡ false) → (a ≡ 0) ⊎ (freeb r v (a - 1) ≡ false)
    sooner (inl e) = inl e
    sooner (inr e) = inr (sym (h.free v (a - 1) (omega (arith, i.ordered, i.within))) ∙ e)

    longer : (b ≡ steps s) ⊎ (freeb s v (b + 1) ≡ false) → (b ≡ steps r) ⊎ (freeb r v (b + 1) ≡ false)
    longer (inl e) = inl (e ∙ h.horizon)
    longer (inr e) = go (leb (b + 1) (steps s)) refl
      where
        go : (x : Bool) → leb (b + 1) (steps s) ≡ x → (b ≡ steps r) ⊎ (freeb r v (b + 1) ≡ false)
        go true f = inr (sym (h.free v (b + 1) (leb-true _ _ f)) ∙ e)
        go false f = inl (omega (arith, i.within, h.horizon, leb-false (b + 1) (steps s) f))
