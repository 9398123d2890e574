-- What the leading arrivals depend on: the start, the horizon, the waiting costs, and within the horizon the crossings and which places are free at which
-- steps. So neither the goal nor the time to unload there plays a part, and a step past T has no effect. These laws stand here, and not in specs/, so that
-- a must-fail edit of what they rest on is refused by them, and not as a text that cannot be read.
-- Assumes nothing.
use Rattle.std.specs.Prelude.{◌≡◌, refl, ℕ, ◌-◌, ◌<◌, set}
use Rattle.std.proofs.Common.{◌∙◌, subst, arith, get_or-set_other}
use Rattle.sheet.specs.Lists.{number}
use Rattle.sheet.specs.Sheet.{Sheet}
use Rattle.sheet.specs.Laws.Ascending.{ascending-unique}
use Rattle.costs.specs.Costs.{Cost, add, times, AtMost}
use Rattle.costs.specs.Moves.{wait_of}
use Rattle.intervals.specs.Intervals.{freeb, Together}
use Rattle.intervals.specs.Laws.Horizon.{within_horizon}
use Rattle.intervals.proofs.Horizon.{same-interval}
use Rattle.arrivals.specs.Arrivals.{Arrival, key_of, Leads, Leading}
use Rattle.arrivals.specs.Computed.{leading}
use Rattle.arrivals.specs.Laws.Alike.{Alike, alike-back, alike-arrives, with_goal, same-crossing, horizon-alike}
use Rattle.arrivals.proofs.Leading.{leading-is, is_leading, leading-ascending}

alike-together : (s r : Sheet) → Alike s r → (v t t' : ℕ) → Together s v t t' → Together r v t t'
alike-together s r h v t t' k = (k.0, k.1, same-interval s r h.within v k.0 k.1 k.2, k.3, k.4, k.5, k.6)

alike-leads : (s r : Sheet) → Alike s r → (a b : Arrival) → Leads s a b → Leads r a b
alike-leads s r h a b k =
    record {
      differ = k.differ;
      same_place = k.same_place;
      together = alike-together s r h b.place a.step b.step k.together;
      no-later = k.no-later;
      no-dearer = subst (λ (w : Cost). AtMost (add a.cost (times (b.step - a.step) w)) b.cost) (h.wait b.place) k.no-dearer;
    }

alike-leading : (s r : Sheet) → Alike s r → (a : Arrival) → Leading s a → Leading r a
alike-leading s r h a k =
    record { arrives = alike-arrives s r h a k.arrives; unled = λ b j d. k.unled b (alike-arrives r s (alike-back s r h) b j) (alike-leads r s (alike-back s r h) b a d) }

pub leading-alike : (s r : Sheet) → Alike s r → leading s ≡ leading r
leading-alike s r h =
    ascending-unique key_of (leading s) (leading r) (leading-ascending s) (leading-ascending r)
    (λ a m. is_leading r a (alike-leading s r h a (leading-is s a m)))
    (λ a m. is_leading s a (alike-leading r s (alike-back s r h) a (leading-is r a m)))

goal-alike : (s : Sheet) (g u : ℕ) → Alike (with_goal s g u) s
unfolding with_goal wait_of freeb
goal-alike s g u =
    record {
      starts = other 2 (λ e. omega arith) (omega arith);
      within = record { horizon = other 1 (λ e. omega arith) (omega arith); free = λ v t l. refl };
      wait = λ v. refl;
      forth = λ p q t c l. same-crossing (with_goal s g u) s refl p q t c (λ m. m);
      back = λ p q t c l. same-crossing s (with_goal s g u) refl p q t c (λ m. m);
    }
  where
    other : (i : ℕ) → (i ≡ 3 → ⊥) → i < 4 → number (set (set s.head 3 g) 4 u) i ≡ number s.head i
    other i n h = get_or-set_other (set s.head 3 g) 4 i u 0 (λ e. omega arith) ∙ get_or-set_other s.head 3 i g 0 n

-- the goal and the time to unload play no part
pub leading-any-goal : (s : Sheet) (g u : ℕ) → leading (with_goal s g u) ≡ leading s
leading-any-goal s g u = leading-alike (with_goal s g u) s (goal-alike s g u)

-- a step past T has no effect
pub leading-within-horizon : (s : Sheet) → leading (within_horizon s) ≡ leading s
leading-within-horizon s = leading-alike (within_horizon s) s (horizon-alike s)
