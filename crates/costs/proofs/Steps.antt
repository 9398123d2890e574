-- Laws of a loop over the figures of costs whose last figure is stored: the sum, a multiple and a difference stand there. The check finds each by itself
-- where a function needs it, so that no function cites them.
-- Assumes nothing.
use Rattle.std.specs.Prelude.{◌≡◌, ℕ, ◌+◌, ◌*◌, ◌-◌, length}
use Rattle.std.proofs.Common.{sym, ◌∙◌, arith, ext_get_or}
use Rattle.costs.specs.Costs.{Cost, fig, add, times, AtMost}
use Rattle.costs.specs.Laws.Figures.{fig-add, fig-times, length-add, length-times, Stored, is_same}

pub is-add : (n : ℕ) (r a b : Cost) → length a ≡ n → length b ≡ n → Stored n (λ k. fig a k + fig b k) n r → r ≡ add a b
is-add n r a b p q h = ext_get_or 0 r (add a b) (h.sized ∙ sym (length-add a b n p q)) (λ k l. h.so_far k (omega (arith, h.sized)) ∙ sym (fig-add a b k))

pub is-times : (n m : ℕ) (r a : Cost) → length a ≡ n → Stored n (λ k. m * fig a k) n r → r ≡ times m a
is-times n m r a p h = ext_get_or 0 r (times m a) (h.sized ∙ sym (length-times m a ∙ p)) (λ k l. h.so_far k (omega (arith, h.sized)) ∙ sym (fig-times m a k))

pub is-less : (n : ℕ) (r h c : Cost) → length h ≡ n → length c ≡ n → AtMost c h → Stored n (λ k. fig h k - fig c k) n r → (length r ≡ n) × (add r c ≡ h)
is-less n r h c p q l x =
    (x.sized, is_same n (add r c) h (length-add r c n x.sized q) p (λ k b. omega (arith, fig-add r c k, x.so_far k b, l.every k)))
