-- The results of a function over the members of a list, one after another: of lists joined, of one member more, and of a first part.
use Rattle.std.specs.Prelude.{◌≡◌, refl, List, [], ◌∷◌, ◌++◌, ℕ, zero, suc, ◌+◌, ◌≤◌, ◌<◌, length, take, get_or}
use Rattle.std.proofs.Common.{sym, ◌∙◌, ap, append_assoc, append-nil, arith, add-one, length-append, take-suc}
use Rattle.sheet.specs.Lists.{bind}

module _ {A B : Type 0} (f : A → List B) where
  pub bind-append : (a b : List A) → bind (a ++ b) f ≡ bind a f ++ bind b f
  bind-append [] b = refl
  bind-append (x ∷ a) b = ap (λ (l : List B). f x ++ l) (bind-append a b) ∙ sym (append_assoc (f x) (bind a f) (bind b f))

  pub bind-more : (d : A) (l : List A) (i : ℕ) → i < length l → bind (take (i + 1) l) f ≡ bind (take i l) f ++ f (get_or l i d)
  bind-more d l i h = rw (add-one, take-suc l i d h) (bind-append (take i l) (get_or l i d ∷ []) ∙ ap (λ (k : List B). bind (take i l) f ++ k) (append-nil (f (get_or l i d))))

  pub bind-part : (i : ℕ) (l : List A) → length (bind (take i l) f) ≤ length (bind l f)
  bind-part zero l = omega arith
  bind-part (suc i) [] = omega arith
  bind-part (suc i) (x ∷ l) = omega (arith, length-append (f x) (bind (take i l) f), length-append (f x) (bind l f), bind-part i l)
