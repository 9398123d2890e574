-- What a comparison of two places or of two steps says of their numbers.
use Rattle.std.specs.Prelude.{◌≡◌, Bool, true, false, not, cond, eqb, ◌⊎◌, ℕ, ◌<◌, ◌≤◌}
use Rattle.std.specs.Ordering.{is_lt, is_le, nat_cmp}
use Rattle.std.specs.Cmp.{nat_cmp_is}
use Rattle.std.specs.declared.cmp.Ordering.TheVariants.{Less, Equal, Greater}
use Rattle.std.proofs.Common.{refl, sym, ap, ◌∙◌, inl, inr, ⊎_elim, arith}
use Rattle.std.proofs.lemmas.Bool.{eqb-true, eq-eqb, not-true, not-false}
use Rattle.std.proofs.lemmas.Map.Keys.{ge_from_not_lt, le_from_is_le}
use Rattle.sheet.specs.declared.Step.{Step}
use Rattle.sheet.specs.Laws.Decided.{lt-or-le, false-not-true}

module _ {a b : ℕ} {r : Bool} where
  -- `!=`
  pub same_of : r ≡ not (eqb a b) → r ≡ false → a ≡ b
  same_of e f = eqb-true a b (not-false _ (sym e ∙ f))

  pub other_of : r ≡ not (eqb a b) → r ≡ true → a ≡ b → ⊥
  other_of e f g = false-not-true (not-true _ (sym e ∙ f)) (eq-eqb a b g)

  -- `<`
  pub below_of : r ≡ is_lt (nat_cmp a b) → r ≡ true → a < b
  below_of e f =
      ⊎_elim
      (λ l. l)
      (λ m. ⊎_elim
      (λ l. absurd (false-not-true (e ∙ sym (ap is_lt (nat_cmp_is a b Greater l))) f))
      (λ l. absurd (false-not-true (e ∙ sym (ap is_lt (nat_cmp_is a b Equal (omega arith)))) f))
      (lt-or-le b a))
      (lt-or-le a b)

  pub never-below : b ≤ a → r ≡ is_lt (nat_cmp a b) → r ≡ true → ⊥
  never-below m e f = let l = below_of e f in omega arith

  pub not-below : r ≡ is_lt (nat_cmp a b) → r ≡ false → b ≤ a
  not-below e f = ge_from_not_lt a b (sym e ∙ f)

  -- `<=`
  pub upto_of : r ≡ is_le (nat_cmp a b) → r ≡ true → a ≤ b
  upto_of e f = le_from_is_le a b (sym e ∙ f)

  pub never-upto : b < a → r ≡ is_le (nat_cmp a b) → r ≡ true → ⊥
  never-upto m e f = let l = upto_of e f in omega arith

  pub not-upto : r ≡ is_le (nat_cmp a b) → r ≡ false → b < a
  not-upto e f =
      ⊎_elim
      (λ l. l)
      (λ m. ⊎_elim
      (λ l. absurd (false-not-true f (e ∙ sym (ap is_le (nat_cmp_is a b Less l)))))
      (λ l. absurd (false-not-true f (e ∙ sym (ap is_le (nat_cmp_is a b Equal (omega arith))))))
      (lt-or-le a b))
      (lt-or-le b a)

-- the later of two steps
later-by : (b : Bool) (s t r : Step) → b ≡ is_lt (nat_cmp t.0 s.0) → r ≡ cond b s t → (s.0 ≤ r.0) × (t.0 ≤ r.0) × ((r.0 ≡ s.0) ⊎ (r.0 ≡ t.0))
later-by true s t r e f =
    let z : r.0 ≡ s.0 = ap (λ (x : Step). x.0) f in
    let l : t.0 < s.0 = below_of e refl in
    (omega arith, omega arith, inl z)
later-by false s t r e f =
    let z : r.0 ≡ t.0 = ap (λ (x : Step). x.0) f in
    let l : s.0 ≤ t.0 = not-below e refl in
    (omega arith, omega arith, inr z)

pub later_of : (s t r : Step) → r ≡ cond (is_lt (nat_cmp t.0 s.0)) s t → (s.0 ≤ r.0) × (t.0 ≤ r.0) × ((r.0 ≡ s.0) ⊎ (r.0 ≡ t.0))
later_of s t r f = later-by _ s t r refl f
