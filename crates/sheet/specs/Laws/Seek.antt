-- Laws of things in order that are sought by their keys (`Parted`). At the start nothing is known; a look at one thing puts aside the things up to it or
-- those from it on; where the things that come before a key end, the thing with that key stands, if there is one.
use Rattle.std.specs.Prelude.{◌≡◌, Bool, true, false, List, ℕ, ◌+◌, ◌≤◌, ◌<◌, take}
use Rattle.std.proofs.Common.{sym, ◌∙◌, ap, subst, ⊎_elim, arith}
use Rattle.sheet.specs.Lists.{Lex}
use Rattle.sheet.specs.Computed.{lexb}
use Rattle.sheet.specs.declared.seek.Group.{Group}
use Rattle.sheet.specs.Seek.{Parted, key_in, Seekable, Listed}
use Rattle.sheet.specs.Laws.Order.{Lex-irrefl, Lex-trans, lexb-true, lexb-false, Lex-lexb}
use Rattle.sheet.specs.Laws.Decided.{Decided, decided-as, false-not-true, lt-or-le}

-- the keys of n things ascend
abbrev pub Ascends : ℕ → (ℕ → List ℕ) → Type 0
Ascends n at = (i j : ℕ) → i < j → j < n → Lex (at i) (at j)

module _ {n : ℕ} {at : ℕ → List ℕ} {a : List ℕ} where
  -- nothing is known yet
  pub parted-none : Parted n at a 0 n
  parted-none = record { order = omega arith; most = omega arith; before = λ k h. absurd (omega arith); rest = λ k h m. absurd (omega arith) }

  -- nothing is left to be looked at
  pub parted-all : {low high : ℕ} → Parted n at a low high → high ≤ low → Parted n at a low low
  parted-all {low} {high} p h = let z : high ≡ low = omega (arith, p.order) in subst (Parted n at a low) z p

  -- one look, at thing k
  module _ {low high : ℕ} (p : Parted n at a low high) (s : Ascends n at) (k : ℕ) (l : low ≤ k) (h : k < high) {b : Bool} (t : b ≡ lexb (at k) a) where
    pub parted-low : b ≡ true → Parted n at a (k + 1) high
    parted-low e = record { order = omega arith; most = p.most; before = λ i m. ⊎_elim (below i) (here i m) (lt-or-le i k); rest = p.rest }
      where
        comes : Lex (at k) a
        comes = lexb-true (at k) a (sym t ∙ e)

        below : (i : ℕ) → i < k → Lex (at i) a
        below i q = Lex-trans (at i) (at k) a (s i k q (omega (arith, p.most))) comes

        here : (i : ℕ) → i < k + 1 → k ≤ i → Lex (at i) a
        here i m q = let z : k ≡ i = omega arith in subst (λ (j : ℕ). Lex (at j) a) z comes

    pub parted-high : b ≡ false → Parted n at a low k
    parted-high e =
        record {
          order = l;
          most = omega (arith, p.most);
          before = p.before;
          rest = λ i m q y. comes-not (⊎_elim (here i m y) (past i q y) (lt-or-le i (k + 1)));
        }
      where
        comes-not : Lex (at k) a → ⊥
        comes-not y = false-not-true (sym t ∙ e) (Lex-lexb (at k) a y)

        here : (i : ℕ) → k ≤ i → Lex (at i) a → i < k + 1 → Lex (at k) a
        here i m y q = let z : i ≡ k = omega arith in subst (λ (j : ℕ). Lex (at j) a) z y

        past : (i : ℕ) → i < n → Lex (at i) a → k + 1 ≤ i → Lex (at k) a
        past i q y m = Lex-trans (at k) (at i) a (s k i (omega arith) q) y

  -- where the things that come before a end
  module _ {r : ℕ} (p : Parted n at a r r) (s : Ascends n at) where
    -- a thing with key a is thing r
    pub parted-here : (k : ℕ) → k < n → at k ≡ a → k ≡ r
    parted-here k h e =
        let late : r ≤ k = ⊎_elim (λ l. absurd (Lex-irrefl a (subst (λ (y : List ℕ). Lex y a) e (p.before k l)))) (λ l. l) (lt-or-le k r) in
        let early : k ≤ r = ⊎_elim (λ l. absurd (p.rest r (omega arith) (omega arith) (subst (Lex (at r)) e (s r k l h)))) (λ l. l) (lt-or-le r k) in
        omega arith

    -- with no thing r, none has key a
    pub parted-past : n ≤ r → (k : ℕ) → k < n → at k ≡ a → ⊥
    parted-past l k h e = omega (arith, parted-here k h e)

    -- where thing r has another key, none has key a
    pub parted-other : (at r ≡ a → ⊥) → (k : ℕ) → k < n → at k ≡ a → ⊥
    parted-other f k h e = f (ap at (sym (parted-here k h e)) ∙ e)

  -- thing r has key a where a does not come before it, and another key where a does
  module _ {r : ℕ} (p : Parted n at a r r) (l : r < n) {b : Bool} (t : b ≡ lexb a (at r)) where
    pub parted-is : b ≡ false → at r ≡ a
    parted-is e = ⊎_elim (λ z. sym z) (λ y. absurd (p.rest r (omega arith) l y)) (lexb-false a (at r) (sym t ∙ e))

    pub parted-is-not : b ≡ true → at r ≡ a → ⊥
    parted-is-not e z = Lex-irrefl a (subst (Lex a) z (lexb-true a (at r) (sym t ∙ e)))

-- lines of a group: line r, where those that come before v end
module _ {all : List ℕ} {g : Group} {v : List ℕ} {r : ℕ} (s : Seekable all g) (p : Parted g.count (key_in all g) (take g.key v) r r) where
  -- whether it has the first numbers of v decides whether a line has them
  pub listed_here : r < g.count → {b : Bool} → Decided (key_in all g r ≡ take g.key v) b → Decided (Listed all g v) b
  listed_here l d = decided-as (λ e. record { at = r; below = l; same = e }) back d
    where
      back : Listed all g v → key_in all g r ≡ take g.key v
      back x = ap (key_in all g) (sym (parted-here p s.ascends x.at x.below x.same)) ∙ x.same

  -- where the group has no such line, no line has them
  pub listed-none : g.count ≤ r → Listed all g v → ⊥
  listed-none l x = parted-past p s.ascends l x.at x.below x.same
