-- `sheet::judge::is_key_before` meets its contract: number by number, the first that differs decides.
-- Assumes nothing.
use mathlib.Core.Path.{◌≡◌, sym, ◌∙◌, ap}
use mathlib.Core.List.{List}
use Prim.Native.Nat.{ℕ, ◌+◌, ◌≤◌, ◌<◌}
use native.Mathlib.Omega.{arith}
use native.Mathlib.Nat.{add-zero}
use lib.Dec.{ltb}
use lib.ListN.{length, get_or}
use borrow.Author.Rules.{rules}
use Rattle.sheet.proofs.Passing.{lex_from, lex-differs, lex-same, lex-last}
use Rattle.sheet.proofs.judge.is_key_before.Goals as goal

module _ (n : ℕ) (a : List ℕ) (at : ℕ) (b : List ℕ) (p : at + n ≤ length a) (q : n ≤ length b) where
  first : get_or a (at + 0) 0 ≡ get_or a at 0
  first = ap (λ (j : ℕ). get_or a j 0) (add-zero at)

  -- the first numbers differ, or the order is that from the second on
  at_first : 0 < n → (get_or a at 0 ≡ get_or b 0 0 → ⊥) → ltb (get_or a at 0) (get_or b 0 0) ≡ lex_from n a at b 0
  at_first h f = sym (lex-differs n a at b p q 0 h (λ e. f (sym first ∙ e)) ∙ ap (λ (x : ℕ). ltb x (get_or b 0 0)) first)

  past_first : 0 < n → get_or a at 0 ≡ get_or b 0 0 → lex_from n a at b 1 ≡ lex_from n a at b 0
  past_first h e = sym (lex-same n a at b p q 0 h (omega (arith, first, e)) (omega (arith, first, e)))

  -- and so for the second
  past-second : 1 < n → get_or a (at + 1) 0 ≡ get_or b 1 0 → lex_from n a at b 2 ≡ lex_from n a at b 1
  past-second h e = sym (lex-same n a at b p q 1 h (omega (arith, e)) (omega (arith, e)))

  -- the order from the third on, past two numbers that are the same
  past_two : 1 < n → get_or a at 0 ≡ get_or b 0 0 → get_or a (at + 1) 0 ≡ get_or b 1 0 → lex_from n a at b 2 ≡ lex_from n a at b 0
  past_two h e f = past-second h f ∙ past_first (omega arith) e

pub returns-then-b-values : goal.returns-then-b-values
returns-then-b-values c =
    let a = c.args in
    let e : length a.values ≡ 8 = search rules in
    let m : 1 < a.key = omega arith in
    sym (lex-differs a.key a.all.now a.at a.values c.requires.1 (omega arith) 1 m c.if-b-values.true)
    ∙ past_first a.key a.all.now a.at a.values c.requires.1 (omega arith) (omega arith) c.if-a-values.false

pub returns : goal.returns
returns c =
    let a = c.args in
    let e : length a.values ≡ 8 = search rules in
    let k : 2 + 1 ≡ a.key = omega arith in
    sym (lex-last a.key a.all.now a.at a.values c.requires.1 (omega arith) 2 k)
    ∙ past_two a.key a.all.now a.at a.values c.requires.1 (omega arith) (omega arith) c.if-a-values.false c.if-b-values.false
