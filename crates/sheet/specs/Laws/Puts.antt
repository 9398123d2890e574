-- Bytes written into a buffer, one run after another: a run right after a run, one byte, and the runs of the members of a list, one member more at a time.
use Rattle.std.specs.Prelude.{◌≡◌, refl, List, [], ◌∷◌, ◌++◌, ℕ, ◌+◌, ◌-◌, ◌≤◌, ◌<◌, length, take, get_or, set, replicate}
use Rattle.std.proofs.Common.{sym, ◌∙◌, ap, subst, arith, length-append, take_all}
use Rattle.std.proofs.lemmas.List.Edits.{sets}
use Rattle.std.proofs.Math.Seq.{length-sets}
use Rattle.sheet.specs.Lists.{bind, filled}
use Rattle.sheet.specs.Laws.Stores.{sets-append, sets-filled}
use Rattle.sheet.specs.Laws.Binds.{bind-more, bind-part}

-- the bytes were written from `at` on, and what is past them was kept; `next` is the position after them
pub record Puts (bytes out : List ℕ) (at : ℕ) (out' : List ℕ) (next : ℕ) : Type 0 where
  pub next-is : next ≡ at + length bytes
  pub out-is : out' ≡ sets out at bytes

pub puts-length : {a out out' : List ℕ} {at n : ℕ} → Puts a out at out' n → length out' ≡ length out
puts-length {a} {out} {out'} {at} p = ap length p.out-is ∙ length-sets out at a

pub puts-as : {a b out out' : List ℕ} {at n : ℕ} → a ≡ b → Puts a out at out' n → Puts b out at out' n
puts-as {a} {b} {out} {out'} {at} {n} e p = subst (λ (k : List ℕ). Puts k out at out' n) e p

pub puts_none : (out : List ℕ) (at : ℕ) → Puts [] out at out at
puts_none out at = record { next-is = omega arith; out-is = refl }

pub puts-byte : (b : ℕ) (out : List ℕ) (at : ℕ) → Puts (b ∷ []) out at (set out at b) (at + 1)
puts-byte b out at = record { next-is = refl; out-is = refl }

pub puts-append : {a b out out₁ out₂ : List ℕ} {at n m : ℕ} → Puts a out at out₁ n → Puts b out₁ n out₂ m → Puts (a ++ b) out at out₂ m
puts-append {a} {b} {out} {out₁} {out₂} {at} {n} {m} p q =
    record {
      next-is = omega (arith, p.next-is, q.next-is, length-append a b);
      out-is = q.out-is ∙ rw (p.out-is, p.next-is) (sym (sets-append a b out at));
    }

-- the members of l, each written as f says
module _ {A : Type 0} (f : A → List ℕ) (d : A) (l : List A) (i : ℕ) where
  pub puts-more : {out out₁ out₂ : List ℕ} {at n m : ℕ} → i < length l → Puts (bind (take i l) f) out at out₁ n → Puts (f (get_or l i d)) out₁ n out₂ m
      → Puts (bind (take (i + 1) l) f) out at out₂ m
  puts-more h p q = puts-as (sym (bind-more f d l i h)) (puts-append p q)

  pub puts-all : {out out' : List ℕ} {at n : ℕ} → length l ≤ i → Puts (bind (take i l) f) out at out' n → Puts (bind l f) out at out' n
  puts-all h p = puts-as (ap (λ (k : List A). bind k f) (take_all i l h)) p

pub puts-fits : {A : Type 0} (f : A → List ℕ) (d : A) (l : List A) (i : ℕ) {out out' : List ℕ} {at n : ℕ} → i < length l → Puts (bind (take i l) f) out at out' n
    → n + length (f (get_or l i d)) ≤ at + length (bind l f)
puts-fits f d l i h p =
    omega (arith, p.next-is, ap (λ (k : List ℕ). length k) (bind-more f d l i h), length-append (bind (take i l) f) (f (get_or l i d)), bind-part f (i + 1) l)

-- a text in a buffer of zeros
pub puts-filled : (n : ℕ) {text out : List ℕ} {m : ℕ} → length text ≤ n → Puts text (replicate n 0) 0 out m → (out ≡ filled n text) × (m ≡ length text)
puts-filled n {text} h p =
    let z : n ≡ n - 0 = omega arith in
    (p.out-is ∙ ap (λ (k : ℕ). sets (replicate k 0) 0 text) z ∙ sets-filled n [] text 0 refl (omega arith), omega (arith, p.next-is))
