-- `sheet::lines::is_letter_first` meets its contract: the first comma is the second byte, or the line has no second byte.
-- Assumes nothing.
use mathlib.Core.Bool.{Bool, true, false}
use mathlib.Core.Path.{◌≡◌, refl, sym, ◌∙◌, ap}
use mathlib.Core.List.{List}
use Prim.Native.Nat.{ℕ, ◌≤◌}
use native.Mathlib.Omega.{arith}
use lib.Dec.{eqb}
use lib.ListN.{length, get_or}
use borrow.Author.Tests.{eq-eqb, ne_eqb}
use Rattle.std.specs.Prelude.{◌≢◌}
use borrow.Author.Rules.{rules}
use Rattle.sheet.specs.Bytes.{kind_of, comma}
use Rattle.sheet.specs.ByteKinds.{kind_number}
use Rattle.sheet.specs.declared.bytes.ByteKind.TheVariants.{Comma}
use Rattle.sheet.specs.declared.bytes.ByteKind.{ByteKind}
use Rattle.sheet.specs.Laws.ByteKinds.{kind-unlike}
use Rattle.sheet.specs.Inner.{span_of}
use Rattle.sheet.specs.Laws.Parts.{span-stop, span_more, span-end, span-le}
use Rattle.sheet.proofs.lines.is_letter_first.Goals as goal

-- the first byte is no comma: the field ends with the line, or goes by the second byte
module _ (l : List ℕ) (h : 1 ≤ length l) (n : kind_of (get_or l 0 0) ≡ comma → ⊥) where
  alone : length l ≡ 1 → true ≡ eqb (span_of comma l) 1
  alone e = sym (eq-eqb (span_of comma l) 1 (omega (arith, span_more l 0 comma h n, span-end l 1 comma (omega arith))))

  followed : 2 ≤ length l → (k : ByteKind) → kind_number k ≡ kind_of (get_or l 1 0) → (b : Bool) → (b ≡ true → k ≡ Comma) → (b ≡ false → k ≢ Comma)
      → b ≡ eqb (span_of comma l) 1
  followed g k d true e f =
      sym (eq-eqb (span_of comma l) 1 (omega (arith, span_more l 0 comma h n, span-stop l 1 comma g (sym d ∙ ap kind_number (e refl)))))
  followed g k d false e f =
      sym (ne_eqb (span_of comma l) 1 (λ z. omega (arith, span_more l 0 comma h n, span_more l 1 comma g (λ x. kind-unlike k Comma (f refl) (d ∙ x)))))

pub returns-then-l-eq0 : goal.returns-then-l-eq0
returns-then-l-eq0 c = let l = c.args.l.now in sym (ne_eqb (span_of comma l) 1 (λ e. omega (arith, span-le comma l)))

pub returns-then-eq : goal.returns-then-eq
returns-then-eq c =
    let l = c.args.l.now in
    let k : c.kind_of.result ≡ Comma = search rules in
    let e = span-stop l 0 comma (omega (arith, c.if-l-eq0.false)) (sym c.kind_of.ensures ∙ ap kind_number k) in
    sym (ne_eqb (span_of comma l) 1 (λ z. omega arith))

pub returns-then-l-eq1 : goal.returns-then-l-eq1
returns-then-l-eq1 c =
    let k : c.kind_of.result ≢ Comma = search rules in
    alone _ (omega arith) (λ e. kind-unlike _ _ k (c.kind_of.ensures ∙ e)) c.if-l-eq1.true

pub returns : goal.returns
returns c =
    let k : c.kind_of.result ≢ Comma = search rules in
    followed _ (omega (arith, c.if-l-eq0.false)) (λ e. kind-unlike _ _ k (c.kind_of.ensures ∙ e))
    (omega (arith, c.if-l-eq0.false, c.if-l-eq1.false)) _ c.kind_of-2.ensures c.eq-2.result (λ e. search rules) (λ e. search rules)
