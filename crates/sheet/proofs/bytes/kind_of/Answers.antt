-- `sheet::bytes::kind_of` meets its contract: the tests are those of the definition, in its order, so each return is the definition with its tests decided.
-- Assumes nothing.
use mathlib.Core.Path.{◌≡◌, refl, sym, ◌∙◌, ap}
use mathlib.Core.Bool.{Bool, true, false, ◌&&◌}
use Prim.Native.Nat.{ℕ}
use lib.Dec.{leb}
use borrow.Author.Tests.{ne_eqb}
use Rattle.sheet.specs.Lists.{pick}
use Rattle.sheet.specs.Bytes.{kind_of, digit, letter, other}
use Rattle.sheet.specs.Laws.Decimal.{kind-comma, kind-feed}
use Rattle.sheet.proofs.bytes.kind_of.Goals as goal

-- what the first test decides, and what the last does after those before it
first : (b : ℕ) → leb 48 b && leb b 57 ≡ true → kind_of b ≡ digit
unfolding kind_of
first b d = rw d refl

last : (b : ℕ) (t : Bool) → leb 48 b && leb b 57 ≡ false → (b ≡ 44 → ⊥) → (b ≡ 10 → ⊥) → leb 65 b && leb b 90 ≡ t → kind_of b ≡ pick t letter other
unfolding kind_of
last b t d c f l = rw (d, ne_eqb b 44 c, ne_eqb b 10 f, l) refl

pub returns-then-b : goal.returns-then-b
returns-then-b c = sym (first c.args.b c.if-b.true)

pub returns-then-b-eq44 : goal.returns-then-b-eq44
returns-then-b-eq44 c = sym (ap kind_of c.if-b-eq44.true ∙ kind-comma)

pub returns-then-b-eq10 : goal.returns-then-b-eq10
returns-then-b-eq10 c = sym (ap kind_of c.if-b-eq10.true ∙ kind-feed)

pub returns-then-b-2 : goal.returns-then-b-2
returns-then-b-2 c = sym (last _ true c.if-b.false c.if-b-eq44.false c.if-b-eq10.false c.if-b-2.true)

pub returns : goal.returns
returns c = sym (last _ false c.if-b.false c.if-b-eq44.false c.if-b-eq10.false c.if-b-2.false)
