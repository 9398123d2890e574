-- `sheet::lines::digits_from` meets its contract. Assumes nothing.
use Rattle.std.specs.Prelude.{◌≡◌, suc, ◌+◌, ◌-◌, ◌^◌, ◌≤◌, ◌<◌, get_or}
use Rattle.std.proofs.Common.{arith, sym, ◌∙◌, lit<}
use native.Mathlib.Nat.{pow-suc, pow-le-pow_right, lt_of_lt_of_le}
use Rattle.sheet.specs.Bytes.{kind_of, digit, comma}
use Rattle.sheet.specs.Laws.ByteKinds.{kind-unlike}
use Rattle.sheet.specs.Laws.Decimal.{digit-byte}
use Rattle.sheet.specs.Laws.Parts.{span_more}
use Rattle.sheet.proofs.Digits.{no-comma, reads_on, digits-many, digits-stop, digits-comma, digits-over}
use Rattle.sheet.proofs.lines.digits_from.Goals as goal
use Rattle.sheet.proofs.lines.digits_from.Goals.{In-Digit}

pub returns-then-most-end : goal.returns-then-most-end
returns-then-most-end c =
    let i = c.loop-end.invariant in
    digits-many _ _ _ c.loop-end.end _ i.3 i.4 (omega (arith, c.if-most-end.true))

-- where a digit was found: its range, and that the value so far is small
range : (c : In-Digit) → let b = get_or c.args.line.now c.loop-end.end 0 in (48 ≤ b) × (b ≤ 57)
range c = digit-byte _ (sym c.in-Digit.ensures)

low : (c : In-Digit) → c.loop-end.value < 10 ^ 8
low c = lt_of_lt_of_le c.loop-end.invariant.2 (pow-le-pow_right (lit< tt) {j = 8} (omega (arith, c.if-most-end.false, c.requires)))

pub overflow_mul-value : goal.overflow_mul-value
overflow_mul-value c = omega (arith, low (goal.at.overflow_mul-value c).In-Digit)

pub overflow_sub-value : goal.overflow_sub-value
overflow_sub-value c = omega (arith, range (goal.at.overflow_sub-value c).In-Digit)

pub overflow_add-value : goal.overflow_add-value
overflow_add-value c = let d = (goal.at.overflow_add-value c).In-Digit in omega (arith, range d, low d)

pub returns-in-Comma : goal.returns-in-Comma
returns-in-Comma c =
    let i = c.loop-end.invariant in
    digits-comma _ _ _ _ _ i.3 i.4 c.loop-end-test.true (sym c.in-Comma.ensures)

pub returns-in_default : goal.returns-in_default
returns-in_default c =
    let i = c.loop-end.invariant in
    digits-stop _ _ _ _ _ i.3 i.4 c.loop-end-test.true (λ d. kind-unlike _ _ c.in_default.not-Digit (c.kind_of.ensures ∙ d))
    (λ d. kind-unlike _ _ c.in_default.not-Comma (c.kind_of.ensures ∙ d))

pub loop-end-preserved : goal.loop-end-preserved
loop-end-preserved c =
    let d = (goal.at.loop-end-preserved c).In-Digit in
    let h = c.loop-end in
    let l = c.args.line.now in
    let i = h.end in
    let k : kind_of (get_or l i 0) ≡ digit = sym c.in-Digit.ensures in
    let z : i + 1 - c.args.at ≡ suc (i - c.args.at) = omega (arith, h.invariant.0) in (
      omega (arith, h.invariant.0),
      omega (arith, c.loop-end-test.true),
      rw (z, pow-suc) (omega (arith, range d, h.invariant.2)),
      omega (arith, h.invariant.3, span_more l i comma c.loop-end-test.true (no-comma l i k)),
      sym (reads_on l i c.loop-end-test.true _ k) ∙ h.invariant.4,
    )

pub returns : goal.returns
returns c =
    let i = c.loop-end.invariant in
    digits-over _ _ _ _ _ i.3 i.4 c.loop-end-test.false i.1
