-- `sheet::text::put_digits` meets its contract: by recursion on the count of digits that are left. Assumes nothing.
use mathlib.Core.Path.{ap}
use native.Mathlib.Omega.{arith}
use lib.ListN.{length}
use Rattle.sheet.specs.Laws.Puts.{puts_none, puts-byte, puts-append, puts-length}
use Rattle.sheet.proofs.Written.{digits-none, digits-one, digits-big, digits-big-length}
use Rattle.sheet.proofs.text.+put_digits.Goals as goal

pub returns-then-most-eq0 : goal.returns-then-most-eq0
returns-then-most-eq0 t c = rw (digits-none _ _ c.if-most-eq0.true) (puts_none _ _)

pub bounds-out-at : goal.bounds-out-at
bounds-out-at t c = omega (arith, ap length (digits-one _ _ c.if-most-eq0.false c.if-n-lt10.true))

pub returns-then-n-lt10 : goal.returns-then-n-lt10
returns-then-n-lt10 t c = rw (digits-one _ _ c.if-most-eq0.false c.if-n-lt10.true) (puts-byte _ _ _)

pub put_digits-next-requires : goal.put_digits-next-requires
put_digits-next-requires t c = (omega arith, omega (arith, digits-big-length _ _ c.if-most-eq0.false c.if-n-lt10.false))

pub bounds-out-next : goal.bounds-out-next
bounds-out-next t c =
    omega (arith, digits-big-length _ _ c.if-most-eq0.false c.if-n-lt10.false, c.put_digits-next.ensures.next-is, puts-length c.put_digits-next.ensures)

pub overflow_add-result-2 : goal.overflow_add-result-2
overflow_add-result-2 t c =
    omega (arith, digits-big-length _ _ c.if-most-eq0.false c.if-n-lt10.false, c.put_digits-next.ensures.next-is, puts-length c.put_digits-next.ensures)

pub returns : goal.returns
returns t c = rw (digits-big _ _ c.if-most-eq0.false c.if-n-lt10.false) (puts-append c.put_digits-next.ensures (puts-byte _ _ _))
