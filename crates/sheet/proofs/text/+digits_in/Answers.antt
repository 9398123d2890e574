-- `sheet::text::digits_in` meets its contract: by recursion on the count of digits that are left. Assumes nothing.
use mathlib.Core.Path.{ap}
use native.Mathlib.Omega.{arith}
use lib.ListN.{length}
use Rattle.sheet.proofs.Written.{digits-none, digits-one, digits-big-length}
use Rattle.sheet.proofs.text.+digits_in.Goals as goal

pub returns-then-most-eq0 : goal.returns-then-most-eq0
returns-then-most-eq0 t c = let e = ap length (digits-none c.args.most c.args.n c.if-most-eq0.true) in (omega arith, omega arith)

pub returns-then-n-lt10 : goal.returns-then-n-lt10
returns-then-n-lt10 t c = let e = ap length (digits-one c.args.most c.args.n c.if-most-eq0.false c.if-n-lt10.true) in (omega arith, omega arith)

pub returns : goal.returns
returns t c = let e = digits-big-length c.args.most c.args.n c.if-most-eq0.false c.if-n-lt10.false in (omega arith, omega arith)
