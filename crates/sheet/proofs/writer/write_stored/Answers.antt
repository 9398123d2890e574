-- `sheet::writer::write_stored` meets its contract: the text where there is room for it, 12 where there is not.
-- Assumes nothing.
use mathlib.Core.Path.{◌∙◌, ap}
use native.Mathlib.Omega.{arith}
use Rattle.sheet.specs.Calls.{write_end}
use Rattle.sheet.proofs.RoundTrip.{valid-text}
use Rattle.sheet.proofs.Writing.{written-short, written-whole}
use Rattle.sheet.proofs.writer.write_stored.Goals as goal

pub returns-then-out-bytes : goal.returns-then-out-bytes
returns-then-out-bytes c =
    let b = c.before.before in
    record { of = λ s S. written-short c.refuse.result c.args.out.now s c.refuse.ensures (omega (arith, c.if-out-bytes.true, b.sheet_bytes-bytes.ensures.of s S)) }

pub put_sheet-requires : goal.put_sheet-requires
put_sheet-requires c =
    let z = c.before.before.before.before.before.before in
    let s = z.requires in
    record { sheet = s.sheet; store = s.store; room = omega (arith, c.if-out-bytes.false, c.sheet_bytes-bytes.ensures.of s.sheet s.store) }

pub overflow_cast-result : goal.overflow_cast-result
overflow_cast-result c =
    let s = c.requires in
    omega (arith, c.sheet_bytes-bytes.ensures.of s.sheet s.store, valid-text s.sheet s.store.valid)

pub returns : goal.returns
returns c =
    let b = c.sheet_bytes-bytes in
    record {
      of = λ s S. ap (write_end (record { refusal = 0; line = 0; bytes = b.result })) (c.put_sheet.ensures.of s S)
          ∙ written-whole s c.args.out.now b.result (b.ensures.of s S) (omega (arith, c.if-out-bytes.false, b.ensures.of s S));
    }
