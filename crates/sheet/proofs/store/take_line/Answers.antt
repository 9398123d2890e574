-- `sheet::store::take_line` meets its contract: a line without a fault has room after those of its kind, and is stored there.
-- Assumes nothing.
use mathlib.Core.Path.{◌≡◌, sym}
use mathlib.Core.List.{List}
use Prim.Native.Nat.{◌+◌, ◌*◌, ◌≤◌}
use native.Mathlib.Omega.{arith}
use lib.ListN.{length}
use Rattle.sheet.specs.Lists.{number}
use Rattle.sheet.specs.Lines.{Line}
use Rattle.sheet.specs.Sheet.{fault}
use Rattle.sheet.specs.Inner.{line_at, Stored}
use Rattle.sheet.specs.Laws.Refusals.{number-some}
use Rattle.sheet.specs.Laws.Kinds.{width_small, most-small}
use Rattle.sheet.proofs.Standing.{all-length, count-few}
use Rattle.sheet.proofs.Storing.{stored_more, store-inside}
use borrow.Author.Rules.{rules}
use Rattle.std.specs.Prelude.{Err}
use Rattle.sheet.proofs.store.take_line.Goals as goal
use Rattle.sheet.proofs.store.take_line.Goals.{In_ok-fault_of}

no-fault : (c : In_ok-fault_of) → (before : List Line) → Stored before c.args.lines.now c.args.all.now → fault before (line_at c.args.kind c.args.v) ≡ 0
no-fault c before S = sym (c.in_ok-fault_of.ensures.of before S)

few : (c : In_ok-fault_of) → number c.args.lines.now c.args.kind ≤ 256
few c = omega (arith, count-few c.requires.1.stored c.requires.0, most-small c.args.kind c.requires.0)

-- the numbers of the line are inside the array, which is not long
inside : (c : In_ok-fault_of) → let a = c.args in let r = c.row_of-row.result in
    (r.base + number a.lines.now a.kind * r.width + r.width ≤ length a.all.now) × (length a.all.now ≤ 100000)
inside c =
    let K = c.requires.1 in
    let z = no-fault c K.before K.stored in
    (store-inside K.stored c.requires.0 c.args.v (search rules) z c.row_of-row.ensures, omega (arith, all-length K.stored))

pub returns-in_err-fault_of : goal.returns-in_err-fault_of
returns-in_err-fault_of c =
    let k = c.in_err-fault_of.field-0.0 in
    let e : c.from_residual.result ≡ Err k = search rules in
    rw e (record { fault-is = c.in_err-fault_of.ensures; stored = λ before S z. absurd (omega (arith, number-some k)) })

pub store-requires : goal.store-requires
store-requires c =
    (omega (arith, c.row_of-row.ensures.width_is, width_small c.args.kind c.requires.0), omega (arith, inside (goal.at.store-requires c).In_ok-fault_of))

pub overflow_add-lines : goal.overflow_add-lines
overflow_add-lines c = omega (arith, few (goal.at.overflow_add-lines c).In_ok-fault_of)

pub returns : goal.returns
returns c =
    let a = c.args in
    record {
      fault-is = c.in_ok-fault_of.ensures;
      stored = λ before S z. rw c.store.ensures
          (stored_more S c.requires.0 a.v (search rules) (no-fault (goal.at.returns c).In_ok-fault_of before S) c.row_of-row.ensures);
    }
