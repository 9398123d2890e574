-- `sheet::text::put_line` meets its contract. Assumes nothing.
use Rattle.std.proofs.Common.{◌+◌, set, length-set, arith}
use Rattle.sheet.specs.Lists.{bind}
use Rattle.sheet.specs.Text.{number_text, printed}
use Rattle.sheet.specs.Laws.Puts.{Puts, puts-length, puts_none, puts-byte, puts-append, puts-more, puts-all, puts-fits}
use Rattle.sheet.specs.Laws.Printed.{printed-length}
use Rattle.sheet.proofs.text.put_line.Goals as goal
use Rattle.sheet.proofs.text.put_line.Goals.{After-loop-n}

pub bounds-out-at : goal.bounds-out-at
bounds-out-at c = let a = c.args in omega (arith, printed-length a.most a.letter a.numbers.now)

pub overflow_add-next : goal.overflow_add-next
overflow_add-next c = let a = c.args in omega (arith, printed-length a.most a.letter a.numbers.now)

pub loop-n-init : goal.loop-n-init
loop-n-init c = puts_none _ _

pub put_number-next-requires : goal.put_number-next-requires
put_number-next-requires c =
    let a = c.args in
    let p = c.loop-n.invariant in
    omega (
      arith,
      puts-fits (number_text a.most) 0 a.numbers.now c.loop-n.n-index c.loop-n-test.true p,
      puts-length p,
      length-set a.out.now a.at a.letter,
      printed-length a.most a.letter a.numbers.now,
    )

pub loop-n-preserved : goal.loop-n-preserved
loop-n-preserved c =
    let a = c.args in
    puts-more (number_text a.most) 0 a.numbers.now c.loop-n.n-index c.loop-n-test.true c.loop-n.invariant c.put_number-next.ensures

-- all numbers are written
all : (c : After-loop-n) → let a = c.args in Puts (bind a.numbers.now (number_text a.most)) (set a.out.now a.at a.letter) (a.at + 1) c.loop-n.out c.loop-n.next
all c = let a = c.args in puts-all (number_text a.most) 0 a.numbers.now c.loop-n.n-index c.loop-n-test.false c.loop-n.invariant

pub bounds-out-next : goal.bounds-out-next
bounds-out-next c =
    let a = c.args in
    omega (arith, (all c).next-is, puts-length (all c), length-set a.out.now a.at a.letter, printed-length a.most a.letter a.numbers.now)

pub overflow_add-result : goal.overflow_add-result
overflow_add-result c =
    let a = c.args in
    omega (arith, (all c).next-is, puts-length (all c), length-set a.out.now a.at a.letter, printed-length a.most a.letter a.numbers.now)

pub returns : goal.returns
unfolding printed
returns c = puts-append (puts-byte _ _ _) (puts-append (all c) (puts-byte 10 _ _))
