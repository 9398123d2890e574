-- `page::offers::put_row` meets its contract: the numbers stand at the front of the array of which the line is written.
-- Assumes nothing.
use mathlib.Core.Path.{◌≡◌, refl, sym, ◌∙◌, ap}
use mathlib.Core.List.{List}
use Prim.Native.Nat.{ℕ}
use native.Mathlib.Omega.{arith}
use lib.ListN.{length, take, replicate}
use Rattle.sheet.specs.Text.{printed, most_printed}
use Rattle.sheet.specs.Laws.Stores.{take-sets}
use Rattle.sheet.specs.Laws.Puts.{puts-as}
use Rattle.page.proofs.offers.put_row.Goals as goal
use Rattle.page.proofs.offers.put_row.Goals.{After-widen}

-- the numbers at the front of the array
front : (c : After-widen) → let ns = c.args.numbers.now in take (length ns) c.widen.new.to ≡ ns
front c =
    let z = c.before.before.before.before in
    let n = length z.args.numbers.now in
    ap (take n) c.widen.ensures ∙ take-sets n (replicate 256 0) z.args.numbers.now refl z.requires.0

pub slice_bounds-put_line-end : goal.slice_bounds-put_line-end
slice_bounds-put_line-end c = sym (ap length (front (goal.at.slice_bounds-put_line-end c).After-widen))

pub put_line-requires : goal.put_line-requires
put_line-requires c =
    let x = (goal.at.put_line-requires c).After-widen in
    let z = x.before.before.before.before in
    omega (arith, ap (λ (l : List ℕ). length (printed most_printed z.args.letter l)) (front x), z.requires.1)

pub returns : goal.returns
returns c =
    let x = (goal.at.returns c).After-widen in
    puts-as (ap (printed most_printed x.args.letter) (front x)) c.put_line.ensures
