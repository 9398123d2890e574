-- `page::offers::put_journeys` meets its contract. Assumes nothing.
use Rattle.std.specs.Prelude.{◌≡◌, List, [], ℕ, ◌+◌, ◌*◌, ◌/◌, ◌<◌, length, get_or, take, drop}
use Rattle.std.specs.Simd.{first_chunks}
use Rattle.std.proofs.Common.{arith, refl, sym, ◌∙◌, ap, subst}
use Rattle.sheet.specs.Laws.Puts.{puts-length}
use Rattle.costs.specs.Laws.Rows.{chunk-row}
use Rattle.page.specs.Inner.{Printable}
use Rattle.page.specs.Laws.Offers.{Through, listed-length, through-none, next-printable, next-through, all-through}
use Rattle.page.proofs.offers.put_journeys.Goals as goal

-- row k of the list, as the loop has it
row-is : (list : List ℕ) (rows : List (List ℕ)) → rows ≡ first_chunks 4 (length list / 4) list → (k : ℕ) → k < length list / 4
    → get_or rows k [] ≡ take 4 (drop (k * 4) list)
row-is list rows e k h = ap (λ (r : List (List ℕ)). get_or r k []) e ∙ chunk-row 4 (length list / 4) list k h

pub loop-row-init : goal.loop-row-init
loop-row-init c = (refl, through-none _ _ _)

pub put_journey-next-requires : goal.put_journey-next-requires
put_journey-next-requires c =
    let l = c.loop-row in
    let a = c.args in
    let k = l.row-index in
    let row = row-is a.list.now _ c.as_chunks.ensures.front k (omega arith) in
    subst (λ (xs : List ℕ). Printable a.sheet.now a.since.now xs a.n (get_or c.as_chunks.result.0.now k []) l.out l.next) (sym l.invariant.0)
    (next-printable c.requires l.invariant.1 (omega arith) _ row)

pub loop-row-preserved : goal.loop-row-preserved
loop-row-preserved c =
    let l = c.loop-row in
    let a = c.args in
    let k = l.row-index in
    let row = row-is a.list.now _ c.as_chunks.ensures.front k (omega arith) in
    let w = c.put_journey-next.ensures in
    let e : k * 4 + 4 ≡ (k + 1) * 4 = omega arith in (
      w.0 ∙ l.invariant.0,
      subst (λ (i : ℕ). Through a.sheet.now i a.out.now a.at c.put_journey-next.new.out c.put_journey-next.result) e
          (next-through c.requires l.invariant.1 (omega arith) _ row w.1),
    )

pub shape_of-table : goal.shape_of-table
shape_of-table c = ap length c.loop-row.invariant.0

pub shape_of-out : goal.shape_of-out
shape_of-out c = puts-length c.loop-row.invariant.1.puts

pub returns : goal.returns
returns c =
    let l = c.loop-row in
    (l.invariant.0, all-through c.requires l.invariant.1 (omega (arith, listed-length c.requires l.invariant.1)))
