-- `arrivals::fill::search_on` meets its contract: the rows so far are noted in the index, and the search goes on.
-- Assumes nothing.
use mathlib.Core.Path.{sym, subst}
use mathlib.Core.List.{List}
use Prim.Native.Nat.{ℕ, ◌-◌}
use native.Mathlib.Omega.{arith}
use Rattle.arrivals.specs.Inner.Due.{IndexedShort}
use Rattle.arrivals.specs.Inner.Renoting.{filled-early, filled-noteable, noted-before}
use Rattle.arrivals.proofs.fill.search_on.Goals as goal
use Rattle.arrivals.proofs.fill.search_on.Goals.{then-table-le41943039, else-table-le41943039}

pub overflow_sub-done : goal.overflow_sub-done
overflow_sub-done c = c.requires.3

pub is_somewhere_dear-dear-requires : goal.is_somewhere_dear-dear-requires
is_somewhere_dear-dear-requires c = c.requires.0.watching.size

pub note_rows-requires : goal.note_rows-requires
note_rows-requires c =
    let p = c.requires in
    let h = p.4 in
    let a = c.args in (
      p.0.given,
      filled-noteable p.0.given h.room c.if-table-le41943039.true (omega (arith, p.0.day, h.upto)) h.filled,
      p.1,
      omega (arith, p.2, h.upto),
      omega (arith, p.0.day, h.upto),
      λ i l. omega (arith, filled-early a.table.now a.halt.rows h.filled i l),
    )

pub fill_steps-requires : goal.fill_steps-requires
fill_steps-requires c =
    let p = c.requires in
    let h = p.4 in
    let a = c.args in (
      record { given = p.0.given; inside = omega (arith, p.0.given.start); first = p.3; last = omega (arith, p.0.day, h.upto); room = h.room; filled = h.filled },
      elim c.if-table-le41943039.branch [
        | then-table-le41943039 w ↦ subst (λ (iy : List ℕ). IndexedShort a.table.now a.halt.rows iy (a.halt.step.0 - 1) a.halt.step.0 a.net.now) (sym w.ix-is) (noted-before a.net.now p.3 w.note_rows.ensures)
        | else-table-le41943039 w ↦ λ short. absurd (omega (arith, w.if-table-le41943039.false))
      ],
      p.0.day,
      omega (arith, h.upto),
      p.0.watching,
      omega (arith, p.2, c.if-table-le41943039.auto.ix),
    )

pub returns : goal.returns
returns c = c.fill_steps.ensures
