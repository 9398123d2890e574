-- `arrivals::fill::note_rows` meets its contract: the rows are noted step by step, and what a later row undercuts is left out after each step. Assumes
-- nothing.
use mathlib.Core.Path.{refl}
use Prim.Native.Nat.{◌<◌}
use native.Mathlib.Omega.{arith}
use Rattle.arrivals.specs.Inner.Renoting.{renoted-none, renoted-next, renoted-settling, renoted-more, renoted-all}
use Rattle.arrivals.proofs.fill.note_rows.Goals as goal

pub loop-k-init : goal.loop-k-init
loop-k-init c = (refl, renoted-none c.requires.2)

pub overflow_mul-s : goal.overflow_mul-s
overflow_mul-s c = omega (arith, c.requires.1.room, c.requires.1.short)

pub overflow_add-s : goal.overflow_add-s
overflow_add-s c = omega (arith, c.requires.1.room, c.requires.1.short)

pub offset_bounds-table-k : goal.offset_bounds-table-k
offset_bounds-table-k c = omega (arith, c.requires.1.room, c.requires.1.short)

pub bounds-table-k : goal.bounds-table-k
bounds-table-k c = omega (arith, c.requires.1.room, c.requires.1.short)

pub note_step-k-requires : goal.note_step-k-requires
note_step-k-requires c =
    let p = c.requires in
    let inv = c.loop-k.invariant in
    let l : c.loop-k.k < c.args.n = omega arith in
    (l, p.1, inv.1.first l, (renoted-next inv.1 p.1 l (omega (arith, p.3, inv.0, p.5 _ l))).0)

pub settle-requires : goal.settle-requires
settle-requires c =
    let p = c.requires in
    let inv = c.loop-k.invariant in
    let l : c.loop-k.k < c.args.n = omega arith in
    (p.0, λ short. record { rows = _; settling = renoted-settling inv.1 p.1 l (omega (arith, p.3, inv.0, p.5 _ l)) c.note_step-k.ensures })

pub loop-k-smaller : goal.loop-k-smaller
loop-k-smaller c = let d = c.note_step-k.ensures in omega (arith, d.from, d.upto)

pub loop-k-preserved : goal.loop-k-preserved
loop-k-preserved c =
    let p = c.requires in
    let inv = c.loop-k.invariant in
    let l : c.loop-k.k < c.args.n = omega arith in
    let d = c.note_step-k.ensures in
    let e = c.settle.ensures p.1.short in
    (omega (arith, e.size, d.size, inv.0), renoted-more d (e.of _ (renoted-settling inv.1 p.1 l (omega (arith, p.3, inv.0, p.5 _ l)) d)))

pub shape_of-ix : goal.shape_of-ix
shape_of-ix c = c.loop-k.invariant.0

pub returns : goal.returns
returns c =
    let p = c.requires in let inv = c.loop-k.invariant in renoted-all _ inv.1 (omega arith) p.4 (omega (arith, p.3, inv.0)) p.5
