-- `arrivals::live::settle_place` meets its contract: the groups of the place are shortened from the newest on, and one that has no rows left is pointed past.
-- Assumes nothing.
use Rattle.std.proofs.Common.{◌≡◌, refl, ◌∙◌, subst, ◌+◌, ◌-◌, ◌≤◌, ◌<◌, arith, rules}
use Rattle.arrivals.specs.Inner.Index.{older-most, older-past}
use Rattle.arrivals.specs.Inner.Settling.{Begins, rows_left, rows_none}
use Rattle.arrivals.proofs.live.settle_place.Goals as goal

pub loop-v-init : goal.loop-v-init
loop-v-init c = let p = c.requires in let low : c.args.v.0 < 64 = omega (arith, p.2, p.0.places) in let day = p.1.settling.indexed.now in (older-most p.1.settling.indexed day low c.older-s.ensures, omega arith, refl, λ n a. (a, λ i l k q b. older-past a.indexed day low c.older-s.ensures i l k q b))

pub regroup-requires : goal.regroup-requires
regroup-requires c =
    let p = c.requires in
    let inv = c.loop-v.invariant in
    let low : c.args.v.0 < 64 = omega (arith, p.2, p.0.places) in
    let day : c.args.t.0 ≤ 255 = p.1.settling.indexed.now in
    let i = inv.3 p.1.rows p.1.settling in
    let a = (rows_left c.shorten.ensures c.wait_of-wait.ensures low (omega (arith, inv.0, inv.1)) c.older-back.ensures i.0).0 in
    let o = a.indexed.order c.loop-v.p.0 c.args.v.0 (omega (arith, inv.1)) low in
    let m = older-most i.0.indexed (omega (arith, inv.0, inv.1)) low c.older-back.ensures in
    (low, omega (arith, inv.1), omega (arith, inv.1, a.indexed.size), omega (arith, c.group-span.ensures.1, o.1, a.short), omega (arith, c.group-span.ensures.0, c.group-span.ensures.1, o.0), omega (arith, inv.0))

pub loop-v-preserved-then-shorten : goal.loop-v-preserved-then-shorten
loop-v-preserved-then-shorten c =
    let p = c.requires in
    let inv = c.loop-v.invariant in
    let low : c.args.v.0 < 64 = omega (arith, p.2, p.0.places) in
    let day : c.args.t.0 ≤ 255 = p.1.settling.indexed.now in
    let m = older-most (inv.3 p.1.rows p.1.settling).0.indexed (omega (arith, inv.0, inv.1)) low c.older-back.ensures in (
      m,
      omega (arith, inv.0, inv.1),
      c.shorten.ensures.size ∙ inv.2,
      λ n a. rows_left c.shorten.ensures c.wait_of-wait.ensures low (omega (arith, inv.0, inv.1)) c.older-back.ensures (inv.3 n a).0,
    )

pub loop-v-preserved : goal.loop-v-preserved
loop-v-preserved c =
    let p = c.requires in
    let inv = c.loop-v.invariant in
    let low : c.args.v.0 < 64 = omega (arith, p.2, p.0.places) in
    let day : c.args.t.0 ≤ 255 = p.1.settling.indexed.now in
    let m = older-most (inv.3 p.1.rows p.1.settling).0.indexed (omega (arith, inv.0, inv.1)) low c.older-back.ensures in
    let e : c.loop-v.s.0 ≡ c.loop-v.s.0 - 1 + 1 = search rules in (
      omega (arith, inv.0),
      inv.1,
      c.regroup.ensures.group.size ∙ c.shorten.ensures.size ∙ inv.2,
      λ n a.
          let i = inv.3 n a in
          rows_none c.shorten.ensures c.wait_of-wait.ensures low (omega (arith, inv.0, inv.1)) c.older-back.ensures i.0 c.if-shorten.false (omega (arith, inv.1)) (omega (arith, inv.0)) m
          c.group-span.ensures.0 c.group-span.ensures.1 c.regroup.ensures (subst (Begins _ n _ _ _) e i.1),
    )
