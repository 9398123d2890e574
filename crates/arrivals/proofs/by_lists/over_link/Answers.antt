-- `arrivals::by_lists::over_link` meets its contract: what enters over corridor j is what the costs of its source come to, but for what the pruning rule spares
-- and what another of them is nowhere above; over a closed corridor, or one to another place, nothing does.
-- Assumes nothing.
use mathlib.Core.Path.{◌∙◌, ◌≡◌, ap, subst, sym}
use Prim.Native.Nat.{ℕ, ◌-◌, ◌<◌}
use native.Mathlib.Omega.{arith}
use borrow.Author.Tests.{eqb-true}
use Rattle.sheet.specs.Laws.Decided.{false-not-true}
use Rattle.arrivals.specs.Inner.Network.{link_of, since_in}
use Rattle.arrivals.specs.Inner.Compared.{not-upto, other_of, same_of, upto_of}
use Rattle.arrivals.specs.Inner.Lent.{given-linked, link-lawful}
use Rattle.arrivals.specs.Inner.Entering.{led-up}
use Rattle.arrivals.specs.Inner.Lists.{FreshIn, past_of}
use Rattle.arrivals.specs.Inner.Offering.{swept_none}
use Rattle.arrivals.specs.Inner.Turning.{Taken, Turning, brought-enters, enters-brought, entry-none, entry_old, part-turnable}
use Rattle.arrivals.specs.Inner.Turning.{source-list, swept-over, taken_of}
use Rattle.arrivals.proofs.by_lists.over_link.Goals as goal

pub link_end-requires : goal.link_end-requires
link_end-requires c = let p = c.requires in (omega (arith, p.0.given.few, p.4), omega arith, p.0.given.size)

pub returns-then-ne : goal.returns-then-ne
returns-then-ne c = swept_none c.requires.1.room (λ g z. absurd (other_of c.ne.ensures c.if-ne.true (c.link_end.ensures ∙ z.into)))

pub link_end-from-requires : goal.link_end-from-requires
link_end-from-requires c = let p = c.requires in (omega (arith, p.0.given.few, p.4), omega arith, p.0.given.size)

pub bounds-live-from : goal.bounds-live-from
bounds-live-from c =
    let p = c.requires in
    omega (arith, c.link_end-from.ensures, (given-linked p.0.given).ends 0 c.args.j (omega arith) p.4, p.3.sourcing.size)

pub fresh-first-requires : goal.fresh-first-requires
fresh-first-requires c =
    let p = c.requires in
    (omega (arith, p.0.given.few, p.4), (given-linked p.0.given).ends 1 c.args.j (omega arith) p.4, p.0.given.closing, p.0.stands.first)

pub returns-then-le : goal.returns-then-le
returns-then-le c =
    let a = c.args in
    let p = c.requires in
    let into = sym c.link_end.ensures ∙ same_of c.ne.ensures c.if-ne.false in
    let e : past_of a.live.now c.link_end-from.result.0 ≡ past_of a.live.now (link_of a.net.now 0 a.j) = ap (past_of a.live.now) c.link_end-from.ensures in
    swept_none p.1.room
    (λ g z. entry_old _ _ _ _ _ p.0 _ p.3 a.j p.4 into c.fresh-first.result.0 c.fresh-first.ensures g (omega (arith, upto_of {a = past_of c.args.live.now c.link_end-from.result.0} {b = c.fresh-first.result.0} c.le.ensures c.if-le.true)) z)

pub overflow_sub-here : goal.overflow_sub-here
overflow_sub-here c = omega (arith, c.requires.0.stands.first)

pub first_step-since-requires : goal.first_step-since-requires
first_step-since-requires c =
    let p = c.requires in
    (omega (arith, c.link_end-from.ensures, (given-linked p.0.given).ends 0 c.args.j (omega arith) p.4), omega (arith, p.0.stands.last), p.0.given.intervals)

pub returns-then-le-2 : goal.returns-then-le-2
returns-then-le-2 c =
    let a = c.args in
    let p = c.requires in
    let e : past_of a.live.now c.link_end-from.result.0 ≡ past_of a.live.now (link_of a.net.now 0 a.j) = ap (past_of a.live.now) c.link_end-from.ensures in
    let s = c.first_step-since.ensures ∙ ap (λ (v : ℕ). since_in a.runs.now v (a.site.here.step.0 - 1)) c.link_end-from.ensures in
    swept_none p.1.room (λ g z. entry-none _ _ _ _ _ p.0 _ p.3 a.j p.4 g (omega (arith, upto_of {a = past_of c.args.live.now c.link_end-from.result.0} {b = c.first_step-since.result.0} c.le-2.ensures c.if-le-2.true, s)) z)

pub overflow_sub-here-2 : goal.overflow_sub-here-2
overflow_sub-here-2 c = omega (arith, c.requires.0.stands.first)

pub is_open-requires : goal.is_open-requires
is_open-requires c = let p = c.requires in (omega (arith, p.0.given.few, p.4), (given-linked p.0.given).ends 1 c.args.j (omega arith) p.4, p.0.given.closing)

pub returns-then-not-is_open : goal.returns-then-not-is_open
returns-then-not-is_open c = swept_none c.requires.1.room (λ g z. absurd (false-not-true c.if-not-is_open.true (c.is_open.ensures ∙ z.opens)))

pub overflow_add-first : goal.overflow_add-first
overflow_add-first c =
    let a = c.args in
    let p = c.requires in
    let e : past_of a.live.now c.link_end-from.result.0 ≡ past_of a.live.now (link_of a.net.now 0 a.j) = ap (past_of a.live.now) c.link_end-from.ensures in
    omega (arith, not-upto {a = past_of c.args.live.now c.link_end-from.result.0} {b = c.fresh-first.result.0} c.le.ensures c.if-le.false, (source-list _ _ _ _ _ p.0 _ p.3 a.j p.4).soon, p.0.stands.last)

pub part_of-part-requires : goal.part_of-part-requires
part_of-part-requires c =
    let a = c.args in
    let p = c.requires in (
      omega (arith, c.link_end-from.ensures, (given-linked p.0.given).ends 0 a.j (omega arith) p.4),
      omega (arith, p.3.sourcing.size),
      subst (FreshIn a.live.now) (sym c.link_end-from.ensures)
          (record { upto = (source-list _ _ _ _ _ p.0 _ p.3 a.j p.4).fresh }),
    )

pub turn_of-requires : goal.turn_of-requires
turn_of-requires c =
    let p = c.requires in
    let g = p.0.given in
    let j = c.args.j in
    (omega (arith, g.few, p.4), (given-linked g).ends 0 j (omega arith) p.4, g.size, p.0.stands.first, p.0.stands.last, g.legal.waits _ (link-lawful g j p.4).from, p.0.ready.waits)

pub from_part-requires : goal.from_part-requires
from_part-requires c =
    let a = c.args in
    let p = c.requires in
    let u = link_of a.net.now 0 a.j in
    let x = c.link_end-from.ensures in
    let t = a.site.here.step.0 in
    let l = source-list _ _ _ _ _ p.0 _ p.3 a.j p.4 in
    let into = sym c.link_end.ensures ∙ same_of c.ne.ensures c.if-ne.false in
    let e : past_of a.live.now c.link_end-from.result.0 ≡ past_of a.live.now u = ap (past_of a.live.now) x in
    let s = c.first_step-since.ensures ∙ ap (λ (v : ℕ). since_in a.runs.now v (t - 1)) x in
    let k : Taken a.live.now c.link_end-from.result.0 c.fresh-first.result.0 t c.part_of-part.result = taken_of _ _ _ _ _ _ c.part_of-part.ensures (λ z. eqb-true _ _ z) (subst (FreshIn a.live.now) (sym x) (record { upto = l.fresh })).upto in
    let o : Turning a.net.now a.j a.site.here c.turn_of.result = record { over = c.turn_of.ensures.0; cost = c.turn_of.ensures.1; rest = c.turn_of.ensures.2 } in (
      p.1,
      p.2,
      part-turnable _ _ _ _ _ p.0 _ p.3 a.j p.4 into c.fresh-first.result.0 c.fresh-first.ensures (omega (arith, not-upto {a = past_of c.args.live.now c.link_end-from.result.0} {b = c.first_step-since.result.0} c.le-2.ensures c.if-le-2.false, s)) c.part_of-part.result
          (subst (λ (v : ℕ). Taken a.live.now v c.fresh-first.result.0 t c.part_of-part.result) x k) c.turn_of.result o,
      c.turn_of.ensures.2,
    )

pub returns : goal.returns
returns c =
    let a = c.args in
    let p = c.requires in
    let u = link_of a.net.now 0 a.j in
    let x = c.link_end-from.ensures in
    let t = a.site.here.step.0 in
    let l = source-list _ _ _ _ _ p.0 _ p.3 a.j p.4 in
    let into = sym c.link_end.ensures ∙ same_of c.ne.ensures c.if-ne.false in
    let opens = sym c.is_open.ensures ∙ c.if-not-is_open.false in
    let e : past_of a.live.now c.link_end-from.result.0 ≡ past_of a.live.now u = ap (past_of a.live.now) x in
    let s = c.first_step-since.ensures ∙ ap (λ (v : ℕ). since_in a.runs.now v (t - 1)) x in
    let counts : since_in a.runs.now u (t - 1) < past_of a.live.now u = omega (arith, not-upto {a = past_of c.args.live.now c.link_end-from.result.0} {b = c.first_step-since.result.0} c.le-2.ensures c.if-le-2.false, s) in
    let k : Taken a.live.now c.link_end-from.result.0 c.fresh-first.result.0 t c.part_of-part.result = taken_of _ _ _ _ _ _ c.part_of-part.ensures (λ z. eqb-true _ _ z) (subst (FreshIn a.live.now) (sym x) (record { upto = l.fresh })).upto in
    let m = subst (λ (v : ℕ). Taken a.live.now v c.fresh-first.result.0 t c.part_of-part.result) x k in
    let o : Turning a.net.now a.j a.site.here c.turn_of.result = record { over = c.turn_of.ensures.0; cost = c.turn_of.ensures.1; rest = c.turn_of.ensures.2 } in
    swept-over
    (λ g z. brought-enters _ _ _ _ _ p.0 _ p.3 a.j p.4 into c.fresh-first.result.0 c.fresh-first.ensures counts c.part_of-part.result m c.turn_of.result o opens g z)
    (λ g z. enters-brought _ _ _ _ _ p.0 _ p.3 a.j p.4 into c.fresh-first.result.0 c.fresh-first.ensures counts c.part_of-part.result m c.turn_of.result o g z)
    (λ f g n. led-up a.site.here f g n)
    c.from_part.ensures
