-- `arrivals::expand::from_link` meets its contract: what enters over corridor j is what the rows of its source arrive with, but for what the
-- pruning rule spares; over a closed corridor, or one to another place, nothing does.
-- Assumes nothing.
use mathlib.Core.Path.{◌∙◌, ◌≡◌, ap, subst, sym}
use Prim.Native.Nat.{◌≤◌, ℕ}
use native.Mathlib.Omega.{arith}
use Rattle.sheet.specs.Laws.Decided.{false-not-true}
use Rattle.arrivals.specs.Inner.Compared.{other_of, same_of, upto_of}
use Rattle.arrivals.specs.Inner.Index.{Covers, newest_of, none_after}
use Rattle.arrivals.specs.Inner.Network.{wait_in}
use Rattle.arrivals.specs.Inner.Lent.{given-linked}
use Rattle.arrivals.specs.Inner.Offering.{swept_as, swept_none}
use Rattle.arrivals.specs.Inner.Pruning.{enters_none, enters-tried, fair-of, tried-enters}
use Rattle.arrivals.proofs.expand.from_link.Goals as goal

pub link_end-requires : goal.link_end-requires
link_end-requires c = (omega (arith, c.requires.0.given.few), omega arith, c.requires.0.given.size)

pub returns-then-ne : goal.returns-then-ne
returns-then-ne c = swept_none c.requires.1.room (λ g z. absurd (other_of c.ne.ensures c.if-ne.true (c.link_end.ensures ∙ z.into)))

pub fresh-first-requires : goal.fresh-first-requires
fresh-first-requires c =
    (omega (arith, c.requires.0.given.few), (given-linked c.requires.0.given).ends 1 c.args.j (omega arith) c.requires.2, c.requires.0.given.closing, c.requires.0.stands.first)

pub link_end-requires-2 : goal.link_end-requires-2
link_end-requires-2 c = (omega (arith, c.requires.0.given.few), omega arith, c.requires.0.given.size)

pub newest-requires : goal.newest-requires
newest-requires c = (omega (arith, c.link_end-2.ensures, (given-linked c.requires.0.given).ends 0 c.args.j (omega arith) c.requires.2), omega (arith, c.requires.1.indexed.size))

pub returns-then-le : goal.returns-then-le
returns-then-le c =
    let p = c.requires in
    let last = subst (λ (u : ℕ). c.newest.result.0 ≡ newest_of c.args.ix.now u) c.link_end-2.ensures c.newest.ensures in
    let into = sym c.link_end.ensures ∙ same_of c.ne.ensures c.if-ne.false in
    let few : c.newest.result.0 ≤ c.fresh-first.result.0 = upto_of c.le.ensures c.if-le.true in
    swept_none p.1.room (λ g z. enters_none _ _ _ _ _ p.0 c.args.j p.2 into c.fresh-first.result.0 c.fresh-first.ensures g (none_after p.1.indexed _ _ (omega (arith, few, last))) z)

pub overflow_sub-here : goal.overflow_sub-here
overflow_sub-here c = omega (arith, c.requires.0.stands.first)

pub is_open-requires : goal.is_open-requires
is_open-requires c =
    (omega (arith, c.requires.0.given.few), (given-linked c.requires.0.given).ends 1 c.args.j (omega arith) c.requires.2, c.requires.0.given.closing)

pub returns-then-not-is_open : goal.returns-then-not-is_open
returns-then-not-is_open c = swept_none c.requires.1.room (λ g z. absurd (false-not-true c.if-not-is_open.true (c.is_open.ensures ∙ z.opens)))

pub source_of-requires : goal.source_of-requires
source_of-requires c = (c.requires.0.given, c.requires.2, c.requires.0.stands.first, c.requires.0.stands.last)

pub from_place-requires : goal.from_place-requires
from_place-requires c =
    let p = c.requires in
    let o = c.source_of.ensures in
    let f = fair-of _ _ c.args.j _ _ _ p.0.given p.2 o in
    (p.1, f, subst (Covers _ _ _ _ _) (sym (o.wait ∙ ap (wait_in c.args.net.now) (sym o.place))) (p.3 _ f.inside))

pub returns : goal.returns
returns c =
    let p = c.requires in
    let j = c.args.j in
    let f = c.fresh-first.ensures in
    let s = c.source_of.ensures in
    let into = sym c.link_end.ensures ∙ same_of c.ne.ensures c.if-ne.false in
    let opens = sym c.is_open.ensures ∙ c.if-not-is_open.false in
    swept_as (λ g z. tried-enters _ _ _ _ _ p.0 j p.2 into _ f _ g s opens z) (λ g z. enters-tried _ _ _ _ _ p.0 j p.2 into _ f _ g s z) c.from_place.ensures
