-- `arrivals::offers::put_in` meets its contract: a cost that a row of the group leads changes nothing; any other is put in at its place, and what it leads,
-- which stands from there on, is dropped.
-- Assumes nothing.
use mathlib.Core.Logic.{inl}
use mathlib.Core.Path.{◌∙◌, refl}
use native.Mathlib.Omega.{arith}
use borrow.Author.Rules.{rules}
use Rattle.sheet.specs.Laws.Decided.{no_of, yes_of}
use Rattle.arrivals.specs.Inner.Offering.{beaten-more, offered-at, offered-not, swept-full, swept-one}
use Rattle.arrivals.proofs.offers.put_in.Goals as goal

pub place_of-p-requires : goal.place_of-p-requires
place_of-p-requires c = c.requires.0

pub beaten-requires : goal.beaten-requires
beaten-requires c = omega (arith, c.requires.0, c.place_of-p.ensures.most)

pub returns-then-beaten : goal.returns-then-beaten
returns-then-beaten c =
    let a = c.args in
    swept-one (λ j l. refl) c.requires.0
    (offered-not (inl (beaten-more a.table.now a.a a.d c.place_of-p.result c.place_of-p.ensures.most (yes_of c.beaten.ensures c.if-beaten.true))))

pub overflow_sub-d : goal.overflow_sub-d
overflow_sub-d c = omega (arith, c.place_of-p.ensures.most)

pub thin-k-requires : goal.thin-k-requires
thin-k-requires c = omega (arith, c.requires.0, c.place_of-p.ensures.most)

pub returns-then-table-a : goal.returns-then-table-a
returns-then-table-a c = swept-full (λ j l. c.thin-k.ensures.below j (omega arith)) (omega (arith, c.requires.0))

pub returns : goal.returns
returns c =
    let a = c.args in
    let t = c.thin-k.ensures in
    let i = c.insert.ensures in
    swept-one
    (λ j l. i.below j (omega arith) ∙ t.below j (omega arith))
    (omega arith)
    (offered-at a.here.place.0 a.here.step.0 a.g a.table.now a.a a.d c.place_of-p.result (search (rules, c.well_formed)) c.place_of-p.ensures _ _ _ c.requires.1
    (no_of c.beaten.ensures c.if-beaten.false) c.requires.2 t i)
