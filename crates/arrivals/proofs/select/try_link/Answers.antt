-- `arrivals::select::try_link` meets its contract: over corridor j comes what the rows of its source arrive with, but for what the pruning rule
-- spares, which is led.
-- Assumes nothing.
use mathlib.Core.Logic.{⊎_elim}
use mathlib.Core.Path.{◌∙◌, sym}
use native.Mathlib.Omega.{arith}
use Rattle.sheet.specs.Laws.Decided.{false-not-true}
use Rattle.arrivals.specs.Inner.Compared.{other_of, same_of}
use Rattle.arrivals.specs.Inner.Pruning.{enters-tried, fair-of, tried-enters}
use Rattle.arrivals.specs.Inner.Selecting.{improved-as, improved-skip}
use Rattle.arrivals.specs.Inner.Lent.{given-linked}
use Rattle.arrivals.proofs.select.try_link.Goals as goal

pub link_end-requires : goal.link_end-requires
link_end-requires c = (omega (arith, c.requires.0.given.few), omega arith, c.requires.0.given.size)

pub returns-then-ne : goal.returns-then-ne
returns-then-ne c = improved-skip _ _ (λ g q. other_of c.ne.ensures c.if-ne.true (c.link_end.ensures ∙ q.0.into))

pub is_open-requires : goal.is_open-requires
is_open-requires c =
    (omega (arith, c.requires.0.given.few), (given-linked c.requires.0.given).ends 1 c.args.j (omega arith) c.requires.1, c.requires.0.given.closing)

pub returns-then-not-is_open : goal.returns-then-not-is_open
returns-then-not-is_open c = improved-skip _ _ (λ g q. false-not-true c.if-not-is_open.true (c.is_open.ensures ∙ q.0.opens))

pub fresh-first-requires : goal.fresh-first-requires
fresh-first-requires c =
    (omega (arith, c.requires.0.given.few), (given-linked c.requires.0.given).ends 1 c.args.j (omega arith) c.requires.1, c.requires.0.given.closing, c.requires.0.stands.first)

pub source_of-requires : goal.source_of-requires
source_of-requires c = (c.requires.0.given, c.requires.1, c.requires.0.stands.first, c.requires.0.stands.last)

pub scan_rows-requires : goal.scan_rows-requires
scan_rows-requires c = (c.requires.0.ready, fair-of _ _ c.args.j _ _ _ c.requires.0.given c.requires.1 c.source_of.ensures)

pub returns : goal.returns
returns c = let p = c.requires in let into = sym c.link_end.ensures ∙ same_of c.ne.ensures c.if-ne.false in improved-as _ _ _ _ (λ g z. (tried-enters _ _ _ _ _ p.0 c.args.j p.1 into _ c.fresh-first.ensures _ g c.source_of.ensures (sym c.is_open.ensures ∙ c.if-not-is_open.false) z.0, z.1)) (λ g z. (⊎_elim (λ t. t) (λ l. absurd (z.1 l)) (enters-tried _ _ _ _ _ p.0 c.args.j p.1 into _ c.fresh-first.ensures _ g c.source_of.ensures z.0), z.1)) c.scan_rows.ensures
