-- `arrivals::by_lists::offer_live` meets its contract: a cost that one of the costs of the place is nowhere above is led by an older row, and changes nothing;
-- any other is put in.
-- Assumes nothing.
use mathlib.Core.Path.{subst, sym}
use Rattle.sheet.specs.Laws.Decided.{no_of, yes_of}
use Rattle.costs.specs.Costs.{Cost}
use Rattle.arrivals.specs.Inner.Entering.{LedAt}
use Rattle.arrivals.specs.Inner.Lists.{LedIn}
use Rattle.arrivals.specs.Inner.Offering.{swept_none}
use Rattle.arrivals.specs.Inner.Rows.{rows_of}
use Rattle.arrivals.proofs.by_lists.offer_live.Goals as goal

pub is_led-requires : goal.is_led-requires
is_led-requires c = c.requires.1.inside

pub returns-then-is_led : goal.returns-then-is_led
returns-then-is_led c =
    let a = c.args in
    let p = c.requires in
    let led = p.1.led a.g (subst (LedIn a.live.now a.site.own) p.2 (yes_of c.is_led.ensures c.if-is_led.true)) in
    swept_none p.0.room (λ h e. subst (λ (x : Cost). LedAt (rows_of a.table.now a.a) a.site.here x) (sym e) led)

pub put_in-requires : goal.put_in-requires
put_in-requires c =
    let a = c.args in
    let p = c.requires in
    (p.0.room, p.0.sorted, λ l. no_of c.is_led.ensures c.if-is_led.false (subst (LedIn a.live.now a.site.own) (sym p.2) (p.1.shown a.g l)))

pub returns : goal.returns
returns c = c.put_in.ensures
