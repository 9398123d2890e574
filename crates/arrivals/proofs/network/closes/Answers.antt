-- `arrivals::network::closes` meets its contract: three tests.
-- Assumes nothing.
use Rattle.std.proofs.Common.{◌∙◌, sym, eq-eqb, eqb-true}
use Rattle.sheet.specs.Laws.Order.{and-true, true-and}
use Rattle.sheet.specs.Laws.Decided.{decided-by}
use Rattle.arrivals.proofs.network.closes.Goals as goal

pub returns : goal.returns
returns c =
    decided-by _
    (λ e.
    let p = and-true _ _ e in
    let q = and-true _ _ p.0 in
    record {
      from = sym c.closure_number-from.ensures ∙ eqb-true _ _ q.0;
      to = sym c.closure_number-to.ensures ∙ eqb-true _ _ q.1;
      step = sym c.closure_number-step.ensures ∙ eqb-true _ _ p.1;
    })
    (λ p. true-and _ _
    (true-and _ _ (eq-eqb _ _ (c.closure_number-from.ensures ∙ p.from)) (eq-eqb _ _ (c.closure_number-to.ensures ∙ p.to)))
    (eq-eqb _ _ (c.closure_number-step.ensures ∙ p.step)))
