-- `month::lines::take_line` meets its contract: the line is bad, out of its range, one too many or added to the sums, each by one law.
-- Assumes nothing.
use mathlib.Core.Path.{◌≡◌, sym, ◌∙◌, ap}
use mathlib.Core.Bool.{true}
use mathlib.Core.Option.{some}
use Prim.Native.Nat.{◌<◌}
use native.Mathlib.Omega.{arith}
use lib.ListN.{length, replicate}
use Rattle.std.proofs.Common.{rules}
use Rattle.sheet.specs.declared.refusal.Refusal.TheVariants.{OutOfRange, MonthLines}
use Rattle.sheet.specs.Lines.{line, line_of}
use Rattle.costs.specs.Costs.{Cost}
use Rattle.costs.specs.Computed.{at_most_b}
use Rattle.month.specs.Month.{kind_m, figure_digits}
use Rattle.month.specs.Inner.{most_figure, most_lines, kinds_of_month}
use Rattle.month.proofs.Taking.{month-forms, parsed-none, parsed-some, fault-range, fault-count, fault-none, within-most, taken-bad, taken-fault, taken-added}
use Rattle.month.proofs.lines.take_line.Goals as goal
use Rattle.month.proofs.lines.take_line.Goals.{After-cost_from-c, Else-n-eq-MOST_LINES, Else-not-at_most}

pub line_in-requires : goal.line_in-requires
line_in-requires c = (record { kinds-of = kinds_of_month; forms = month-forms }, omega arith)

pub returns-in_default : goal.returns-in_default
returns-in_default c = taken-bad (parsed-none c.in_default.ensures)

-- the cost is made of the figures of the parsed line
line-is : (c : After-cost_from-c) → line_of figure_digits kinds_of_month c.args.l.now ≡ some (line kind_m c.cost_from-c.result)
line-is c = parsed-some c.in-Some.ensures (search rules) ∙ ap (λ (k : Cost). some (line kind_m k)) (sym c.cost_from-c.ensures)

three : (c : After-cost_from-c) → length c.cost_from-c.result ≡ 3
three c = ap length c.cost_from-c.ensures

pub returns-then-not-at_most : goal.returns-then-not-at_most
returns-then-not-at_most c =
    let k = (goal.at.returns-then-not-at_most c).After-cost_from-c in
    taken-fault _ (line-is k) OutOfRange (omega arith) (λ m e. fault-range m _ (three k) (sym c.at_most.ensures ∙ c.if-not-at_most.true))

-- no figure is above the most
small : (c : Else-not-at_most) → at_most_b c.cost_from-c.result (replicate 3 most_figure) ≡ true
small c = sym c.at_most.ensures ∙ c.if-not-at_most.false

pub returns-then-n-eq-MOST_LINES : goal.returns-then-n-eq-MOST_LINES
returns-then-n-eq-MOST_LINES c =
    let k = (goal.at.returns-then-n-eq-MOST_LINES c).After-cost_from-c in
    let r = small (goal.at.returns-then-n-eq-MOST_LINES c).Else-not-at_most in
    taken-fault _ (line-is k) MonthLines (omega arith) (λ m e. fault-count m _ (three k) r (omega (arith, e, c.if-n-eq-MOST_LINES.true)))

-- there is room for one line more
fewer : (c : Else-n-eq-MOST_LINES) → c.args.n < most_lines
fewer c = let g = c.requires in omega (arith, g.count, g.holds.few, c.if-n-eq-MOST_LINES.false)

pub add-requires : goal.add-requires
add-requires c =
    let g = c.requires in
    (record { month = g.month; holds = g.holds }, within-most _ (small (goal.at.add-requires c).Else-not-at_most))

pub returns : goal.returns
returns c =
    let f = fewer (goal.at.returns c).Else-n-eq-MOST_LINES in
    let k = (goal.at.returns c).After-cost_from-c in
    let r = small (goal.at.returns c).Else-not-at_most in
    taken-added _ (line-is k) f (within-most _ r) (λ m h. fault-none m _ (three k) r (omega (arith, h, f))) c.add.ensures
