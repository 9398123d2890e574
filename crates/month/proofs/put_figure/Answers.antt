-- `month::put_figure` meets its contract: the line has the numbers that the sums hold, and the mean of the total.
-- Assumes nothing.
use mathlib.Core.Path.{◌∙◌, ap}
use mathlib.Core.List.{[], ◌∷◌}
use Prim.Native.Nat.{ℕ, ◌+◌}
use native.Mathlib.Omega.{arith}
use Rattle.sheet.specs.Text.{printed}
use Rattle.sheet.specs.Laws.Printed.{printed-most}
use Rattle.sheet.specs.Laws.Puts.{puts-as}
use Rattle.costs.specs.Costs.{fig}
use Rattle.month.proofs.Printing.{figure-line, gathered-small}
use Rattle.month.proofs.put_figure.Goals as goal
use Rattle.month.proofs.put_figure.Goals.{Start}

pub mean_of-requires : goal.mean_of-requires
mean_of-requires c =
    let s = (goal.at.mean_of-requires c).Start in
    let l = gathered-small s.requires.2 s.args.i s.requires.0 in
    (l.0, s.requires.1, l.1)

pub put_line-requires : goal.put_line-requires
put_line-requires c =
    let s = (goal.at.put_line-requires c).Start in
    let i = s.args.i in
    omega (arith, s.requires.3, printed-most 11 65 ((i + 1) ∷ fig s.args.sums.now.totals i ∷ fig s.args.sums.now.leasts i ∷ fig s.args.sums.now.greatests i ∷ c.mean_of.result ∷ []))

pub returns : goal.returns
returns c =
    let s = (goal.at.returns c).Start in
    let i = s.args.i in
    record { of = λ m h e. puts-as (ap (λ (k : ℕ). printed 11 65 ((i + 1) ∷ fig s.args.sums.now.totals i ∷ fig s.args.sums.now.leasts i ∷ fig s.args.sums.now.greatests i ∷ k ∷ [])) c.mean_of.ensures ∙ figure-line h e s.requires.1 i s.requires.0) c.put_line.ensures }
