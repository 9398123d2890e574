-- `intervals::derive` meets its contract: the occupancies of a valid sheet are a valid group.
-- Assumes nothing.
use mathlib.Core.Path.{sym, subst}
use mathlib.Core.List.{List}
use Prim.Native.Nat.{ℕ}
use Rattle.intervals.specs.FirstSteps.{ValidGroup, SinceTable}
use Rattle.intervals.proofs.Occupancies.{group}
use Rattle.intervals.proofs.derive.Goals as goal

pub fill_since-requires : goal.fill_since-requires
fill_since-requires c = subst ValidGroup (sym c.group.ensures.numbers) (group c.group.ensures.valid)

pub returns : goal.returns
returns c = record { valid = c.group.ensures.valid; firsts = subst (λ (l : List ℕ). SinceTable l c.fill_since.new.since) c.group.ensures.numbers c.fill_since.ensures }
