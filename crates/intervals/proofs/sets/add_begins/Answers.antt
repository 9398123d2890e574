-- `intervals::sets::add_begins` meets its contract: the occupancies of a valid sheet are a valid group.
-- Assumes nothing.
use mathlib.Core.Path.{sym, subst}
use mathlib.Core.List.{List}
use Prim.Native.Nat.{ℕ}
use Rattle.intervals.specs.FirstSteps.{ValidGroup}
use Rattle.intervals.specs.Inner.{FollowedBy}
use Rattle.intervals.proofs.Begins.{begins-in}
use Rattle.intervals.proofs.Occupancies.{got-back, group}
use Rattle.intervals.proofs.sets.add_begins.Goals as goal

pub add_ends-requires : goal.add_ends-requires
add_ends-requires c = (subst ValidGroup (sym c.group.ensures.numbers) (group c.group.ensures.valid), c.requires)

pub returns : goal.returns
returns c =
    let xs = c.args.sets.now in
    let ys = c.add_ends.new.sets in
    let f = subst (λ (l : List ℕ). FollowedBy l xs ys) c.group.ensures.numbers c.add_ends.ensures in
    record {
      kept = f.kept;
      of = λ since table v t inside first last e. begins-in _ since c.args.sheet.now (sym (got-back c.group.ensures.valid)) table v t inside first last e xs ys f;
    }
