-- `sheet::judge::is_behind`. The loop's invariant: the counts from `later` on decide the same as all the later ones.
use Rattle.std.specs.Prelude.{◌≡◌, suc, ◌≤◌, drop}
use Rattle.sheet.specs.Lists.{any}
use Rattle.sheet.specs.Store.{kind_count}
use Rattle.sheet.proofs.Passing.{counted}
use Rattle.sheet.proofs.judge.is_behind.Given as goal

abbrev pub invariant-loop-later : goal.invariant-loop-later
invariant-loop-later l = (l.later ≤ kind_count) × (any counted (drop l.later l.lines) ≡ any counted (drop (suc l.kind) l.lines))
