-- `sheet::writer::take_group`. Invariant: the first i lines of the group were taken, and the array holds them.
use Rattle.std.specs.Prelude.{◌≤◌}
use Rattle.sheet.specs.Inner.{GroupReached}
use Rattle.sheet.proofs.Writing.{Taken}
use Rattle.sheet.proofs.writer.take_group.Given as goal

abbrev pub invariant-loop-i : goal.invariant-loop-i
invariant-loop-i l =
    Taken l.k l.g l.initial.lines l.initial.all l.initial.next l.i l.lines l.all l.next × GroupReached l.lines l.all l.next × (l.i ≤ l.count)
