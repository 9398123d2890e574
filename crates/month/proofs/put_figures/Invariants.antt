-- `month::put_figures`. The loop's invariant: the lines of the first i figures are written, of at most 62 bytes each.
use Rattle.month.proofs.Printing.{PutsUpTo}
use Rattle.month.proofs.put_figures.Given as goal

abbrev pub invariant-loop-i : goal.invariant-loop-i
invariant-loop-i l = PutsUpTo l.n l.sums l.i l.initial.out l.out l.next
