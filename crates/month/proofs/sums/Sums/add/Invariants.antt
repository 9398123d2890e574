-- `month::sums::Sums::add`. The loop's invariant: the first i figures have the cost besides, the rest are as they were.
use Rattle.std.specs.Prelude.{◌+◌, leb}
use Rattle.costs.specs.Costs.{fig}
use Rattle.month.specs.Inner.{better, above}
use Rattle.month.proofs.Holding.{Stepped}
use Rattle.month.proofs.sums.Sums.add.Given as goal

abbrev pub invariant-loop-i : goal.invariant-loop-i
invariant-loop-i l =
    record {
      totals : Stepped (λ k. fig l.initial.self.totals k + fig l.c k) l.initial.self.totals l.i l.self.totals;
      leasts : Stepped (λ k. better leb (fig l.initial.self.leasts k) (fig l.c k)) l.initial.self.leasts l.i l.self.leasts;
      greatests : Stepped (λ k. better above (fig l.initial.self.greatests k) (fig l.c k)) l.initial.self.greatests l.i l.self.greatests;
    }
