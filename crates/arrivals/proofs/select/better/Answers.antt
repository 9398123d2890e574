-- `arrivals::select::better` meets its contract: nothing found so far, or g comes before it.
-- Assumes nothing.
use mathlib.Core.Path.{refl}
use Rattle.sheet.specs.Laws.Decided.{decided-as, false-not-true, holds, lex-decided}
use Rattle.arrivals.proofs.select.better.Goals as goal

pub returns-in-Some : goal.returns-in-Some
returns-in-Some c = rw c.in-Some.is (decided-as (λ p e. p) (λ f. f refl) (lex-decided c.args.g c.in-Some.c _ c.before-in-Some.ensures))

pub returns-in-None : goal.returns-in-None
returns-in-None c = rw c.in-None.is (holds (λ e. absurd (false-not-true refl e)))
