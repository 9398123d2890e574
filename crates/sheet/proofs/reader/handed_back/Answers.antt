-- `sheet::reader::handed_back` meets its contract: each group stands at its base, at full length.
-- Assumes nothing.
use mathlib.Core.Path.{◌∙◌, ap}
use mathlib.Core.List.{append-nil}
use native.Mathlib.Omega.{arith}
use Rattle.sheet.specs.Lists.{filled}
use Rattle.sheet.specs.Kinds.{room, kind_s}
use Rattle.sheet.specs.Calls.{read_answer}
use Rattle.sheet.specs.Laws.Store.{store-full}
use Rattle.sheet.proofs.reader.handed_back.Goals as goal

pub returns : goal.returns
unfolding read_answer
returns c =
    record {
      of = λ s S i. record {
        refusal = 0;
        line = 0;
        lines = S.counts i;
        head = (c.copy_from_slice.ensures.after ∙ store-full S 0 (omega arith) ∙ ap (filled (room kind_s)) (append-nil s.head)) i;
        waits = (c.copy_from_slice-2.ensures.after ∙ store-full S 1 (omega arith)) i;
        corridors = (c.copy_from_slice-3.ensures.after ∙ store-full S 2 (omega arith)) i;
        closures = (c.copy_from_slice-4.ensures.after ∙ store-full S 3 (omega arith)) i;
        occupancies = (c.copy_from_slice-5.ensures.after ∙ store-full S 4 (omega arith)) i;
      };
    }
