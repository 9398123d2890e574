-- What follows a full buffer changes nothing, since the buffer has the bytes that decide.
use Rattle.std.proofs.Common.{sym, ◌∙◌}
use Rattle.month.specs.Laws.Cut.{whole-input}
use Rattle.month.specs.Laws.Page.{held-within}
use Rattle.month_page.proofs.page_from.Goals as goal

pub returns : goal.returns
returns c =
    let e = c.page_of.ensures in
    record {
      of = λ rest f. e ∙ sym (whole-input c.args.buffer.now rest c.args.n c.requires.within c.requires.decides f);
      fits = held-within _ _ e;
    }
