-- What is written lies within the page's bytes: the page is the one that is promised, which has room in them.
use Rattle.std.proofs.Common.{arith}
use Rattle.page.proofs.Whole.{held-within}
use Rattle.plan.proofs.main.Goals as goal

pub text-requires : goal.text-requires
text-requires c = (omega arith, held-within _ _ c.page_of-page.ensures)
