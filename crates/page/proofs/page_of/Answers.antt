-- `page::page_of` meets its contract: the page stands at the start of a buffer of zeros.
-- Assumes nothing.
use Rattle.page.proofs.Whole.{page-held}
use Rattle.page.proofs.page_of.Goals as goal

pub returns : goal.returns
returns c = page-held _ _ _ c.put_page-count.ensures
