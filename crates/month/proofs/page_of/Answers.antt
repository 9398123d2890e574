-- `month::page_of` meets its contract: the page is written to a buffer of zeros.
-- Assumes nothing.
use Rattle.month.proofs.Printing.{page-held}
use Rattle.month.proofs.page_of.Goals as goal

pub returns : goal.returns
returns c = page-held c.args.src.now _ _ c.put_page-count.ensures
