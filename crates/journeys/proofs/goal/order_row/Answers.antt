-- `journeys::goal::order_row` meets its contract: the row is left out, or it is put in.
-- Assumes nothing.
use Rattle.journeys.proofs.Ordering.{seekable-ordering, linkable-ordering, ordering-led, ordering-put}
use Rattle.journeys.proofs.goal.order_row.Goals as goal

pub seek-s-requires : goal.seek-s-requires
seek-s-requires c = seekable-ordering c.requires.ordering c.requires.room

pub returns-then-s : goal.returns-then-s
returns-then-s c = record { of = λ v counting base o e. ordering-led o c.requires.room c.row_cost.ensures c.seek-s.ensures c.if-s.true }

pub link_in-requires : goal.link_in-requires
link_in-requires c = linkable-ordering c.requires.ordering c.requires.room c.row_cost.ensures c.seek-s.ensures c.requires.small

pub returns : goal.returns
returns c = record { of = λ v counting base o e. ordering-put o c.requires.room c.row_cost.ensures c.seek-s.ensures c.if-s.false e _ _ c.link_in.ensures.0 c.link_in.ensures.1 }
