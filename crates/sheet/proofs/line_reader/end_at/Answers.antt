-- `sheet::line_reader::end_at` meets its contract: nothing is left, the line feed is missing, or it is where `feed_from` finds it.
-- Assumes nothing.
use Rattle.sheet.specs.Laws.LineEnding.{finds-over, finds-missing, finds-feed}
use Rattle.sheet.proofs.line_reader.end_at.Goals as goal

pub returns-then-src-at : goal.returns-then-src-at
returns-then-src-at c =
    let a = c.args in
    finds-over a.src.now a.at c.if-src-at.true

pub returns-then-e-src : goal.returns-then-e-src
returns-then-e-src c =
    let u = c.before in
    let a = u.args in
    finds-missing a.src.now a.at u.if-src-at.false u.feed_from-e.result u.feed_from-e.ensures c.if-e-src.true

pub returns : goal.returns
returns c =
    let u = c.before in
    let a = u.args in
    finds-feed a.src.now a.at u.if-src-at.false u.feed_from-e.result u.feed_from-e.ensures c.if-e-src.false
