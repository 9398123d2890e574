-- `sheet::bytes::near_feed` meets its contract. Assumes nothing.
use Rattle.std.specs.Prelude.{◌≡◌, ◌≢◌}
use Rattle.std.proofs.Common.{arith, rules, sym, ◌∙◌, ap}
use Rattle.sheet.specs.Bytes.{line_feed}
use Rattle.sheet.specs.ByteKinds.{kind_number}
use Rattle.sheet.specs.declared.bytes.ByteKind.TheVariants.{LineFeed}
use Rattle.sheet.specs.Laws.ByteKinds.{kind-unlike}
use Rattle.sheet.specs.Laws.Parts.{span-stop, span_more, span-end}
use Rattle.sheet.proofs.bytes.near_feed.Goals as goal

pub returns-then-eq : goal.returns-then-eq
returns-then-eq c =
    let e : c.kind_of.result ≡ LineFeed = search rules in
    omega (arith, span-stop c.args.s.now c.loop-i.i line_feed c.loop-i-test.true (sym c.kind_of.ensures ∙ ap kind_number e))

pub loop-i-preserved : goal.loop-i-preserved
loop-i-preserved c =
    let n : c.kind_of.result ≢ LineFeed = search rules in
    omega (arith, span_more c.args.s.now c.loop-i.i line_feed c.loop-i-test.true (λ e. kind-unlike _ _ n (c.kind_of.ensures ∙ e)))

pub returns : goal.returns
returns c = omega (arith, span-end c.args.s.now c.loop-i.i line_feed c.loop-i-test.false)
