-- `sheet::text::put_sheet` meets its contract. Assumes nothing.
use mathlib.Core.Path.{sym, ◌∙◌, ap}
use mathlib.Core.List.{[]}
use native.Mathlib.Omega.{arith}
use lib.ListN.{length}
use lib.Seq.{sets}
use Rattle.sheet.specs.Laws.Puts.{puts-length, puts-as, puts_none, puts-more, puts-all, puts-fits}
use Rattle.sheet.proofs.PutText.{sheet_texts, sheet-texts, sheet-texts-count, store-fits, store-text}
use Rattle.sheet.proofs.text.put_sheet.Goals as goal

pub loop-k-init : goal.loop-k-init
loop-k-init c = (omega arith, λ s S. puts_none _ _)

pub put_group-next-requires : goal.put_group-next-requires
put_group-next-requires c =
    let z = c.requires in
    let k = c.loop-k.k in
    let s = z.sheet in
    let p = c.loop-k.invariant.1 s z.store in
    let f = puts-fits (λ l. l) [] (sheet_texts s) k (omega (arith, sheet-texts-count s)) p in
    (omega arith, store-fits z.store k (omega arith), omega (arith, f, ap length (store-text z.store k (omega arith)), ap length (sheet-texts s), puts-length p, z.room))

pub loop-k-preserved : goal.loop-k-preserved
loop-k-preserved c = (
  omega arith,
  λ s S. puts-more (λ l. l) [] (sheet_texts s) c.loop-k.k (omega (arith, sheet-texts-count s)) (c.loop-k.invariant.1 s S) (puts-as (store-text S c.loop-k.k (omega arith)) c.put_group-next.ensures),
)

pub returns : goal.returns
returns c =
    record {
      of =
          λ s S. (puts-all (λ l. l) [] (sheet_texts s) c.loop-k.k (omega (arith, sheet-texts-count s)) (c.loop-k.invariant.1 s S)).out-is ∙ ap (sets c.args.out.now 0) (sym (sheet-texts s));
    }
