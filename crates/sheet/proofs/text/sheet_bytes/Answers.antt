-- `sheet::text::sheet_bytes` meets its contract. Assumes nothing.
use mathlib.Core.Path.{refl, sym, ◌∙◌, ap}
use mathlib.Core.List.{List, []}
use Prim.Native.Nat.{ℕ}
use native.Mathlib.Omega.{arith}
use lib.ListN.{length, length-append}
use lib.Seq.{take_all}
use Rattle.sheet.specs.Lists.{flat}
use Rattle.sheet.specs.Laws.Binds.{bind-more}
use Rattle.sheet.proofs.PutText.{sheet_texts, sheet-texts, sheet-texts-count, store-fits, store-text}
use Rattle.sheet.proofs.text.sheet_bytes.Goals as goal

pub loop-k-init : goal.loop-k-init
loop-k-init c = (omega arith, omega arith, λ s S. refl)

pub group_bytes-bytes-requires : goal.group_bytes-bytes-requires
group_bytes-bytes-requires c = (omega arith, store-fits c.requires.store c.loop-k.k (omega arith))

pub loop-k-preserved : goal.loop-k-preserved
loop-k-preserved c =
    let k = c.loop-k.k in
    let e = c.group_bytes-bytes.ensures in (
      omega arith,
      omega (arith, e.1),
      λ s S. omega (arith, c.loop-k.invariant.2 s S, e.0, ap length (store-text S k (omega arith)), simp length-append at (ap length (bind-more (λ l. l) [] (sheet_texts s) k (omega (arith, sheet-texts-count s))))),
    )

pub returns : goal.returns
returns c =
    let k = c.loop-k.k in
    record {
      of =
          λ s S. c.loop-k.invariant.2 s S ∙ ap (λ (l : List (List ℕ)). length (flat l)) (take_all k (sheet_texts s) (omega (arith, sheet-texts-count s))) ∙ sym (ap length (sheet-texts s));
    }
