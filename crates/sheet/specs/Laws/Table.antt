-- For each of the 256 bytes the kind is the one that the table gave (document 02, E4): one computed test of the table, and from it the fact for each byte.
use Rattle.std.specs.Prelude.{◌≡◌, refl, true, ◌&&◌, ℕ, ◌<◌, eqb, length}
use Rattle.std.proofs.Common.{arith, eqb-true}
use Rattle.sheet.specs.Lists.{number}
use Rattle.sheet.specs.Bytes.{kind_of}
use Rattle.sheet.specs.Table.{kind_table}
use Rattle.sheet.specs.Laws.Order.{and-true}
use Rattle.sheet.specs.Laws.Members.{all_from, all-at}

-- the table has 256 entries, each the kind of the byte at whose position it stands
tested : eqb (length kind_table) 256 && all_from (λ b k. eqb (kind_of b) k) 0 kind_table ≡ true
unfolding kind_table kind_of
tested = refl

pub kind-of-table : (b : ℕ) → b < 256 → kind_of b ≡ number kind_table b
kind-of-table b h =
    let t = and-true (eqb (length kind_table) 256) (all_from (λ b k. eqb (kind_of b) k) 0 kind_table) tested in
    let n = eqb-true (length kind_table) 256 t.0 in
    eqb-true (kind_of b) (number kind_table b) (all-at (λ b k. eqb (kind_of b) k) 0 kind_table t.1 b (omega (arith, n)))
