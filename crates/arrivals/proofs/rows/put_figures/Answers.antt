-- `arrivals::rows::put_figures` meets its contract: three numbers are copied. Assumes nothing.
use Rattle.std.proofs.Common.{◌≡◌, List, ℕ, ◌+◌, ◌≤◌, length, ⊎_elim, arith}
use Rattle.std.proofs.lemmas.Grind.{common_steps}
use Rattle.std.proofs.lemmas.List.{places}
use borrow.Rule.Slice.PartMut.{put_mid}
use Rattle.sheet.specs.Laws.Decided.{from-of}
use Rattle.arrivals.specs.Rows.{FiguresPut}
use Rattle.arrivals.proofs.rows.put_figures.Goals as goal

copied : (at k : ℕ) (c xs ys : List ℕ) → k ≡ 3 → at + 3 ≤ length xs → length c ≡ 3 → ys ≡ c → FiguresPut at c xs (put_mid at k xs ys)
copied at k c xs ys e room three is =
    record {
      others = record { size = grind (arith, common_steps, places); same = λ i o. ⊎_elim (λ l. grind (arith, common_steps, places)) (λ l. grind (arith, common_steps, places)) o };
      figures = from-of 3 at (put_mid at k xs ys) c three (λ q l. grind (arith, common_steps, places));
    }

pub returns : goal.returns
returns c = copied _ _ _ _ _ (omega arith) c.requires (omega arith) c.copy_from_slice.ensures.after
