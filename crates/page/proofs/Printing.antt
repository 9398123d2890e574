-- The two lines that are written of a row of the front list and of the path laid from its arrival: they fit, and they are those of its front cost.
-- Assumes nothing.
use Rattle.std.specs.Prelude.{◌≡◌, List, ℕ, ◌+◌, ◌≤◌, length, take}
use Rattle.std.proofs.Common.{sym, ◌∙◌, ap, arith, length-append, length-take-le}
use Rattle.sheet.specs.Lists.{number, filled}
use Rattle.sheet.specs.Sheet.{Sheet}
use Rattle.sheet.specs.Text.{printed, most_printed}
use Rattle.sheet.specs.Laws.Puts.{Puts, puts-as, puts-append, puts-length}
use Rattle.costs.specs.Costs.{Cost}
use Rattle.journeys.specs.Computed.{journey_of}
use Rattle.journeys.specs.Calls.{front_row}
use Rattle.page.specs.Page.{journey_lines}
use Rattle.page.specs.Inner.{cost_in, Printable}
use Rattle.page.specs.Laws.Offers.{printable-row, printable-short, printable-path, path-is}

-- the two lines of a row
module _ {sheet : Sheet} {since table : List ℕ} {n : ℕ} {row out : List ℕ} {at : ℕ} (p : Printable sheet since table n row out at) where
  abbrev path-of : List ℕ
  path-of = journey_of sheet (cost_in row)

  both : length (journey_lines sheet (cost_in row)) ≡ length (printed most_printed 74 row) + length (printed most_printed 80 path-of)
  unfolding journey_lines
  both =
      length-append (printed most_printed 74 (front_row sheet (cost_in row))) (printed most_printed 80 path-of)
      ∙ ap (λ (l : List ℕ). length (printed most_printed 74 l) + length (printed most_printed 80 path-of)) (sym p.row_is)

  pub first_fits : (length row ≤ 256) × (at + length (printed most_printed 74 row) ≤ length out)
  first_fits = (omega (arith, printable-row p), omega (arith, both, p.room))

  -- with the path laid
  module _ (g : Cost) (e : g ≡ cost_in row) (path' : List ℕ) (w : path' ≡ filled 256 (journey_of sheet g)) where
    pub second_fits : {out₁ : List ℕ} {m : ℕ} → Puts (printed most_printed 74 row) out at out₁ m
        → (length (take (number row 3 + 1) path') ≤ 256) × (m + length (printed most_printed 80 (take (number row 3 + 1) path')) ≤ length out₁)
    second_fits h = (
      omega (arith, length-take-le (number row 3 + 1) path' (omega (arith, printable-short p, printable-path p g e path' w)), printable-short p),
      omega (arith, both, p.room, h.next-is, puts-length h, ap (λ (l : List ℕ). length (printed most_printed 80 l)) (path-is p g e path' w)),
    )

    pub prints : {out₁ out₂ : List ℕ} {m r : ℕ} → Puts (printed most_printed 74 row) out at out₁ m → Puts (printed most_printed 80 (take (number row 3 + 1) path')) out₁ m out₂ r
        → Puts (journey_lines sheet (cost_in row)) out at out₂ r
    unfolding journey_lines
    prints h k = puts-append (puts-as (ap (printed most_printed 74) p.row_is) h) (puts-as (ap (printed most_printed 80) (path-is p g e path' w)) k)
