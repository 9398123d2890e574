-- What the front left is enough for the lines of the front costs, and the page in a buffer of zeros is the page as the program holds it.
-- Assumes nothing.
use Rattle.std.specs.Prelude.{◌≡◌, List, [], ◌∷◌, ℕ, ◌*◌, ◌≤◌, length, take, replicate}
use Rattle.std.proofs.Common.{◌∙◌, ap, arith}
use Rattle.sheet.specs.Sheet.{Sheet}
use Rattle.sheet.specs.Text.{printed, most_printed}
use Rattle.sheet.specs.Laws.Stores.{length-filled}
use Rattle.sheet.specs.Laws.Puts.{Puts, puts-length, puts-filled}
use Rattle.journeys.specs.Calls.{front_end, front_on}
use Rattle.journeys.specs.declared.FrontAnswer.{FrontAnswer}
use Rattle.journeys.specs.Laws.Searched.{ready-is}
use Rattle.page.specs.Page.{front_line, page, page_room, held}
use Rattle.sheet.specs.declared.printed.Printed.{Printed}
use Rattle.page.specs.Inner.{Servable, Offered}
use Rattle.page.specs.Laws.Whole.{arrivals-are, table_is, in_table, in_list, first-line, listed}
use Rattle.page.proofs.Room.{served-fits, page-fits}

-- the front was served
module _ {sheet : Sheet} {since table list out : List ℕ} (d : Servable sheet since table list out) (r : FrontAnswer) (table' list' : List ℕ)
    (e : front_end r table' list' ≡ front_on sheet table list) (z : r.refusal ≡ 0) where
  -- what the lines of the front costs need
  pub served-offers : {out₁ : List ℕ} {m : ℕ} → Puts (printed most_printed 70 (r.costs ∷ r.arrivals ∷ [])) out 0 out₁ m
      → Offered sheet since table' r.arrivals (take (r.costs * 4) list') out₁ m
  served-offers p =
      let f : length (printed most_printed 70 (r.costs ∷ r.arrivals ∷ [])) ≡ length (front_line sheet) = ap length (first-line d r table' list' e z) in
      record {
        derived = d.derived;
        holds = (ready-is sheet table table' r.arrivals (in_table d r table' list' e z) (arrivals-are d r table' list' e z) (table_is d r table' list' e z)).holds;
        listed = listed d r table' list' e z;
        room = omega (arith, p.next-is, puts-length p, d.lent.out-room, f, served-fits sheet d.derived.valid (in_list d r table' list' e z));
      }

-- a page in a buffer of zeros is the page as the program holds it
pub page-held : (b out : List ℕ) (n : ℕ) → Puts (page b) (replicate page_room 0) 0 out n → record { bytes = out; count = n } ≡ held b
unfolding held
page-held b out n p =
    let f = puts-filled page_room (page-fits b) p in
    λ i. record { bytes = f.0 i; count = f.1 i }

pub held-within : (r : Printed page_room) (b : List ℕ) → r ≡ held b → r.count ≤ length r.bytes
unfolding held
held-within r b e =
    let n : r.count ≡ length (page b) = ap (λ (x : Printed page_room). x.count) e in
    let l : length r.bytes ≡ page_room = ap (λ (x : Printed page_room). length x.bytes) e ∙ length-filled page_room (page b) (page-fits b) in
    omega (arith, n, l, page-fits b)
