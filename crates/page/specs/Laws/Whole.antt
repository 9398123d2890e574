-- The whole page off the front of the sheet: the refusal alone, or the counts and then the lines of the front costs. That the table and the list that the
-- front left are enough for them stands in proofs/Whole.antt.
use Rattle.std.specs.Prelude.{◌≡◌, ◌≢◌, Bool, List, [], ◌∷◌, ◌++◌, ℕ, ◌*◌, ◌-◌, ◌≤◌, ◌/◌, length, take, replicate}
use Rattle.std.proofs.Math.Path.{refl, ap, ap₂}
use Rattle.std.proofs.Common.{sym, ◌∙◌, arith, take_at}
use Rattle.std.proofs.Math.Bool.{true, false}
use borrow.Author.Tests.{le-ltb}
use Rattle.sheet.specs.Lists.{bind, filled}
use Rattle.sheet.specs.Sheet.{Sheet, told, read_of}
use Rattle.sheet.specs.Store.{sheet_in, VerdictIs}
use Rattle.sheet.specs.Text.{printed, most_printed, refusal_line}
use Rattle.sheet.specs.Refusals.{Verdict}
use Rattle.sheet.specs.Laws.Store.{store-sheet}
use Rattle.sheet.specs.Laws.Puts.{Puts, puts-as, puts-append}
use Rattle.arrivals.specs.Computed.{leading}
use Rattle.arrivals.specs.Table.{crowded, arrival_table}
use Rattle.journeys.specs.Computed.{front}
use Rattle.journeys.specs.Calls.{front_row, overfull, FrontEnd, front_end, front_served, front_on}
use Rattle.journeys.specs.declared.FrontAnswer.{FrontAnswer}
use Rattle.journeys.specs.Laws.Served.{on-served, list_length}
use Rattle.page.specs.Page.{front_line, offer_lines, table_numbers, list_numbers, page_on, page}
use Rattle.page.specs.Inner.{Lent, Servable}
use Rattle.page.specs.Laws.Room.{few-costs}

-- the page of a sheet off the two tests, as the front makes them in buffers of the lengths that the program lends
module _ (s : Sheet) (table list out : List ℕ) (l : Lent table list out) where
  refused-by : (t u : Bool) → crowded s table_numbers ≡ t → overfull s list_numbers ≡ u → (front_on s table list).answer.refusal ≢ 0
      → page_on s ≡ refusal_line (front_on s table list).answer.refusal (front_on s table list).answer.line
  unfolding page_on front_on front_served
  refused-by true u e f z = rw (l.table-room, e) refl
  refused-by false true e f z = rw (l.table-room, l.list-room, e, f) refl
  refused-by false false e f z = absurd (z (rw (l.table-room, l.list-room, e, f) refl))

  -- the front was refused
  pub refused-on : (r : FrontAnswer) (table' list' : List ℕ) → front_end r table' list' ≡ front_on s table list → r.refusal ≢ 0 → page_on s ≡ refusal_line r.refusal r.line
  refused-on r table' list' e z =
      let k : r.refusal ≡ (front_on s table list).answer.refusal = ap (λ (x : FrontEnd). x.answer.refusal) e in
      let n : r.line ≡ (front_on s table list).answer.line = ap (λ (x : FrontEnd). x.answer.line) e in
      refused-by (crowded s table_numbers) (overfull s list_numbers) refl refl (λ q. z (k ∙ q)) ∙ sym (ap₂ refusal_line k n)

-- the front was served
module _ {sheet : Sheet} {since table list out : List ℕ} (d : Servable sheet since table list out) (r : FrontAnswer) (table' list' : List ℕ)
    (e : front_end r table' list' ≡ front_on sheet table list) (z : r.refusal ≡ 0) where
  serves : (length (leading sheet) ≤ length table / 5) × (length (front sheet) ≤ length list / 4) × (front_on sheet table list ≡ front_served sheet table list)
  serves = on-served sheet table list (ap (λ (x : FrontEnd). x.answer.refusal) (sym e) ∙ z)

  ends : front_end r table' list' ≡ front_served sheet table list
  ends = e ∙ serves.2

  costs-are : r.costs ≡ length (front sheet)
  unfolding front_served
  costs-are = ap (λ (x : FrontEnd). x.answer.costs) ends

  pub arrivals-are : r.arrivals ≡ length (leading sheet)
  unfolding front_served
  arrivals-are = ap (λ (x : FrontEnd). x.answer.arrivals) ends

  pub table_is : table' ≡ arrival_table sheet (length table)
  unfolding front_served
  table_is = ap (λ (x : FrontEnd). x.table) ends

  list-is : list' ≡ filled (length list) (bind (front sheet) (front_row sheet))
  unfolding front_served
  list-is = ap (λ (x : FrontEnd). x.list) ends

  pub in_table : crowded sheet (length table) ≡ false
  unfolding crowded
  in_table = le-ltb _ (length (leading sheet)) serves.0

  pub in_list : overfull sheet list_numbers ≡ false
  unfolding overfull
  in_list = ap (overfull sheet) (sym d.lent.list-room) ∙ le-ltb _ (length (front sheet)) serves.1

  pub first-line : printed most_printed 70 (r.costs ∷ r.arrivals ∷ []) ≡ front_line sheet
  unfolding front_line
  first-line = ap₂ (λ (m n : ℕ). printed most_printed 70 (m ∷ n ∷ [])) costs-are arrivals-are

  whole : page_on sheet ≡ front_line sheet ++ offer_lines sheet
  unfolding page_on
  whole = let c : crowded sheet table_numbers ≡ false = ap (crowded sheet) (sym d.lent.table-room) ∙ in_table in rw (c, in_list)

  pub few : r.costs ≤ 200
  few = omega (arith, costs-are, few-costs sheet in_list)

  pub listed : take (r.costs * 4) list' ≡ bind (front sheet) (front_row sheet)
  listed =
      let b = bind (front sheet) (front_row sheet) in
      ap (take (r.costs * 4)) list-is ∙ take_at b (replicate (length list - length b) 0) (r.costs * 4) (omega (arith, list_length sheet, costs-are))

  pub served-whole : {out₁ out₂ : List ℕ} {m k : ℕ} → Puts (printed most_printed 70 (r.costs ∷ r.arrivals ∷ [])) out 0 out₁ m → Puts (offer_lines sheet) out₁ m out₂ k
      → Puts (page_on sheet) out 0 out₂ k
  served-whole p o = puts-as (sym whole) (puts-append (puts-as first-line p) o)

-- the page off what was read
module _ (b : List ℕ) (lines all : List ℕ) (r : Verdict) (v : VerdictIs (read_of b) lines all r) where
  pub unread : r.refusal ≢ 0 → refusal_line r.refusal r.line ≡ page b
  unfolding page
  unread z = ap (told refusal_line page_on) (sym (v.refuses z))

  pub was_read : r.refusal ≡ 0 → page_on (sheet_in lines all) ≡ page b
  unfolding page
  was_read z = let h = v.holds z in ap page_on (store-sheet h.2) ∙ ap (told refusal_line page_on) (sym h.1)
