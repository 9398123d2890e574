-- What is known of the array that some valid sheet stands in: its lengths, the numbers of its lines and the numbers at its head; and what Inner/OfSheet.antt
-- says of a sheet, said of the groups of the array. The functions hold the sheet as one value, whose type has these facts, so that none cites them.
-- Assumes nothing.
use Rattle.std.specs.Prelude.{◌≡◌, List, ℕ, ◌*◌, ◌≤◌, ◌<◌, length}
use Rattle.std.proofs.Common.{sym, ◌∙◌, subst, arith}
use Rattle.sheet.specs.Lists.{number, flat}
use Rattle.sheet.specs.Kinds.{kind_c, kind_x, kind_o}
use Rattle.sheet.specs.Sheet.{Sheet, places, start}
use Rattle.sheet.specs.Store.{kind_count, base_of, store_room, SomeStore, part_of, sheet_in}
use Rattle.sheet.specs.Valid.{Valid}
use Rattle.sheet.specs.Laws.Store.{part-number, store-valid, store-few, store-numbers, store-counts, store-count}
use Rattle.sheet.specs.Laws.Store.{store_length, store-part, store-sheet, head-number}
use Rattle.intervals.specs.FirstSteps.{SinceTable}
use Rattle.arrivals.specs.Laws.Rows.{besides-wide}
use Rattle.arrivals.specs.Inner.Network.{case_of}
use Rattle.arrivals.specs.Inner.Laying.{Copied, LinksLaid, ClosuresLaid, Counted, Corridors, Closures, Laid, LaidIn}
use Rattle.arrivals.specs.Inner.Lent.{Given}
use Rattle.arrivals.specs.Inner.Meaning.{Fits}
use Rattle.arrivals.specs.Inner.OfSheet.{corridors-of as sheet_corridors, closures-of as sheet_closures, fits as sheet_fits, given as sheet_given}

module _ {lines all : List ℕ} (S : SomeStore lines all) where
  abbrev the : Sheet
  the = sheet_in lines all

  valid : Valid the
  valid = store-valid S.store

  pub few-lines : number lines kind_c.order ≤ 256
  few-lines = (store-few S.store kind_c.order (omega arith)).0

  pub few-closures : number lines kind_x.order ≤ 256
  few-closures = (store-few S.store kind_x.order (omega arith)).0

  pub kinds-counted : length lines ≡ kind_count
  kinds-counted = store-counts S.store

  pub whole-store : length all ≡ store_room
  whole-store = store_length S.store

  pub head_at : (i : ℕ) → i < 4 → number all i ≡ number the.head i
  head_at i h = head-number S.store i (omega arith)

  pub few-places : number all 0 ≤ 64
  few-places = omega (arith, head_at 0 (omega arith), valid.most-places)

  pub few-steps : number all 1 ≤ 255
  few-steps = omega (arith, head_at 1 (omega arith), valid.most-steps)

  pub counted-at : {c : ℕ} {a b : List ℕ} → Counted (number lines kind_c.order) (number all 0) (number all 2) c a b
      → Counted (number lines kind_c.order) (places the) (start the) c a b
  counted-at n =
      record {
        count = n.count;
        places = n.places ∙ head_at 0 (omega arith);
        start = n.start ∙ head_at 2 (omega arith);
        closures = n.closures;
        others = n.others;
      }

  -- the groups of the array are the lines of the sheet one after another
  corridors-in : part_of lines all kind_c.order ≡ flat the.corridors
  corridors-in =
      subst (λ (s : Sheet). part_of lines all kind_c.order ≡ flat s.corridors) (sym (store-sheet S.store)) (store-part S.store kind_c.order (omega arith))

  closures-in : part_of lines all kind_x.order ≡ flat the.closures
  closures-in =
      subst (λ (s : Sheet). part_of lines all kind_x.order ≡ flat s.closures) (sym (store-sheet S.store)) (store-part S.store kind_x.order (omega arith))

  occupancies-in : part_of lines all kind_o.order ≡ flat the.occupancies
  occupancies-in =
      subst (λ (s : Sheet). part_of lines all kind_o.order ≡ flat s.occupancies) (sym (store-sheet S.store)) (store-part S.store kind_o.order (omega arith))

  lines-counted : number lines kind_c.order ≡ length the.corridors
  lines-counted =
      subst (λ (s : Sheet). number lines kind_c.order ≡ length s.corridors) (sym (store-sheet S.store)) (store-count S.store kind_c.order (omega arith))

  closures-counted : number lines kind_x.order ≡ length the.closures
  closures-counted =
      subst (λ (s : Sheet). number lines kind_x.order ≡ length s.closures) (sym (store-sheet S.store)) (store-count S.store kind_x.order (omega arith))

  -- so the laws of the same names of Inner/OfSheet.antt hold of the array
  pub links-copied : {a b : List ℕ} → Copied (base_of kind_c.order) 832 (number lines kind_c.order * 5) all a b
      → LinksLaid (part_of lines all kind_c.order) a b
  links-copied c =
      record {
        numbers = λ i l.
            let h : i < number lines kind_c.order * 5 = omega (arith, store-numbers S.store kind_c.order (omega arith)) in
            c.numbers i h ∙ sym (part-number lines all kind_c.order i h);
        others = besides-wide 832 2112 (omega arith) (omega (arith, few-lines)) c.others;
      }

  pub closures-copied : {a b : List ℕ} → Copied (base_of kind_x.order) 3716 (number lines kind_x.order * 3) all a b
      → ClosuresLaid (part_of lines all kind_x.order) a b
  closures-copied c =
      record {
        numbers = λ i l.
            let h : i < number lines kind_x.order * 3 = omega (arith, store-numbers S.store kind_x.order (omega arith)) in
            c.numbers i h ∙ sym (part-number lines all kind_x.order i h);
        others = besides-wide 3716 4484 (omega arith) (omega (arith, few-closures)) c.others;
      }

  pub corridors-of : Corridors the (part_of lines all kind_c.order) (number lines kind_c.order)
  corridors-of =
      subst (λ (l : List ℕ). Corridors the l (number lines kind_c.order)) (sym corridors-in)
      (subst (λ (m : ℕ). Corridors the (flat the.corridors) m) (sym lines-counted) (sheet_corridors valid))

  pub closures-of : Closures (part_of lines all kind_x.order) (number lines kind_x.order)
  closures-of =
      subst (λ (l : List ℕ). Closures l (number lines kind_x.order)) (sym closures-in)
      (subst (λ (m : ℕ). Closures (flat the.closures) m) (sym closures-counted) (sheet_closures valid))

  module _ (firsts net : List ℕ) (table : SinceTable (part_of lines all kind_o.order) firsts)
      (laid : Laid the (part_of lines all kind_c.order) (part_of lines all kind_x.order) net) where
    firsts-of : SinceTable (flat the.occupancies) firsts
    firsts-of = subst (λ (l : List ℕ). SinceTable l firsts) occupancies-in table

    laid-in : LaidIn the net
    laid-in = subst (λ (l : List ℕ). Laid the (flat the.corridors) l net) closures-in
        (subst (λ (l : List ℕ). Laid the l (part_of lines all kind_x.order) net) corridors-in laid)

    pub fits : Fits the (case_of firsts net)
    fits = sheet_fits valid firsts net firsts-of laid-in

    pub given : Given firsts net
    given = sheet_given valid firsts net firsts-of laid-in
