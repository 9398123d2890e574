-- A valid sheet in one array, and the fact that a held sheet carries: each gives the other.
-- Assumes nothing.
use Rattle.std.specs.Prelude.{◌≡◌, List, ℕ, map, length}
use Rattle.std.proofs.Common.{sym, ◌∙◌, ap, subst}
use Rattle.sheet.specs.Kinds.{kinds}
use Rattle.sheet.specs.Sheet.{Sheet, read_of, loaded, groups_of}
use Rattle.sheet.specs.Text.{sheet_text}
use Rattle.sheet.specs.Store.{StoreOf, SomeStore, spread, sheet_in}
use Rattle.sheet.specs.Held.{IsHeld}
use Rattle.sheet.specs.Laws.Store.{store-sheet}
use Rattle.sheet.proofs.RoundTrip.{read-valid, valid-read}

pub store-held : {lines all : List ℕ} → SomeStore lines all → IsHeld lines all
store-held {lines} {all} S =
    let e : S.sheet ≡ sheet_in lines all = sym (store-sheet S.store) in
    record {
      readable = subst (λ (s : Sheet). read_of (sheet_text s) ≡ loaded s) e (valid-read S.sheet S.store.valid);
      counts = S.store.counts ∙ ap (λ (s : Sheet). map length (groups_of s)) e;
      cells = S.store.cells ∙ ap (λ (s : Sheet). spread kinds (groups_of s)) e;
    }

pub held-store : {lines all : List ℕ} → IsHeld lines all → StoreOf (sheet_in lines all) lines all
held-store {lines} {all} h = record { valid = read-valid (sheet_text (sheet_in lines all)) (sheet_in lines all) h.readable; counts = h.counts; cells = h.cells }

-- the sheet that a held sheet is seen as stands in its arrays
pub held-is : {s : Sheet} {lines all : List ℕ} → IsHeld lines all → sheet_in lines all ≡ s → StoreOf s lines all
held-is {s} {lines} {all} h e = subst (λ (x : Sheet). StoreOf x lines all) e (held-store h)
