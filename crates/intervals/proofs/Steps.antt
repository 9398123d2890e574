-- The set of one place as a shift of 1 makes it: it is no more than 64 digits long. And what the array says of a sheet with its table of first steps, each
-- way. No function cites these: the check finds the first by itself, and a held sheet has no need of the others.
-- Assumes nothing.
use Rattle.std.specs.Prelude.{◌≡◌, List, ℕ, ◌*◌, ◌%◌, ◌^◌, ◌<◌}
use Rattle.std.proofs.Common.{sym, ap, subst, ◌∙◌, arith, shl_exact}
use Rattle.sheet.specs.Lists.{flat}
use Rattle.sheet.specs.Kinds.{kind_o}
use Rattle.sheet.specs.Sheet.{Sheet}
use Rattle.sheet.specs.Store.{SomeStore, part_of, sheet_in}
use Rattle.sheet.specs.Laws.Store.{store-part, store-sheet, store-valid}
use Rattle.sheet.specs.Held.{IsHeld}
use Rattle.sheet.proofs.HeldSheets.{held-store}
use Rattle.intervals.specs.FirstSteps.{SinceTable, Derived}

pub one_place : (v : ℕ) → v < 64 → (1 * 2 ^ v) % 18446744073709551616 ≡ 2 ^ v
one_place v l = let e : 1 * 2 ^ v ≡ 2 ^ v = omega arith in shl_exact {a = 1} 1 v 64 (omega arith) (omega arith) ∙ e

-- where a held sheet with its first steps stands there is a sheet in the array
pub some-derived : {lines all since : List ℕ} → IsHeld lines all → Derived (sheet_in lines all) since → SomeStore lines all
some-derived {lines} {all} h d = record { sheet = sheet_in lines all; store = held-store h }

-- a sheet in the array with the table of its lines is one with its first steps
pub derived-some : {lines all since : List ℕ} → SomeStore lines all → SinceTable (part_of lines all kind_o.order) since → Derived (sheet_in lines all) since
derived-some {lines} {all} {since} S t =
    record {
      valid = store-valid S.store;
      firsts = subst (λ (l : List ℕ). SinceTable l since) (store-part S.store kind_o.order (omega arith) ∙ ap (λ (x : Sheet). flat x.occupancies) (sym (store-sheet S.store))) t;
    }
