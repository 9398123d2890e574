-- Decimal numbers (document 01, "The sheet": "A number is decimal, one to five digits, no sign, no leading zero except 0 itself").
use Rattle.std.specs.Prelude.{◌&&◌, List, [], ◌∷◌, ◌++◌, ℕ, zero, suc, ◌+◌, ◌*◌, ◌-◌, ◌/◌, ◌%◌, ltb, eqb, length}
use Rattle.std.proofs.Math.Option.{Option, some, none}
use Rattle.sheet.specs.Lists.{pick, number}
use Rattle.sheet.specs.Bytes.{kind_of, digit}

-- the value of the digits, read on from v; none where a byte is no digit
unfoldable pub digits_from : ℕ → List ℕ → Option ℕ
unfolding kind_of
digits_from v [] = some v
digits_from v (b ∷ bs) = pick (eqb (kind_of b) digit) (digits_from (v * 10 + (b - 48)) bs) none

-- the number that a field stands for: one to `most` digits, no leading zero except 0 itself
unfoldable pub number_of : ℕ → List ℕ → Option ℕ
unfolding digits_from
number_of most f =
    pick (eqb (length f) 0) none
    (pick (ltb most (length f)) none
    (pick (ltb 1 (length f) && eqb (number f 0) 48) none
    (digits_from 0 f)))

-- the digits of n, of which there are at most `most`
unfoldable pub digits_of : ℕ → ℕ → List ℕ
digits_of zero n = []
digits_of (suc most) n = pick (ltb n 10) ((48 + n) ∷ []) (digits_of most (n / 10) ++ ((48 + n % 10) ∷ []))

-- the most digits of a number on a sheet
abbrev pub most_digits : ℕ
most_digits = 5
