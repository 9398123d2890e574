-- The measure of `sheet::text::put_digits`: the count of digits that are left.
use Rattle.sheet.proofs.text.+put_digits.Given as goal

abbrev pub decreases-put_digits : goal.decreases-put_digits
decreases-put_digits l = l.most
