-- The measure of `sheet::text::digits_in`: the count of digits that are left.
use Rattle.sheet.proofs.text.+digits_in.Given as goal

abbrev pub decreases-digits_in : goal.decreases-digits_in
decreases-digits_in l = l.most
