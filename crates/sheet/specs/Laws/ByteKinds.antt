-- Laws of the kinds of bytes as the code names them: each has a number of its own.
use Rattle.std.specs.Prelude.{◌≡◌, refl, ◌≢◌, ℕ, eqb}
use Rattle.std.proofs.Common.{sym, ◌∙◌, ap}
use Rattle.sheet.specs.Lists.{pick}
use Rattle.sheet.specs.ByteKinds.{kind_number}
use Rattle.sheet.specs.declared.bytes.ByteKind.{ByteKind}
use Rattle.sheet.specs.declared.bytes.ByteKind.TheVariants.{Digit, Comma, LineFeed, Letter, Other}

-- the kind with a number
abbrev numbered : ℕ → ByteKind
numbered n = pick (eqb n 0) Digit (pick (eqb n 1) Comma (pick (eqb n 2) LineFeed (pick (eqb n 3) Letter Other)))

numbered-number : (k : ByteKind) → numbered (kind_number k) ≡ k
numbered-number Digit = refl
numbered-number Comma = refl
numbered-number LineFeed = refl
numbered-number Letter = refl
numbered-number Other = refl

pub kind-only : (j k : ByteKind) → kind_number j ≡ kind_number k → j ≡ k
kind-only j k e = sym (numbered-number j) ∙ ap numbered e ∙ numbered-number k

pub kind-unlike : (j k : ByteKind) → j ≢ k → kind_number j ≢ kind_number k
kind-unlike j k n e = n (kind-only j k e)
