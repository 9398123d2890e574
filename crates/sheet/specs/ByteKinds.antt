-- The kinds of bytes as the code names them, by the numbers of specs/Bytes.antt.
use Rattle.std.specs.Prelude.{ℕ}
use Rattle.sheet.specs.Bytes.{digit, comma, line_feed, letter, other}
use Rattle.sheet.specs.declared.bytes.ByteKind.{ByteKind}
use Rattle.sheet.specs.declared.bytes.ByteKind.TheVariants.{Digit, Comma, LineFeed, Letter, Other}

abbrev pub kind_number : ByteKind → ℕ
kind_number Digit = digit
kind_number Comma = comma
kind_number LineFeed = line_feed
kind_number Letter = letter
kind_number Other = other
