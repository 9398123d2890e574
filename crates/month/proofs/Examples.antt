-- The small months of specs/Examples.antt, computed.
-- Assumes nothing.
use Rattle.std.specs.Prelude.{◌≡◌, refl, map}
use Rattle.sheet.specs.Laws.Ascii.{bytes}
use Rattle.month.specs.Month.{page}
use Rattle.month.specs.Examples.{months}

pub months-printed : map (λ e. page (bytes e.input)) months ≡ map (λ e. bytes e.output) months
unfolding page
months-printed = refl
