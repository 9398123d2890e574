-- `sheet::judge::is_outside`. The loop's invariant: the numbers so far are within their limits, so what is left is outside exactly where the whole is.
use Rattle.std.proofs.Common.{◌≡◌, length, map, take, drop}
use Rattle.sheet.specs.Sheet.{outside}
use Rattle.sheet.specs.Inner.{limit_at}
use Rattle.sheet.proofs.judge.is_outside.Given as goal

abbrev pub invariant-loop-limit : goal.invariant-loop-limit
invariant-loop-limit l =
    let k = length l.yielded in
    let xs = take l.w l.fn.limits in
    let ns = take l.w l.fn.values in
    outside l.places (map limit_at (drop k xs)) (drop k ns) ≡ outside l.places (map limit_at xs) ns
