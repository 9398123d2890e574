-- What reading standard input promises of the bytes that it gave.
use Rattle.std.specs.Prelude.{ℕ, ◌≤◌, ◌≡◌, List, length, Result, Ok}
use Rattle.std.proofs.Common.{subst, arith}
use Rattle.std.specs.declared.io.Error.{Error}
use Rattle.input.specs.Input.{Within}

pub within-read : {r : Result ℕ Error} {n : ℕ} (buffer : List ℕ) → r ≡ Ok n → Within r buffer → n ≤ length buffer
within-read buffer e h = omega (arith, subst (λ (r : Result ℕ Error). Within r buffer) e h)
