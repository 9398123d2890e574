-- What reading standard input promises, and no more: the count of bytes is at most the buffer's length. That they are what the operating system gave, and
-- all of it, lies outside any contract and is tested (tests/program, tests/month).
use Rattle.std.specs.Prelude.{ℕ, ◌≤◌, List, length, Result, Ok, Err}
use Rattle.std.specs.declared.io.Error.{Error}

abbrev pub Within : Result ℕ Error → List ℕ → Type 0
Within (Ok n) buffer = n ≤ length buffer
Within (Err e) buffer = Unit {0}
