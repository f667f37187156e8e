-- A byte of a set as a count.
use Rattle.std.specs.Prelude.{ℕ, eqb}
use Rattle.program.specs.Test.{pick}

-- 1 if the byte marks a member
abbrev pub is_member : ℕ → ℕ
is_member b = pick (eqb b 0) 0 1
