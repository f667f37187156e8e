-- The last line that a document can have.
use Rattle.std.specs.Prelude.{ℕ, ◌+◌}
use Rattle.format.specs.Limits.{line_limit}

-- the first line, and at most one of each kind for each row number
abbrev pub last_line : ℕ
last_line = 1 + line_limit
