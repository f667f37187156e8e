-- The texts of parts of a row.
use Rattle.std.specs.Prelude.{ℕ, ◌++◌}
use Rattle.format.specs.Text.{Bytes, ascii, argument}

-- a result row
unfoldable pub result_text : ℕ → Bytes
result_text name = ascii "[result" ++ (argument name ++ ascii "]")
