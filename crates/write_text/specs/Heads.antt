-- How the lines of a text begin.
use Rattle.std.specs.Prelude.{ℕ, ◌++◌}
use Rattle.format.specs.Text.{Bytes, ascii, argument}

-- how a line begins: a word, a number and the space behind it
unfoldable pub head_text : Bytes → ℕ → Bytes
head_text word n = word ++ (argument n ++ ascii " ")
