-- The text of the line of a set.
use Rattle.std.specs.Prelude.{◌++◌}
use Rattle.format.specs.Text.{Bytes, ascii, argument}
use Rattle.format.specs.Document.{Entry}
use Rattle.format.specs.Print.{set_text}

-- a flow or comm line, by its word
unfoldable pub entry_text : Bytes → Entry → Bytes
entry_text word e = word ++ (argument e.key ++ (ascii " " ++ (set_text e.members ++ ascii "]\n")))
