-- The texts of parts of a form.
use Rattle.std.specs.Prelude.{ℕ, []}
use Rattle.format.specs.Text.{Bytes, ascii}
use Rattle.format.specs.Forms.{form_of}
use Rattle.format.specs.Print.{form_word}

-- the word of a kind, with the bracket before it
unfoldable pub kind_word : ℕ → Bytes
kind_word k = ascii (form_word (form_of k []))
