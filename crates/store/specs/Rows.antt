-- The rows of a store: a row by its number, and the program of the first n rows.
use Rattle.std.specs.Prelude.{ℕ, ◌+◌, ◌*◌, [], ◌∷◌, get_or, take, drop}
use Rattle.program.specs.declared.Row.{Row}
use Rattle.program.specs.Program.{Program}
use Rattle.format.specs.Text.{Bytes}
use Rattle.calls.specs.Layout.{row_size, row_of, counting}

unfoldable pub store_row : Bytes → ℕ → Row
store_row s r = row_of (take row_size (drop (r * row_size) s))

-- the first n rows
unfoldable pub store_program : ℕ → Bytes → Program
store_program n s = counting n 0 (store_row s)

-- the bytes of a row, one by one: past the end of the store they are 0
unfoldable pub cells_at : Bytes → ℕ → Bytes
cells_at s r =
    get_or s (r * row_size) 0 ∷ get_or s (r * row_size + 1) 0 ∷ get_or s (r * row_size + 2) 0 ∷ get_or s (r * row_size + 3) 0 ∷
    get_or s (r * row_size + 4) 0 ∷ get_or s (r * row_size + 5) 0 ∷ get_or s (r * row_size + 6) 0 ∷ get_or s (r * row_size + 7) 0 ∷ []
