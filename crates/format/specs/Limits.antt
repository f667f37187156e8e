-- "The limits belong to the store: rows and names are numbered 0 to 159, a file has at most 32,768 bytes."
use Rattle.std.specs.Prelude.{ℕ, ◌*◌}

-- rows and names are numbered below this
abbrev pub row_limit : ℕ
row_limit = 160

-- the lines after the first: at most one row, flow, comm and claim line for each row number
abbrev pub line_limit : ℕ
line_limit = 4 * row_limit

abbrev pub byte_limit : ℕ
byte_limit = 32768
