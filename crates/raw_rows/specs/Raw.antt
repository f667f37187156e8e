-- Rows as read, in the terms of the format's definitions.
use Rattle.std.specs.Prelude.{ℕ, Bool, not, List, ltb}
use Rattle.program.specs.declared.Row.{Row}
use Rattle.program.specs.declared.Bind.{Bind}
use Rattle.program.specs.Each.{every}
use Rattle.format.specs.Limits.{row_limit}
use Rattle.format.specs.Read.{row_numbers}
use Rattle.read_forms.specs.Reads.{raw_form}
use Rattle.raw_rows.specs.declared.RawRow.{RawRow}

-- the row of a row as read
unfoldable pub raw_row : RawRow → Row
raw_row (RawRow.Result n) = Row.Result n
raw_row (RawRow.Bind n f t) = Row.Bind (record { name = n; form = raw_form f; rest = t })

-- 3: "A number above 159"
abbrev pub numbers_above : List ℕ → Bool
numbers_above ns = not (every (λ n. ltb n row_limit) ns)

abbrev pub row_above : Row → Bool
row_above x = numbers_above (row_numbers x)
