-- What the answers of the reading functions say, in the terms of the format's definitions.
use Rattle.std.specs.Prelude.{ℕ}
use Rattle.std.specs.Prelude.{Option, None as none, Some as some}
use Rattle.program.specs.declared.Row.{Row}
use Rattle.raw_rows.specs.declared.RawRow.{RawRow}
use Rattle.raw_rows.specs.Raw.{raw_row}

abbrev pub row_read : Option (RawRow × ℕ) → Option (Row × ℕ)
row_read (some (x, past)) = some (raw_row x, past)
row_read none = none
