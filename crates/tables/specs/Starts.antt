-- The two tables of sets in a store, by the enum that names them.
use Rattle.std.specs.Prelude.{ℕ, ◌+◌, ◌*◌}
use Rattle.format.specs.Text.{Bytes}
use Rattle.calls.specs.Layout.{member_limit, rows_size, comms_start}
use Rattle.tables.specs.declared.Table.{Table}
use Rattle.tables.specs.declared.Table.TheVariants.{Flow, Comm}
use Rattle.tables.specs.Tables.{flag_at}

-- where the sets of a table begin
unfoldable pub start : Table → ℕ
start Flow = rows_size
start Comm = comms_start

-- the byte of member m in set n of a table
unfoldable pub flag : Bytes → Table → ℕ → ℕ → ℕ
flag s table n m = flag_at s (λ n. start table + n * member_limit) n m
