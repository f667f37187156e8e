-- What opening a store and a run answers: the rows of the program, or a refusal of what is lent.
use Rattle.std.specs.Prelude.{Ok, Err}
use Rattle.std.specs.Prelude.{ℕ, List, ◌≡◌, length}
use Rattle.program.specs.Program.{Program}
use Rattle.format.specs.Refusals.{Result, refused, accepted}
use Rattle.format.specs.Text.{Bytes}
use Rattle.calls.specs.Layout.{store_size}
use Rattle.store.specs.Rows.{store_program}
use Rattle.opening.specs.Opening.{Opened}
use Rattle.machine.specs.declared.ThreadRecord.{ThreadRecord}
use Rattle.run_memory.specs.RunMemory.{InLimits}
use Rattle.run_calls.specs.RunCalls.{Lends}

-- a run that opens: the rows are counted, and what is lent is long enough
pub record RunOpens (p : Program) (fixed run : Bytes) (ts : List ThreadRecord) (rows : ℕ) : Type 0 where
  pub program_is : p ≡ store_program rows fixed
  pub size : length fixed ≡ store_size
  pub lends : Lends run ts
  pub limits : InLimits run

abbrev pub RunOpenedIs : Result Program → Bytes → Bytes → List ThreadRecord → Opened → Type 0
RunOpenedIs (refused r) fixed run ts answer = answer ≡ Err r
RunOpenedIs (accepted p) fixed run ts answer = (rows : ℕ) × (answer ≡ Ok rows) × RunOpens p fixed run ts rows
