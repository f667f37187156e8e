-- "What is said of runs holds while the program's rows stay the same and the run memory is as beginning and moves left it": a run of calls, each with the store then lent.
use Rattle.std.specs.Prelude.{List, [], ◌∷◌, ◌≡◌, length}
use Rattle.program.specs.Each.{Each}
use Rattle.program.specs.Program.{Program}
use Rattle.format.specs.Text.{Bytes}
use Rattle.format.specs.Document.{Document}
use Rattle.calls.specs.Answers.{Answer, turned_back, answered}
use Rattle.calls.specs.Exact.{StoreHolds}
use Rattle.machine.specs.declared.ThreadRecord.{ThreadRecord}
use Rattle.machine.specs.Machine as machine
use Rattle.machine.specs.Machine.{Order}
use Rattle.machine.specs.Standing.{Shown}
use Rattle.run_memory.specs.RunMemory.{machine_in}
use Rattle.run_calls.specs.RunCalls.{run_answer, RunOutcome, move_on}

-- run memory and thread records, as they are lent to the next call
pub record Lent : Type 0 where
  pub run : Bytes
  pub threads : List ThreadRecord

abbrev pub lent_of : Bytes → List ThreadRecord → Lent
lent_of run ts = record { run = run; threads = ts }

abbrev pub leaves : RunOutcome → Lent
leaves o = lent_of o.run o.threads

abbrev pub move_in : Bytes → Lent → Order → RunOutcome
move_in store l o = move_on store l.run (length l.threads) l.threads o

-- what moves leave, each with the store that it is given
unfoldable pub played : Lent → List (Bytes × Order) → Lent
played l [] = l
played l ((store, o) ∷ calls) = played (leaves (move_in store l o)) calls

-- the moves alone
unfoldable pub orders : List (Bytes × Order) → List Order
orders [] = []
orders ((store, o) ∷ calls) = o ∷ orders calls

-- the rows of a store are these, whatever its tables and claims
abbrev pub RowsAre : Program → Bytes → Type 0
RowsAre p store = (d : Document) × StoreHolds store d × (d.rows ≡ p)

abbrev pub AllRows : Program → List (Bytes × Order) → Type 0
AllRows p calls = Each (λ (call : Bytes × Order). RowsAre p call.0) calls

-- what a machine answers, in the papers' numbers
unfoldable pub answer_in : machine.Answer → Answer
answer_in (machine.refused n) = turned_back n 0
answer_in (machine.accepted m) = answered (length m.threads ∷ [])

-- what is promised of run memory and records that beginning and these moves left
pub record WatchedRun (p : Program) (l : Lent) (os : List Order) : Type 0 where
  -- "a run ends in a state that stands for the pool that the steps of its accepted moves leave, thread for leaf, instance for instance" (`Standing` of crate machine)
  pub shown : Shown p os
  pub machine_is : machine_in l.run l.threads ≡ machine.watched p machine.begin os
  -- the next move, with any store of these rows: 30 and 31 exactly where `shown.next` has them, and never 20 to 22
  pub answers : (store : Bytes) → RowsAre p store → (o : Order) → run_answer (move_in store l o).answer ≡ answer_in (machine.answer p (machine.watched p machine.begin os) o)
