-- The outcome of a run call, its answer as one number.
use Rattle.std.specs.Prelude.{ℕ, List, ◌≡◌, length}
use Rattle.format.specs.Text.{Bytes}
use Rattle.machine.specs.declared.ThreadRecord.{ThreadRecord}
use Rattle.machine.specs.Machine.{alone, together}
use Rattle.run_calls.specs.RunCalls.{run_answer, RunOutcome, begin_on, move_on}
use Rattle.packing.specs.Packing.{packed, number_bits}

pub record PackedLeaves (o : RunOutcome) (x : ℕ) (run : Bytes) (threads : List ThreadRecord) : Type 0 where
  pub answer_is : x ≡ packed number_bits (run_answer o.answer)
  pub run_is : run ≡ o.run
  pub threads_are : threads ≡ o.threads

-- the contracts of the functions: the calls on everything that is lent
abbrev pub BegunIs : Bytes → Bytes → List ThreadRecord → ℕ → Bytes → List ThreadRecord → Type 0
BegunIs store run ts x run' ts' = PackedLeaves (begin_on store run (length ts) ts) x run' ts'

abbrev pub MovedIs : Bytes → Bytes → List ThreadRecord → ℕ → ℕ → Bytes → List ThreadRecord → Type 0
MovedIs store run ts thread x run' ts' = PackedLeaves (move_on store run (length ts) ts (alone thread)) x run' ts'

abbrev pub MetIs : Bytes → Bytes → List ThreadRecord → ℕ → ℕ → ℕ → Bytes → List ThreadRecord → Type 0
MetIs store run ts sender receiver x run' ts' = PackedLeaves (move_on store run (length ts) ts (together sender receiver)) x run' ts'
