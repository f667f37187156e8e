-- A watched run: the run calls, each as the answer and what is left of the lent run memory and thread records.
--   begin   `store_opened`, then nothing but thread 0 is in use             (20, 21, 22 of the store)
--   move    `run_opened`, then Machine.changes of machine for one thread    (20, 21, 22; 30, 31)
--   meet    the same for a sending and a receiving one
-- The contract of each public function is equality with its definition here.
use Rattle.std.specs.Prelude.{ℕ, ◌≤◌, Bool, not, ◌||◌, List, [], ◌∷◌, ◌≡◌, length, set, take, ltb, eqb}
use Rattle.std.specs.Prelude.{Option, None as none, Some as some, Result as Answered, Ok, Err}
use Rattle.program.specs.Program.{Program}
use Rattle.program.specs.Test.{pick}
use Rattle.format.specs.declared.Reason.TheVariants.{StoreTooShort, StoreEmpty, StoreUnsound, MoveNotAllowed, LimitExceeded}
use Rattle.format.specs.declared.Refusal.{Refusal}
use Rattle.format.specs.Refusals.{refusal, Result, refused, accepted}
use Rattle.format.specs.Text.{Bytes}
use Rattle.format.specs.Document.{Document}
use Rattle.calls.specs.Answers.{Answer, answered, refusal_answer}
use Rattle.calls.specs.Calls.{is_empty, unsound, opened_fixed}
use Rattle.calls.specs.Layout.{store_size, decode}
use Rattle.machine.specs.declared.ThreadRecord.{ThreadRecord}
use Rattle.machine.specs.Machine.{Change, Order, alone, together, changes, changed_all, within, thread_limit}
use Rattle.run_memory.specs.RunMemory.{run_size, in_use, counts, counted, machine_in, sound_run, bytes_after, threads_after}

-- the number of threads then in use, or why the call is refused
abbrev pub RunAnswer : Type 0
RunAnswer = Answered ℕ Refusal

-- "Accepted, beginning and a move answer the number of threads then in use"; "Numbers from 30 on carry line 0"
unfoldable pub run_answer : RunAnswer → Answer
run_answer (Ok n) = answered (n ∷ [])
run_answer (Err r) = refusal_answer r

-- the answer, and the lent run memory and thread records afterwards
pub record RunOutcome : Type 0 where
  pub answer : RunAnswer
  pub run : Bytes
  pub threads : List ThreadRecord

-- an answer, run memory and thread records are those of an outcome
pub record LeavesRun (o : RunOutcome) (answer : RunAnswer) (run : Bytes) (threads : List ThreadRecord) : Type 0 where
  pub answer_is : answer ≡ o.answer
  pub run_is : run ≡ o.run
  pub threads_are : threads ≡ o.threads

-- a refused call "leaves the run as before"
abbrev pub turned_away : Refusal → Bytes → List ThreadRecord → RunOutcome
turned_away r run ts = record { answer = Err r; run = run; threads = ts }

-- ---- 20 to 22, each asked of everything that is lent before the next

-- 20: the store, "run memory too short for these", or fewer thread records than may be in use
unfoldable pub too_short : Bytes → Bytes → ℕ → Bool
too_short store run lent = ltb (length store) store_size || ltb (length run) run_size || ltb lent thread_limit

-- 21: "A run not begun, so with no thread in use"
unfoldable pub not_begun : Bytes → Bool
not_begun run = eqb (in_use run).threads 0

-- "Beginning tests the store and the length only"
unfoldable pub store_opened : Bytes → Bytes → ℕ → Result Document
store_opened store run lent = pick (too_short store run lent) (refused (refusal StoreTooShort 0)) (opened_fixed (take store_size store))

-- what a move goes on: the rows of the program
unfoldable pub run_opened : Bytes → Bytes → ℕ → List ThreadRecord → Result Program
run_opened store run lent ts =
    let fixed = take store_size store in
    let p = (decode fixed).rows in
    pick (too_short store run lent) (refused (refusal StoreTooShort 0))
    (pick (is_empty fixed || not_begun run) (refused (refusal StoreEmpty 0))
    (pick (unsound fixed || not (sound_run p run ts)) (refused (refusal StoreUnsound 0)) (accepted p)))

-- what is known of run memory and records that are not refused: they are long enough, and there is a record for each thread
pub record Lends (run : Bytes) (ts : List ThreadRecord) : Type 0 where
  pub long : run_size ≤ length run
  pub records : thread_limit ≤ length ts
  pub threads : (in_use run).threads ≤ thread_limit

-- ---- the calls, where so many thread records are lent and these are the first of them

-- "it leaves thread 0 at row 0 and nothing else in use"
unfoldable pub begun_in : Bytes → List ThreadRecord → RunOutcome
begun_in run ts = record { answer = Ok 1; run = counted run (counts 1 0 0); threads = set ts 0 (record { row = 0; cell = 0; frame = 0 }) }

unfoldable pub begin_with : Bytes → List ThreadRecord → Result Document → RunOutcome
begin_with run ts (refused r) = turned_away r run ts
begin_with run ts (accepted d) = begun_in run ts

unfoldable pub begin_on : Bytes → Bytes → ℕ → List ThreadRecord → RunOutcome
begin_on store run lent ts = begin_with run ts (store_opened store run lent)

-- the changes of threads, one after the other
unfoldable pub bytes_all : Bytes → List (ℕ × Change) → Bytes
bytes_all run [] = run
bytes_all run ((n, c) ∷ cs) = bytes_all (bytes_after run c) cs

unfoldable pub threads_all : Bytes → List ThreadRecord → List (ℕ × Change) → List ThreadRecord
threads_all run ts [] = ts
threads_all run ts ((n, c) ∷ cs) = threads_all (bytes_after run c) (threads_after run ts n c) cs

-- "30: the move isn't allowed by the run rules, or names no thread; then 31: the move would exceed one of the three limits"
unfoldable pub made : Bytes → List ThreadRecord → Option (List (ℕ × Change)) → RunOutcome
made run ts none = turned_away (refusal MoveNotAllowed 0) run ts
made run ts (some cs) =
    let after = changed_all (machine_in run ts) cs in
    pick (within after) (record { answer = Ok (length after.threads); run = bytes_all run cs; threads = threads_all run ts cs })
    (turned_away (refusal LimitExceeded 0) run ts)

unfoldable pub move_with : Bytes → List ThreadRecord → Order → Result Program → RunOutcome
move_with run ts o (refused r) = turned_away r run ts
move_with run ts o (accepted p) = made run ts (changes p (machine_in run ts) o)

unfoldable pub move_on : Bytes → Bytes → ℕ → List ThreadRecord → Order → RunOutcome
move_on store run lent ts o = move_with run ts o (run_opened store run lent ts)

-- ---- the public calls, on everything that is lent

abbrev pub begin : Bytes → Bytes → List ThreadRecord → RunOutcome
begin store run ts = begin_on store run (length ts) ts

-- "A move names one thread, or a sending and a receiving one"
abbrev pub move : Bytes → Bytes → List ThreadRecord → ℕ → RunOutcome
move store run ts thread = move_on store run (length ts) ts (alone thread)

abbrev pub meet : Bytes → Bytes → List ThreadRecord → ℕ → ℕ → RunOutcome
meet store run ts sender receiver = move_on store run (length ts) ts (together sender receiver)
