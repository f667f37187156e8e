-- The run calls: what opening answers, then the changes of the threads that are named.
use Rattle.std.specs.Prelude.{Ok, Err}
use Prim.Native.Nat.{ℕ, zero, suc, ◌≤◌, ◌<◌}
use native.Mathlib.Omega.{arith}
use mathlib.Core.Bool.{true, false}
use mathlib.Core.List.{List, [], ◌∷◌}
use Rattle.std.specs.Prelude.{Option, None as none, Some as some}
use mathlib.Core.Path.{◌≡◌, refl, sym, ◌∙◌, ap, subst}
use lib.ListN.{length, get_or, take}
use Rattle.program.specs.Maybe.{◌>>=◌}
use Rattle.program.specs.Program.{Program}
use Rattle.format.specs.declared.Refusal.{Refusal}
use Rattle.format.specs.declared.Reason.TheVariants.{StoreTooShort, MoveNotAllowed}
use Rattle.format.specs.Refusals.{refusal, Result, refused, accepted}
use Rattle.format.specs.Text.{Bytes}
use Rattle.calls.specs.Calls.{opened}
use Rattle.calls.specs.Layout.{store_size}
use Rattle.store.specs.Rows.{store_program}
use Rattle.opening.specs.Opening.{OpenedIs}
use Rattle.opening.proofs.Opening.{refused_is, opens_is}
use Rattle.machine.specs.declared.ThreadRecord.{ThreadRecord}
use Rattle.machine.specs.Machine.{Change, thread_at, change, meeting, Order, alone, together, changes}
use Rattle.run_memory.specs.RunMemory.{in_use, memory_in, machine_in}
use Rattle.run_calls.specs.RunCalls.{RunAnswer}
use Rattle.run_calls.specs.RunCalls.{LeavesRun, too_short, store_opened, run_opened, begun_in, begin_with, begin_on, made, move_with, move_on}
use Rattle.run_calls.proofs.Opened.{long_opened, long_told}
use Rattle.thread_changes.specs.declared.ThreadChange.{ThreadChange}
use Rattle.thread_changes.specs.Changes.{change_in}
use Rattle.meetings.specs.declared.Met.{Met}
use Rattle.meetings.specs.Meetings.{meeting_in}
use Rattle.moves.specs.Moves.{alone_in, together_in}
use Rattle.moves.proofs.Making.{none_made}
use Rattle.run_opening.specs.RunOpening.{RunOpens, RunOpenedIs}

-- ---- a thread by its number

-- what stands in no list
abbrev no_record : ThreadRecord
no_record = record { row = 0; cell = 0; frame = 0 }

pub there : (ts : List ThreadRecord) (n k : ℕ) → k < n → n ≤ length ts → thread_at (take n ts) k ≡ some (get_or ts k no_record)
unfolding thread_at
there ts zero k l m = absurd (omega arith)
there [] (suc n) k l m = absurd (omega arith)
there (t ∷ ts) (suc n) zero l m = refl
there (t ∷ ts) (suc n) (suc k) l m = there ts n k (omega arith) (omega arith)

pub absent : (ts : List ThreadRecord) (n k : ℕ) → n ≤ k → thread_at (take n ts) k ≡ none
unfolding thread_at
absent ts zero k l = refl
absent [] (suc n) k l = refl
absent (t ∷ ts) (suc n) zero l = absurd (omega arith)
absent (t ∷ ts) (suc n) (suc k) l = absent ts n k (omega arith)

module _ (p : Program) (run : Bytes) (ts : List ThreadRecord) where
  -- a thread that is not there: 30
  pub no_thread : (n : ℕ) → (in_use run).threads ≤ n → changes p (machine_in run ts) (alone n) ≡ none
  unfolding changes machine_in ◌>>=◌
  no_thread n l = rw (absent ts (in_use run).threads n l)

  pub no_sender : (s r : ℕ) → (in_use run).threads ≤ s → changes p (machine_in run ts) (together s r) ≡ none
  unfolding changes machine_in ◌>>=◌
  no_sender s r l = rw (absent ts (in_use run).threads s l)

  module _ (enough : (in_use run).threads ≤ length ts) where
    pub no_receiver : (s r : ℕ) → s < (in_use run).threads → (in_use run).threads ≤ r → changes p (machine_in run ts) (together s r) ≡ none
    unfolding changes machine_in ◌>>=◌
    no_receiver s r m l = rw (there ts (in_use run).threads s m enough, absent ts (in_use run).threads r l)

    -- threads that are there
    pub alone_is : (n : ℕ) (x : Option ThreadChange) {t : ThreadRecord} → n < (in_use run).threads → t ≡ get_or ts n no_record → change_in x ≡ change p (memory_in run) t → alone_in n x ≡ changes p (machine_in run ts) (alone n)
    unfolding alone_in changes machine_in ◌>>=◌
    alone_is n x l at e = rw (there ts (in_use run).threads n l enough, ← at, e)

    pub together_is : (s r : ℕ) (x : Option Met) {a b : ThreadRecord} → s < (in_use run).threads → r < (in_use run).threads → a ≡ get_or ts s no_record → b ≡ get_or ts r no_record → meeting_in x ≡ meeting p (memory_in run) a b
        → together_in s r x ≡ changes p (machine_in run ts) (together s r)
    unfolding together_in changes machine_in ◌>>=◌
    together_is s r x l m at at' e = rw (there ts (in_use run).threads s l enough, there ts (in_use run).threads r m enough, ← at, ← at', e)

-- ---- what opening answers

module _ (store run : Bytes) (lent : ℕ) (ts : List ThreadRecord) (o : Order) where
  abbrev fixed : Bytes
  fixed = take store_size store

  pub move_refused : (r : Refusal) → RunOpenedIs (run_opened store run lent ts) fixed run ts (Err r) → LeavesRun (move_on store run lent ts o) (Err r) run ts
  unfolding move_on move_with
  move_refused r h = go (run_opened store run lent ts) h
    where
      go : (x : Result Program) → RunOpenedIs x fixed run ts (Err r) → LeavesRun (move_with run ts o x) (Err r) run ts
      go (refused q) h = let e : r ≡ q = cc in record { answer_is = ap Err e; run_is = refl; threads_are = refl }
      go (accepted p) (n, e, k) = let z : ◌≡◌ {A = ℕ} 0 1 = cc in absurd (omega arith)

  pub move_opened : (n : ℕ) {a : RunAnswer} {run' : Bytes} {ts' : List ThreadRecord} → RunOpenedIs (run_opened store run lent ts) fixed run ts (Ok n)
      → LeavesRun (made run ts (changes (store_program n fixed) (machine_in run ts) o)) a run' ts' → LeavesRun (move_on store run lent ts o) a run' ts'
  unfolding move_on move_with
  move_opened n {a} {run'} {ts'} h k = go (run_opened store run lent ts) h
    where
      go : (x : Result Program) → RunOpenedIs x fixed run ts (Ok n) → LeavesRun (move_with run ts o x) a run' ts'
      go (refused q) h = let z : ◌≡◌ {A = ℕ} 0 1 = cc in absurd (omega arith)
      go (accepted p) (m, e, h) =
          let q : n ≡ m = cc in
          subst (λ (p : Program). LeavesRun (made run ts (changes p (machine_in run ts) o)) a run' ts') (ap (λ (n : ℕ). store_program n fixed) q ∙ sym h.program_is) k

-- what is known of a run that opens
pub opens_known : (store run : Bytes) (lent : ℕ) (ts : List ThreadRecord) (n : ℕ) → RunOpenedIs (run_opened store run lent ts) (take store_size store) run ts (Ok n)
    → (p : Program) × RunOpens p (take store_size store) run ts n
opens_known store run lent ts n h = go (run_opened store run lent ts) h
  where
    go : (x : Result Program) → RunOpenedIs x (take store_size store) run ts (Ok n) → (p : Program) × RunOpens p (take store_size store) run ts n
    go (refused q) h = let z : ◌≡◌ {A = ℕ} 0 1 = cc in absurd (omega arith)
    go (accepted p) (m, e, h) = let q : m ≡ n = cc in (p, subst (λ (n : ℕ). RunOpens p (take store_size store) run ts n) q h)

-- ---- beginning

module _ (store run : Bytes) (lent : ℕ) (ts : List ThreadRecord) where
  pub begin_short : too_short store run lent ≡ true → LeavesRun (begin_on store run lent ts) (Err (refusal StoreTooShort 0)) run ts
  unfolding begin_on store_opened begin_with
  begin_short e = rw e (record { answer_is = refl; run_is = refl; threads_are = refl })

  module _ (long : too_short store run lent ≡ false) where
    opens : store_opened store run lent ≡ opened store
    unfolding store_opened
    opens = rw (long, long_opened store (long_told store run lent long).store_long)

    pub begin_refused : (r : Refusal) → OpenedIs (opened store) (take store_size store) (Err r) → LeavesRun (begin_on store run lent ts) (Err r) run ts
    unfolding begin_on begin_with
    begin_refused r h = rw (opens, refused_is (take store_size store) (opened store) r h) (record { answer_is = refl; run_is = refl; threads_are = refl })

    pub begin_opened : (n : ℕ) {a : RunAnswer} {run' : Bytes} {ts' : List ThreadRecord} → OpenedIs (opened store) (take store_size store) (Ok n) → LeavesRun (begun_in run ts) a run' ts' → LeavesRun (begin_on store run lent ts) a run' ts'
    unfolding begin_on begin_with
    begin_opened n h k = rw (opens, (opens_is (take store_size store) (opened store) n h).0) k

-- nothing is found: 30
pub none_leaves : (run : Bytes) (ts : List ThreadRecord) (q : Option (List (ℕ × Change))) → q ≡ none → LeavesRun (made run ts q) (Err (refusal MoveNotAllowed 0)) run ts
none_leaves run ts q e = rw e (none_made run ts)

pub leaves_same : (run : Bytes) (ts : List ThreadRecord) {q q' : Option (List (ℕ × Change))} {a : RunAnswer} {run' : Bytes} {ts' : List ThreadRecord} → q ≡ q' → LeavesRun (made run ts q) a run' ts' → LeavesRun (made run ts q') a run' ts'
leaves_same run ts {a = a} {run' = run'} {ts' = ts'} e h = subst (λ (q : Option (List (ℕ × Change))). LeavesRun (made run ts q) a run' ts') e h
