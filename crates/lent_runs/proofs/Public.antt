-- The run calls on a whole lent list, by way of the records that may be in use: taken out, handed to the call, and put back.
use Prim.Native.Nat.{ℕ, ◌≤◌, ◌<◌}
use native.Mathlib.Omega.{arith}
use native.Mathlib.Decide.{dec_lt}
use mathlib.Core.Bool.{true, ◌||◌, or-true}
use mathlib.Core.Path.{◌≡◌, sym, ◌∙◌, ap, subst}
use mathlib.Core.List.{◌++◌}
use lib.ListN.{length, take, drop}
use lib.Dec.{ltb}
use borrow.Author.Tests.{lt-ltb}
use Rattle.format.specs.declared.Reason.TheVariants.{StoreTooShort}
use Rattle.format.specs.Refusals.{refusal}
use Rattle.format.specs.Text.{Bytes}
use Rattle.calls.specs.Layout.{store_size}
use Rattle.machine.specs.Machine.{Order, thread_limit}
use Rattle.run_memory.specs.RunMemory.{run_size}
use Rattle.run_calls.specs.RunCalls.{RunOutcome, turned_away, too_short, store_opened, run_opened, begin_with, begin_on, move_with, move_on}
use Rattle.thread_records.specs.declared.Records.{Records}
use Rattle.thread_records.specs.Records.{records_in, put_records}
use Rattle.lent_runs.proofs.Copies.{Threads, records_are, put_is, put_few}
use Rattle.lent_runs.proofs.Lent.{Front, move_front, begin_front}

-- a call that looks at the first records alone, and refuses too few
pub record Narrow (run : Bytes) (call : ℕ → Threads → RunOutcome) : Type 0 where
  pub few : (lent : ℕ) → lent < thread_limit → (ts : Threads) → call lent ts ≡ turned_away (refusal StoreTooShort 0) run ts
  pub front : (lent : ℕ) (ts : Threads) → thread_limit ≤ length ts → Front (call lent (take thread_limit ts)) (call lent ts) (drop thread_limit ts)

module _ (store run : Bytes) where
  short : (lent : ℕ) → lent < thread_limit → too_short store run lent ≡ true
  unfolding too_short
  short lent l = rw (lt-ltb lent thread_limit l) (or-true (ltb (length store) store_size || ltb (length run) run_size))

  pub move_narrow : (o : Order) → Narrow run (λ lent ts. move_on store run lent ts o)
  unfolding move_on move_with run_opened
  move_narrow o = record { few = λ lent l ts. rw (short lent l); front = λ lent ts l. move_front ts l run store lent o }

  pub begin_narrow : Narrow run (begin_on store run)
  unfolding begin_on begin_with store_opened
  begin_narrow = record { few = λ lent l ts. rw (short lent l); front = λ lent ts l. begin_front ts l run store lent }

-- the call with the records by value is the call on the lent list
pub record Public (few all : RunOutcome) (ts : Threads) : Type 0 where
  pub answer : few.answer ≡ all.answer
  pub run : few.run ≡ all.run
  pub threads : (r : Records) → r.list ≡ few.threads → put_records ts r ≡ all.threads

module _ {run : Bytes} {call : ℕ → Threads → RunOutcome} (narrow : Narrow run call) (ts : Threads) where
  enough_public : thread_limit ≤ length ts → Public (call (length ts) (take thread_limit ts)) (call (length ts) ts) ts
  enough_public l =
      let f = narrow.front (length ts) ts l in
      record {
        answer = f.answer;
        run = f.run;
        threads = λ r e. put_is ts l r (ap (λ (l : Threads). length l) e ∙ f.size) ∙ ap (λ (l : Threads). l ++ drop thread_limit ts) e ∙ f.threads;
      }

  few_public : length ts < thread_limit → Public (call (length ts) (records_in ts).list) (call (length ts) ts) ts
  few_public l =
      let a = narrow.few (length ts) l (records_in ts).list in
      let b = narrow.few (length ts) l ts in
      record {
        answer = ap (λ (o : RunOutcome). o.answer) a ∙ sym (ap (λ (o : RunOutcome). o.answer) b);
        run = ap (λ (o : RunOutcome). o.run) a ∙ sym (ap (λ (o : RunOutcome). o.run) b);
        threads = λ r e. put_few ts l r (e ∙ ap (λ (o : RunOutcome). o.threads) a) ∙ sym (ap (λ (o : RunOutcome). o.threads) b);
      }

  pub public : Public (call (records_in ts).lent (records_in ts).list) (call (length ts) ts) ts
  unfolding records_in
  public = go (dec_lt (length ts) thread_limit)
    where
      go : Dec (length ts < thread_limit) → Public (call (length ts) (records_in ts).list) (call (length ts) ts) ts
      go (yes l) = few_public l
      go (no n) = let l : thread_limit ≤ length ts = omega (arith, n) in subst (λ (xs : Threads). Public (call (length ts) xs) (call (length ts) ts) ts) (sym (records_are ts l)) (enough_public l)
