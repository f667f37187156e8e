-- The run calls with the records by value, by way of the calls on a lent list: the records that may be in use are lent, and what is left of them stands before the rest.
use Prim.Native.Nat.{ℕ, min, ◌≤◌, ◌<◌}
use native.Mathlib.Omega.{arith}
use native.Mathlib.Decide.{dec_lt}
use mathlib.Core.Path.{◌≡◌, sym, ◌∙◌, ap, ap₂}
use mathlib.Core.List.{◌++◌, append-nil}
use lib.ListN.{length, take, drop, take-append-drop, drop_of_length-le}
use lib.Seq.{length-take-le}
use Rattle.format.specs.Text.{Bytes}
use Rattle.machine.specs.Machine.{Order, thread_limit}
use Rattle.run_calls.specs.RunCalls.{RunAnswer, RunOutcome, LeavesRun, begin, begin_on, move_on}
use Rattle.lent_runs.proofs.Copies.{Threads, take_all}
use Rattle.lent_runs.proofs.Counts.{begin_enough, move_enough}
use Rattle.lent_runs.proofs.Public.{Narrow, move_narrow, begin_narrow}

-- what a call leaves of the first records, so many as may be in use, is what it leaves of all
module _ {run : Bytes} {call : ℕ → Threads → RunOutcome} (narrow : Narrow run call)
    (enough : (lent : ℕ) → thread_limit ≤ lent → (ts : Threads) → call lent ts ≡ call thread_limit ts)
    (ts : Threads) (size : length ts ≡ thread_limit) (lent k : ℕ) (in_use : k ≡ min lent thread_limit) where
  pub by_value : {answer : RunAnswer} {left : Bytes} {front : Threads}
      → LeavesRun (call (length (take k ts)) (take k ts)) answer left front → LeavesRun (call lent ts) answer left (front ++ drop k ts)
  by_value {answer} {left} {front} h = go (dec_lt lent thread_limit)
    where
      go : Dec (lent < thread_limit) → LeavesRun (call lent ts) answer left (front ++ drop k ts)
      go (yes l) =
          let few : length (take k ts) < thread_limit = (let z = length-take-le k ts (omega (arith, in_use, size)) in omega (arith, z, in_use, l)) in
          let a = narrow.few (length (take k ts)) few (take k ts) in
          let b = narrow.few lent l ts in
          record {
            answer_is = h.answer_is ∙ ap (λ (o : RunOutcome). o.answer) a ∙ sym (ap (λ (o : RunOutcome). o.answer) b);
            run_is = h.run_is ∙ ap (λ (o : RunOutcome). o.run) a ∙ sym (ap (λ (o : RunOutcome). o.run) b);
            threads_are = ap (λ (l : Threads). l ++ drop k ts) (h.threads_are ∙ ap (λ (o : RunOutcome). o.threads) a) ∙ take-append-drop k ts ∙ sym (ap (λ (o : RunOutcome). o.threads) b);
          }
      go (no n) =
          let l : thread_limit ≤ lent = omega (arith, n) in
          let all : length ts ≤ k = omega (arith, in_use, l, size) in
          let whole : take k ts ≡ ts = take_all k ts all in
          let same : call (length (take k ts)) (take k ts) ≡ call lent ts = ap₂ call (ap (λ (l : Threads). length l) whole ∙ size) whole ∙ sym (enough lent l ts) in
          record {
            answer_is = h.answer_is ∙ ap (λ (o : RunOutcome). o.answer) same;
            run_is = h.run_is ∙ ap (λ (o : RunOutcome). o.run) same;
            threads_are = ap₂ ◌++◌ (h.threads_are ∙ ap (λ (o : RunOutcome). o.threads) same) (drop_of_length-le ts {i = k} all) ∙ append-nil (call lent ts).threads;
          }

module _ (store run : Bytes) (ts : Threads) (lent k : ℕ) {answer : RunAnswer} {left : Bytes} {front : Threads} where
  pub begin_by_value : length ts ≡ thread_limit → k ≡ min lent thread_limit → LeavesRun (begin store run (take k ts)) answer left front → LeavesRun (begin_on store run lent ts) answer left (front ++ drop k ts)
  begin_by_value size in_use h = by_value (begin_narrow store run) (λ lent l ts. begin_enough store run lent l ts) ts size lent k in_use h

  pub move_by_value : (o : Order) → length ts ≡ thread_limit → k ≡ min lent thread_limit → LeavesRun (move_on store run (length (take k ts)) (take k ts) o) answer left front → LeavesRun (move_on store run lent ts o) answer left (front ++ drop k ts)
  move_by_value o size in_use h = by_value (move_narrow store run o) (λ lent l ts. move_enough store run lent l ts o) ts size lent k in_use h
