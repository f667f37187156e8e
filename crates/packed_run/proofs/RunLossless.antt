-- Every answer of the run calls is packed without loss: refusals carry line 0, and at most so many threads are in use as may be.
use Rattle.std.specs.Prelude.{Ok, Err}
use Prim.Native.Nat.{ℕ}
use native.Mathlib.Omega.{arith}
use mathlib.Core.Bool.{Bool, true, false, not, ◌||◌}
use mathlib.Core.List.{List, [], ◌∷◌}
use Rattle.std.specs.Prelude.{Option, None as none, Some as some}
use mathlib.Core.Path.{◌≡◌, refl, ◌∙◌, ap}
use lib.ListN.{length, take}
use Rattle.program.specs.Program.{Program}
use Rattle.program.specs.Test.{pick}
use Rattle.format.specs.declared.Reason.{Reason}
use Rattle.format.specs.declared.Reason.TheVariants.{StoreTooShort, StoreEmpty, StoreUnsound}
use Rattle.format.specs.Refusals.{refusal, Result, refused, accepted}
use Rattle.format.specs.Text.{Bytes}
use Rattle.format.specs.Document.{Document}
use Rattle.calls.specs.Answers.{refusal_answer}
use Rattle.calls.specs.Calls.{is_empty, unsound, opened_fixed}
use Rattle.calls.specs.Layout.{store_size, decode}
use Rattle.machine.specs.declared.ThreadRecord.{ThreadRecord}
use Rattle.machine.specs.Machine.{Change, Order, changes, changed_all, within}
use Rattle.run_memory.specs.RunMemory.{machine_in, sound_run}
use Rattle.run_calls.specs.RunCalls.{RunAnswer}
use Rattle.run_calls.specs.RunCalls.{run_answer, RunOutcome, LeavesRun, too_short, not_begun, store_opened, run_opened, begun_in, begin_with, begin_on, begin, made, move_with, move_on}
use Rattle.run_calls.proofs.Left.{within_told}
use Rattle.packing.specs.Packing.{packed, number_bits, Lossless, answer_of}
use Rattle.packing.specs.Values.{one_value}
use Rattle.packing.proofs.Unpacking.{unpacked, values_back, refusal_back}
use Rattle.packed_run.specs.PackedRun.{PackedLeaves}

abbrev Packs : RunAnswer → Type 0
Packs a = Lossless number_bits (run_answer a)

-- a refusal at line 0
data Zero {A : Type 0} : Result A → Type 0 where
  none_else : (reason : Reason) → Zero (refused (refusal reason 0))
  fine : {a : A} → Zero (accepted a)

pick_zero : {A : Type 0} (b : Bool) {x y : Result A} → Zero x → Zero y → Zero (pick b x y)
pick_zero true h k = h
pick_zero false h k = k

fixed_zero : (fixed : Bytes) → Zero (opened_fixed fixed)
unfolding opened_fixed
fixed_zero fixed = go (is_empty fixed) (unsound fixed) refl refl
  where
    go : (a b : Bool) → is_empty fixed ≡ a → unsound fixed ≡ b → Zero (opened_fixed fixed)
    go true b p q = rw (p, opened_fixed) (none_else StoreEmpty)
    go false true p q = rw (p, q, opened_fixed) (none_else StoreUnsound)
    go false false p q = rw (p, q, opened_fixed) fine

module _ (store run : Bytes) (lent : ℕ) (ts : List ThreadRecord) where
  begin_zero : Zero (store_opened store run lent)
  unfolding store_opened
  begin_zero = pick_zero (too_short store run lent) (none_else StoreTooShort) (fixed_zero (take store_size store))

  run_zero : Zero (run_opened store run lent ts)
  unfolding run_opened
  run_zero =
      pick_zero (too_short store run lent) (none_else StoreTooShort)
      (pick_zero (is_empty (take store_size store) || not_begun run) (none_else StoreEmpty)
      (pick_zero (unsound (take store_size store) || not (sound_run (decode (take store_size store)).rows run ts)) (none_else StoreUnsound) fine))

  pub begin_lossless : Packs (begin_on store run lent ts).answer
  unfolding begin_on begin_with begun_in run_answer refusal_answer
  begin_lossless = go (store_opened store run lent) begin_zero
    where
      go : (x : Result Document) → Zero x → Packs (begin_with run ts x).answer
      go x (none_else r) = omega arith
      go x fine = (omega arith, tt)

  pub move_lossless : (o : Order) → Packs (move_on store run lent ts o).answer
  unfolding move_on move_with made run_answer refusal_answer
  move_lossless o = go (run_opened store run lent ts) run_zero
    where
      fitting : (cs : List (ℕ × Change)) (b : Bool) → within (changed_all (machine_in run ts) cs) ≡ b → Packs (made run ts (some cs)).answer
      fitting cs true w = let l = (within_told (changed_all (machine_in run ts) cs) w).threads in rw (w, made) (omega (arith, l), tt)
      fitting cs false w = rw (w, made) (omega arith)

      making : (q : Option (List (ℕ × Change))) → Packs (made run ts q).answer
      making none = omega arith
      making (some cs) = fitting cs (within (changed_all (machine_in run ts) cs)) refl

      go : (x : Result Program) → Zero x → Packs (move_with run ts o x).answer
      go x (none_else r) = omega arith
      go x (fine {a = p}) = making (changes p (machine_in run ts) o)

pub run_is : (a : RunAnswer) → answer_of one_value a ≡ run_answer a
unfolding run_answer
run_is (Ok n) = refl
run_is (Err r) = refl

-- so that what a caller reads in the number is the answer
run_back : (a : RunAnswer) → Packs a → unpacked number_bits 1 (packed number_bits (run_answer a)) ≡ run_answer a
unfolding run_answer
run_back (Ok n) h = values_back number_bits (n ∷ []) h
run_back (Err r) h = refusal_back number_bits 1 r

pub begin_read : (store run : Bytes) (ts : List ThreadRecord) → let a = run_answer (begin store run ts).answer in unpacked number_bits 1 (packed number_bits a) ≡ a
begin_read store run ts = run_back (begin store run ts).answer (begin_lossless store run (length ts) ts)

pub move_read : (store run : Bytes) (ts : List ThreadRecord) (o : Order) → let a = run_answer (move_on store run (length ts) ts o).answer in unpacked number_bits 1 (packed number_bits a) ≡ a
move_read store run ts o = run_back (move_on store run (length ts) ts o).answer (move_lossless store run (length ts) ts o)

-- the packed answer
pub packed_leaves : {o : RunOutcome} {a : RunAnswer} {x : ℕ} {run : Bytes} {ts : List ThreadRecord} → LeavesRun o a run ts → x ≡ packed number_bits (run_answer a) → PackedLeaves o x run ts
packed_leaves h e = record { answer_is = e ∙ ap (λ (a : RunAnswer). packed number_bits (run_answer a)) h.answer_is; run_is = h.run_is; threads_are = h.threads_are }
