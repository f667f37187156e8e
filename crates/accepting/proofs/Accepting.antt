-- What load and judge promise, put together.
use Rattle.std.specs.Prelude.{Ok, Err}
use Prim.Native.Nat.{ℕ}
use native.Mathlib.Omega.{arith}
use mathlib.Core.Path.{◌≡◌, refl, ◌∙◌}
use Rattle.format.specs.declared.Refusal.{Refusal}
use Rattle.format.specs.Text.{Bytes}
use Rattle.calls.specs.declared.Counts.{Counts}
use Rattle.calls.specs.Answers.{JudgeAnswer}
use Rattle.calls.specs.Answers.{refusal_answer, load_answer, judge_answer}
use Rattle.calls.specs.Calls.{Leaves, unaltered, load, judge}
use Rattle.demands.proofs.Promises.{sound}
use Rattle.accepting.specs.Accepting.{ClaimsFit, SoundFile, judged_after, Accepts}

module _ (file store : Bytes) {left : Bytes} where
  pub file_refused : {r : Refusal} → Leaves (load file store) (Err r) left → Accepts file store (Err r) left
  unfolding judged_after judge_answer refusal_answer
  file_refused loads =
      record {
        answer_is = rw (← loads.answer_is);
        bytes_are = loads.bytes_are;
        sound = λ n e. let z : ◌≡◌ {A = ℕ} 0 1 = cc in absurd (omega arith);
      }

  pub file_judged : {c : Counts} {a : JudgeAnswer} {after : Bytes} → Leaves (load file store) (Ok c) left → Leaves (unaltered (judge left) left) a after
      → Accepts file store a left
  unfolding judged_after SoundFile ClaimsFit load_answer
  file_judged {c} loads judges =
      record {
        answer_is = judges.answer_is ∙ rw (← loads.answer_is, loads.bytes_are);
        bytes_are = loads.bytes_are;
        sound = λ n e. sound file store loads judges _ n refl e;
      }
