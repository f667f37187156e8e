-- The values of each call's answer are those that its definition gives.
use Rattle.std.specs.Prelude.{Ok, Err, ◌≡◌, refl}
use Rattle.calls.specs.Answers.{LoadAnswer, JudgeAnswer, WriteAnswer, load_answer, judge_answer, write_answer}
use Rattle.packing.specs.Packing.{answer_of}
use Rattle.packing.specs.Values.{count_values, one_value}

pub load_is : (a : LoadAnswer) → answer_of count_values a ≡ load_answer a
unfolding load_answer
load_is (Ok c) = refl
load_is (Err r) = refl

pub judge_is : (a : JudgeAnswer) → answer_of one_value a ≡ judge_answer a
unfolding judge_answer
judge_is (Ok n) = refl
judge_is (Err r) = refl

pub write_is : (a : WriteAnswer) → answer_of one_value a ≡ write_answer a
unfolding write_answer
write_is (Ok n) = refl
write_is (Err r) = refl
