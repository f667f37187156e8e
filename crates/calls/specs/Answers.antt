-- "Where an answer is an enum, a definition gives this paper's number and values for every case."
use Rattle.std.specs.Prelude.{ℕ, Bool, true, false, List, [], ◌∷◌, map, ⊤, Result, Ok, Err}
use Rattle.format.specs.declared.Refusal.{Refusal}
use Rattle.format.specs.Refusals.{number}
use Rattle.calls.specs.declared.Counts.{Counts}
use Rattle.calls.specs.declared.VerdictAnswer.{VerdictAnswer}

-- what each call answers if it is accepted, or why it is refused: the counts, the count of claims, the bytes written, and no more than that a verdict is given
abbrev pub LoadAnswer : Type 0
LoadAnswer = Result Counts Refusal

abbrev pub JudgeAnswer : Type 0
JudgeAnswer = Result ℕ Refusal

abbrev pub WriteAnswer : Type 0
WriteAnswer = Result ℕ Refusal

abbrev pub VerdictStatus : Type 0
VerdictStatus = Result ⊤ Refusal

-- "Answer: number and line", or the values of an accepted call
pub data Answer : Type 0 where
  turned_back : ℕ → ℕ → Answer
  answered : List ℕ → Answer

unfoldable pub refusal_answer : Refusal → Answer
refusal_answer r = turned_back (number r.reason) r.line

-- "An accepted load answers the counts of row, flow, comm and claim lines"
unfoldable pub load_answer : LoadAnswer → Answer
load_answer (Ok c) = answered (c.rows ∷ c.flows ∷ c.comms ∷ c.claims ∷ [])
load_answer (Err r) = refusal_answer r

-- "judge the count of claims"
unfoldable pub judge_answer : JudgeAnswer → Answer
judge_answer (Ok n) = answered (n ∷ [])
judge_answer (Err r) = refusal_answer r

-- "write the bytes written"
unfoldable pub write_answer : WriteAnswer → Answer
write_answer (Ok n) = answered (n ∷ [])
write_answer (Err r) = refusal_answer r

-- "Verdict answers with four yes or no together", and one-sync as the fifth: 1 for yes, 0 for no
unfoldable pub yes_or_no : Bool → ℕ
yes_or_no true = 1
yes_or_no false = 0

unfoldable pub status_answer : VerdictStatus → List ℕ → Answer
status_answer (Ok tt) words = answered words
status_answer (Err r) words = refusal_answer r

unfoldable pub verdict_answer : VerdictAnswer → Answer
verdict_answer v = status_answer v.status (map yes_or_no v.words)
