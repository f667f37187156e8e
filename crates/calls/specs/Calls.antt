-- The four calls: for each, the answer and the lent bytes afterwards, as a function of the arguments.
--   load     Check.check of format, then `encode`          (1 to 9; 20)
--   judge    `opened`, then Judging.judge_document          (20, 21, 22; 10, 11)
--   verdict  `opened`, then Judging.verdict_document        (20, 21, 22, 24; 10)
--   write    `opened`, then Print.document_text of format   (20, 21, 22, 23)
-- The contract of each public function is equality with its definition here; by `Leaves`, for the answer and the lent bytes.
use Rattle.std.specs.Prelude.{Ok, Err}
use Rattle.std.specs.Prelude.{ℕ, Bool, true, false, not, ◌&&◌, List, [], ◌∷◌, ◌++◌, ◌≡◌, length, take, drop, replicate, ltb, eqb}
use Rattle.program.specs.Each.{every}
use Rattle.program.specs.Program.{chan_row}
use Rattle.format.specs.declared.Reason.TheVariants.{StoreTooShort, StoreEmpty, StoreUnsound, OutputTooShort, NotAChannel}
use Rattle.format.specs.declared.Refusal.{Refusal}
use Rattle.format.specs.Refusals.{refusal, Result, refused, accepted}
use Rattle.format.specs.Text.{Bytes}
use Rattle.format.specs.Document.{Document}
use Rattle.format.specs.Print.{document_text}
use Rattle.format.specs.WellFormed.{well_formed}
use Rattle.format.specs.Check.{check}
use Rattle.calls.specs.declared.Counts.{Counts}
use Rattle.calls.specs.Answers.{LoadAnswer}
use Rattle.calls.specs.Answers.{JudgeAnswer}
use Rattle.calls.specs.Answers.{WriteAnswer}
use Rattle.calls.specs.declared.VerdictAnswer.{VerdictAnswer}
use Rattle.calls.specs.Layout.{store_size, encode, decode, same}
use Rattle.calls.specs.Judging.{judge_document, verdict_document}

-- the answer, and the lent bytes afterwards
pub record Outcome (A : Type 0) : Type 0 where
  pub answer : A
  pub bytes : Bytes

-- an answer and the bytes left are those of an outcome
pub record Leaves {A : Type 0} (o : Outcome A) (answer : A) (left : Bytes) : Type 0 where
  pub answer_is : answer ≡ o.answer
  pub bytes_are : left ≡ o.bytes

-- the outcome of a call that reads the lent bytes and alters none
abbrev pub unaltered : {A : Type 0} → A → Bytes → Outcome A
unaltered answer lent = record { answer = answer; bytes = lent }

-- 22: "bytes that no load leaves, the length limit set aside"
unfoldable pub unsound : Bytes → Bool
unsound fixed = let d = decode fixed in not (well_formed d && same (encode d) fixed)

-- 21: "empty store, its fixed size all zero"
unfoldable pub is_empty : Bytes → Bool
is_empty fixed = every (λ b. eqb b 0) fixed

-- the store's fixed size, where the store is long enough: 21, then 22, or the document in it
unfoldable pub opened_fixed : Bytes → Result Document
opened_fixed fixed =
    elim (is_empty fixed) [
      | true ↦ refused (refusal StoreEmpty 0)
      | false ↦ elim (unsound fixed) [ true ↦ refused (refusal StoreUnsound 0) | false ↦ accepted (decode fixed) ]
    ]

-- "Line 0; all alter nothing; tested first, in this order. 20: store shorter than its fixed size."
unfoldable pub opened : Bytes → Result Document
opened store = elim (ltb (length store) store_size) [ true ↦ refused (refusal StoreTooShort 0) | false ↦ opened_fixed (take store_size store) ]

unfoldable pub counts : Document → Counts
counts d = record { rows = length d.rows; flows = length d.flows; comms = length d.comms; claims = length d.claims }

-- the store with its fixed size replaced: "Lent bytes past the store's fixed size are never altered"
unfoldable pub refilled : Bytes → Bytes → Bytes
refilled store fixed = fixed ++ drop store_size store

-- "1 to 9 zero the store, which is then empty"
unfoldable pub loaded : Bytes → Result Document → Outcome LoadAnswer
loaded store (refused r) = record { answer = Err r; bytes = refilled store (replicate store_size 0) }
loaded store (accepted d) = record { answer = Ok (counts d); bytes = refilled store (encode d) }

-- what a call that alters a loaded document answers and leaves: what load would on the outcome's text, "were there no length limit"; refused, it alters nothing
unfoldable pub stored : Bytes → Result Document → Outcome LoadAnswer
stored store (refused r) = record { answer = Err r; bytes = store }
stored store (accepted d) = loaded store (accepted d)

-- "load never gives 21 or 22"
unfoldable pub load : Bytes → Bytes → Outcome LoadAnswer
load file store =
    elim (ltb (length store) store_size) [
      | true ↦ record { answer = Err (refusal StoreTooShort 0); bytes = store }
      | false ↦ loaded store (check file)
    ]

unfoldable pub judge_answered : Result ℕ → JudgeAnswer
judge_answered (refused r) = Err r
judge_answered (accepted n) = Ok n

-- go on with the document, or pass the refusal on
unfoldable pub and_then : {A B : Type 0} → Result A → (A → Result B) → Result B
and_then (refused r) f = refused r
and_then (accepted a) f = f a

unfoldable pub judge : Bytes → JudgeAnswer
judge store = judge_answered (and_then (opened store) judge_document)

-- 24: "verdict on a number that isn't a chan row"
unfoldable pub verdict_of : ℕ → Document → Result (List Bool)
verdict_of c d = elim (chan_row d.rows c) [ true ↦ verdict_document d c | false ↦ refused (refusal NotAChannel 0) ]

-- no word holds where the call is refused
abbrev pub no_verdict : Refusal → VerdictAnswer
no_verdict r = record { status = Err r; words = false ∷ false ∷ false ∷ false ∷ false ∷ [] }

unfoldable pub verdict_given : Result (List Bool) → VerdictAnswer
verdict_given (refused r) = no_verdict r
verdict_given (accepted bs) = record { status = Ok tt; words = bs }

unfoldable pub verdict : Bytes → ℕ → VerdictAnswer
verdict store c = verdict_given (and_then (opened store) (verdict_of c))

-- 23: "the text doesn't fit the output"; "the rest of the output unaltered"
unfoldable pub written : Bytes → Result Bytes → Outcome WriteAnswer
written out (refused r) = record { answer = Err r; bytes = out }
written out (accepted text) =
    elim (ltb (length out) (length text)) [
      | true ↦ record { answer = Err (refusal OutputTooShort 0); bytes = out }
      | false ↦ record { answer = Ok (length text); bytes = text ++ drop (length text) out }
    ]

unfoldable pub write : Bytes → Bytes → Outcome WriteAnswer
write store out = written out (and_then (opened store) λ d. accepted (document_text d))
