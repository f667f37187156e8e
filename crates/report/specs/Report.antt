-- "The program prints claims held, then each chan row with its verdict, rows rising; refused, only `[refused NUMBER LINE]`": the text of a file's report, and the call that writes it.
use Rattle.std.specs.Prelude.{Ok, Err}
use Rattle.std.specs.Prelude.{ℕ, suc, ◌*◌, Bool, true, false, List, [], ◌∷◌, ◌++◌, map, ◌≡◌, length, drop, ltb}
use Rattle.program.specs.Each.{collect}
use Rattle.program.specs.Test.{pick}
use Rattle.program.specs.Program.{chan_row}
use Rattle.format.specs.declared.Reason.TheVariants.{StoreTooShort, OutputTooShort}
use Rattle.format.specs.declared.Refusal.{Refusal}
use Rattle.format.specs.Limits.{row_limit}
use Rattle.format.specs.Text.{Bytes, ascii, argument}
use Rattle.format.specs.Refusals.{number, refusal, Result, refused, accepted}
use Rattle.format.specs.Document.{Document}
use Rattle.format.specs.Check.{check}
use Rattle.calls.specs.Answers.{WriteAnswer}
use Rattle.calls.specs.Layout.{store_size, counting}
use Rattle.calls.specs.Judging.{verdict_words, word_holds, reaches, judge_document}
use Rattle.calls.specs.Calls.{load}

-- ---- the text

-- `[refused NUMBER LINE]`
unfoldable pub refused_text : Refusal → Bytes
refused_text r = ascii "[refused" ++ (argument (number r.reason) ++ (argument r.line ++ ascii "]\n"))

-- "claims held": `[accepted N]`
unfoldable pub accepted_text : ℕ → Bytes
accepted_text n = ascii "[accepted" ++ (argument n ++ ascii "]\n")

unfoldable pub yes_no_text : Bool → Bytes
yes_no_text true = ascii "yes"
yes_no_text false = ascii "no"

-- words, each with a space before it, and the closing bracket
unfoldable pub more_words_text : List Bool → Bytes
more_words_text [] = ascii "]"
more_words_text (w ∷ ws) = ascii " " ++ (yes_no_text w ++ more_words_text ws)

-- `[yes no ..]`
unfoldable pub words_text : List Bool → Bytes
words_text [] = ascii "[]"
words_text (w ∷ ws) = ascii "[" ++ (yes_no_text w ++ more_words_text ws)

-- `[channel R [yes no ..]]`
unfoldable pub channel_text : ℕ → List Bool → Bytes
channel_text c words = ascii "[channel" ++ (argument c ++ (ascii " " ++ (words_text words ++ ascii "]\n")))

-- row c: its verdict where it is a chan row, nothing where it is not
unfoldable pub channel_line : Document → ℕ → Bytes
channel_line d c = pick (chan_row d.rows c) (channel_text c (map (word_holds d (reaches d) c) verdict_words)) []

-- "each chan row with its verdict, rows rising"
unfoldable pub channel_lines : Document → Bytes
channel_lines d = collect (channel_line d) (counting (length d.rows) 0 λ c. c)

unfoldable pub judged_text : Document → Result ℕ → Bytes
judged_text d (refused r) = refused_text r
judged_text d (accepted n) = accepted_text n ++ channel_lines d

unfoldable pub checked_text : Result Document → Bytes
checked_text (refused r) = refused_text r
checked_text (accepted d) = judged_text d (judge_document d)

-- what is printed of a file
unfoldable pub report : Bytes → Bytes
report file = checked_text (check file)

-- ---- the call

-- no line is longer (proofs/Report): `[channel 159 [yes yes yes yes yes]]` and byte 10
abbrev pub line_limit : ℕ
line_limit = 36

-- no report is longer: a first line, and one for each row
abbrev pub report_limit : ℕ
report_limit = line_limit * suc row_limit

-- the answer, and the lent bytes afterwards
pub record Reporting : Type 0 where
  pub answer : WriteAnswer
  pub store : Bytes
  pub out : Bytes

-- an answer and the bytes left are those of a report
pub record LeavesReport (o : Reporting) (answer : WriteAnswer) (store out : Bytes) : Type 0 where
  pub answer_is : answer ≡ o.answer
  pub store_is : store ≡ o.store
  pub out_is : out ≡ o.out

-- 20, then 23 where a report may not fit the output, both altering nothing; else the store as load leaves it, and the report at the head of the output.
-- A file that is refused has a report too.
unfoldable pub reported : Bytes → Bytes → Bytes → Reporting
reported file store out =
    elim (ltb (length store) store_size) [
      | true ↦ record { answer = Err (refusal StoreTooShort 0); store = store; out = out }
      | false ↦ elim (ltb (length out) report_limit) [
        | true ↦ record { answer = Err (refusal OutputTooShort 0); store = store; out = out }
        | false ↦ record { answer = Ok (length (report file)); store = (load file store).bytes; out = report file ++ drop (length (report file)) out }
      ]
    ]
