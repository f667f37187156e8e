-- What the functions that read a line into a store promise.
use Rattle.std.specs.Prelude.{ℕ, ◌≡◌, length, take, drop}
use Rattle.std.specs.Prelude.{Option, None as none, Some as some, Result, Ok, Err}
use Rattle.program.specs.Maybe.{◌>>=◌}
use Rattle.format.specs.declared.Reason.{Reason}
use Rattle.format.specs.declared.Reason.TheVariants.{NotALine}
use Rattle.format.specs.declared.Section.{Section}
use Rattle.format.specs.Text.{Bytes, ascii, expect}
use Rattle.format.specs.Document.{Document, Line}
use Rattle.format.specs.Read.{read_content, line_fault, add}
use Rattle.calls.specs.Layout.{store_size, encode}
use Rattle.progress.specs.declared.Progress.{Progress}
use Rattle.progress.specs.Progress.{Matches, Small}

-- the store begins with the document's bytes
abbrev pub Stored : Bytes → Document → Type 0
Stored store d = take store_size store ≡ encode d

-- what stays whatever is read: the store's length, and what is past its fixed size
pub record Past (store left : Bytes) : Type 0 where
  pub length_stays : length left ≡ length store
  pub rest_stays : drop store_size left ≡ drop store_size store

-- a line's answer: what has been read with it and the position of the next line, or why it is refused
abbrev pub LineRead : Type 0
LineRead = Result (Progress × ℕ) Reason

-- the progress of an answer stays within the limit
abbrev pub SmallAnswer : LineRead → Type 0
SmallAnswer (Ok (q, next)) = Small q
SmallAnswer (Err reason) = Unit {0}

-- the rest of a line behind its number and a space
unfoldable pub read_rest : Section → ℕ → Bytes → ℕ → Option (Line × ℕ)
read_rest section n s at = do
  (line, t) ← read_content section n s at
  next ← expect (ascii "]\n") s t
  some (line, next)

-- a line without fault is kept: the progress and the store are those of the document with it
pub record LineKept (d : Document) (l : Line) (next : ℕ) (answer : LineRead) (left : Bytes) : Type 0 where
  pub progress : Progress
  pub answer_is : answer ≡ Ok (progress, next)
  pub matches : Matches (add d l) progress
  pub stored : Stored left (add d l)

abbrev pub FaultIs : Document → Line → ℕ → Option Reason → LineRead → Bytes → Type 0
FaultIs d l next (some reason) answer left = answer ≡ Err reason
FaultIs d l next none answer left = LineKept d l next answer left

-- the answer for a line, where d has been read before it
abbrev pub AnswerIs : Document → Option (Line × ℕ) → LineRead → Bytes → Type 0
AnswerIs d none answer left = answer ≡ Err NotALine
AnswerIs d (some x) answer left = FaultIs d x.0 x.1 (line_fault d x.0) answer left

-- the contract of a function that reads a line, or the rest of one, into a store
pub record LineIs (line : Option (Line × ℕ)) (p : Progress) (store : Bytes) (answer : LineRead) (left : Bytes) : Type 0 where
  pub past : Past store left
  pub small : SmallAnswer answer
  pub answers : (d : Document) → Stored store d → Matches d p → AnswerIs d line answer left
