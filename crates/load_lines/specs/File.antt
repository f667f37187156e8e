-- What the functions that read a file's lines into a store promise.
use Rattle.std.specs.Prelude.{ℕ, ◌≡◌, Ok, Err}
use Rattle.format.specs.declared.Reason.TheVariants.{NotALine}
use Rattle.format.specs.declared.Refusal.{Refusal}
use Rattle.format.specs.Refusals.{refusal, Result, refused, accepted}
use Rattle.format.specs.Text.{Bytes}
use Rattle.format.specs.Document.{Document}
use Rattle.progress.specs.declared.Progress.{Progress}
use Rattle.progress.specs.Progress.{Matches}
use Rattle.load_line.specs.Line.{LineRead, Stored, Past}
use Rattle.load_lines.specs.Answers.{FileRead}

-- the refusal of a line that is not kept
abbrev pub line_refusal : LineRead → ℕ → Refusal
line_refusal (Ok (q, next)) line = refusal NotALine line
line_refusal (Err reason) line = refusal reason line

-- what reading a whole file answers: the refusal, or a progress and a store that are those of the document
pub record FileKept (d : Document) (answer : FileRead) (left : Bytes) : Type 0 where
  pub progress : Progress
  pub answer_is : answer ≡ Ok progress
  pub matches : Matches d progress
  pub stored : Stored left d

abbrev pub FileAnswer : Result Document → FileRead → Bytes → Type 0
FileAnswer (refused r) answer left = answer ≡ Err r
FileAnswer (accepted d) answer left = FileKept d answer left

pub record FileIs (file : Result Document) (store : Bytes) (answer : FileRead) (left : Bytes) : Type 0 where
  pub past : Past store left
  pub answers : FileAnswer file answer left
