-- What opening a store answers.
use Rattle.std.specs.Prelude.{ℕ, ◌≡◌, Result as Answered, Ok, Err}
use Rattle.format.specs.Limits.{row_limit}
use Rattle.format.specs.Text.{Bytes}
use Rattle.format.specs.Refusals.{Result, refused, accepted}
use Rattle.format.specs.Document.{Document}
use Rattle.calls.specs.Canonical.{count_rows}
use Rattle.calls.specs.Layout.{decode}
use Rattle.format.specs.declared.Refusal.{Refusal}

-- how many rows the store of a call has, or why it is refused
abbrev pub Opened : Type 0
Opened = Answered ℕ Refusal

-- a store that opens: its rows are counted, and its document is the one of its bytes
pub record Opens (d : Document) (fixed : Bytes) (answer : Opened) : Type 0 where
  pub document_is : d ≡ decode fixed
  pub answer_is : answer ≡ Ok (count_rows row_limit fixed)

abbrev pub OpenedIs : Result Document → Bytes → Opened → Type 0
OpenedIs (refused r) fixed answer = answer ≡ Err r
OpenedIs (accepted d) fixed answer = Opens d fixed answer
