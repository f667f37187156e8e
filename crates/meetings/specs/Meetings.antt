-- What a meeting does, as the struct of the code has it.
use Rattle.std.specs.Prelude.{[], ◌∷◌}
use Rattle.std.specs.Prelude.{Option, None as none, Some as some}
use Rattle.machine.specs.Machine.{Change}
use Rattle.thread_changes.specs.Changes.{change_of}
use Rattle.meetings.specs.declared.Met.{Met}

abbrev pub changes_by : Met → Change × Change
changes_by x = (change_of (x.received ∷ []) [] x.receiver [], change_of (x.sent ∷ []) [] x.sender [])

abbrev pub meeting_in : Option Met → Option (Change × Change)
meeting_in none = none
meeting_in (some x) = some (changes_by x)
