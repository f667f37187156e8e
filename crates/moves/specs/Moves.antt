-- The moves of the code.
use Rattle.std.specs.Prelude.{ℕ, List, [], ◌∷◌}
use Rattle.std.specs.Prelude.{Option, Some as some}
use Rattle.program.specs.Maybe.{◌>>=◌}
use Rattle.machine.specs.Machine.{Change}
use Rattle.thread_changes.specs.declared.ThreadChange.{ThreadChange}
use Rattle.thread_changes.specs.Changes.{change_in}
use Rattle.meetings.specs.declared.Met.{Met}
use Rattle.meetings.specs.Meetings.{meeting_in}

-- the changes of a move: of one thread alone, and of a receiver and then a sender
unfoldable pub alone_in : ℕ → Option ThreadChange → Option (List (ℕ × Change))
alone_in n x = change_in x >>= λ c. some ((n, c) ∷ [])

unfoldable pub together_in : ℕ → ℕ → Option Met → Option (List (ℕ × Change))
together_in sender receiver x = meeting_in x >>= λ (c, d). some ((receiver, c) ∷ (sender, d) ∷ [])
